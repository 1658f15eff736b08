-- What `see` answers
use Rattle.std.specs.Prelude.{◌≡◌, ℕ, ◌<◌, List, length, Ok, Err, vec_items, string_bytes, Result, Vec, ◌≢◌, slice_index}
use Rattle.std.specs.declared.alloc.Global.{Global}
use Rattle.std.specs.Str.{chars}
use Rattle.refusals.specs.declared.fault.Fault.{Fault}
use Rattle.visual_order.specs.declared.fault.OrderCause.{OrderCause}
use Rattle.visual_order.specs.declared.fault.OrderTable.{OrderTable}
use Rattle.visual_order.specs.Verdict.{verdict}
use Rattle.visual_order.specs.VisualOrder.{visual}
use Rattle.seen_text.specs.Seen.{seen_bytes}
use Rattle.seen_text.specs.declared.see_fault.SeeFault.{SeeFault}
use Rattle.seen_text.specs.declared.see_fault.SeeFault.TheVariants.{CountsDiffer, Refused, Memory}
use Rattle.seen_text.specs.declared.seen_line.Seen.{Seen}

-- What a line of elements with these levels is answered, the list being as long as the line: the order of the rule, in which each index is that
-- of an element, or the rule's refusal
abbrev pub Orders : List ℕ → Result (Vec ℕ Global) (Fault OrderCause OrderTable) → Type 0
Orders levels (Ok order) =
    (verdict (length levels) (length levels) ≡ Ok tt)
    × (vec_items order ≡ visual levels)
    × ((p : ℕ) → p < length (vec_items order) → slice_index (vec_items order) p < length levels)
Orders levels (Err fault) = verdict (length levels) (length levels) ≡ Err fault

-- Of a text's bytes and of levels: where there is a level for each character and the rule refuses nothing, the order is that of the rule and
-- the text is that of its characters in this order. Else the fault says which it is: counts that differ and what they are,
-- or what the rule refuses a line of so many elements with. Only memory may always be wanting
abbrev pub Sees : List ℕ → List ℕ → Result Seen SeeFault → Type 0
Sees text levels (Ok seen) =
    (length (chars text) ≡ length levels)
    × (verdict (length levels) (length levels) ≡ Ok tt)
    × (vec_items seen.order ≡ visual levels)
    × (string_bytes seen.text ≡ seen_bytes (chars text) (visual levels))
Sees text levels (Err (CountsDiffer characters given)) = (characters ≡ length (chars text)) × (given ≡ length levels) × (characters ≢ given)
Sees text levels (Err (Refused fault)) = (length (chars text) ≡ length levels) × (verdict (length levels) (length levels) ≡ Err fault)
Sees text levels (Err Memory) = Unit {0}
