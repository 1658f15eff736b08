-- What is printed
use Rattle.std.specs.Prelude.{◌≡◌, ℕ, List, [], ◌∷◌, ◌++◌, length, Some, None, Ok, Err, string_bytes, codes, unwrap_or, Option, Result, String}
use Rattle.std.specs.declared.alloc.Global.{Global}
use Rattle.std.specs.Str.{chars as decodes}
use Rattle.levels.specs.Faults.{number_of}
use Rattle.levels.specs.declared.classes.BidiClass.TheVariants.{L, WS}
use Rattle.levels.specs.declared.fault.ClassCause.{ClassCause}
use Rattle.levels.specs.declared.fault.ClassTable.{ClassTable}
use Rattle.refusals.specs.declared.fault.Fault.{Fault}
use Rattle.levels.specs.declared.fault.ClassTable.{ClassTable}
use Rattle.levels.specs.Tables.{table_name as class_table_name}
use Rattle.visual_order.specs.Cause.{cause_number}
use Rattle.visual_order.specs.Verdict.{verdict}
use Rattle.visual_order.specs.VisualOrder.{visual}
use Rattle.visual_order.specs.declared.fault.OrderCause.{OrderCause}
use Rattle.visual_order.specs.declared.fault.OrderTable.{OrderTable}
use Rattle.visual_order.specs.declared.fault.OrderTable.{OrderTable}
use Rattle.visual_order.specs.Tables.{table_name}
use Rattle.refusals.specs.Line.{refusal_bytes}
use Rattle.seen_text.specs.Classes.{Resets, resets_line}
use Rattle.seen_text.specs.Format.{Asks, Counted}
use Rattle.seen_text.specs.Numbers.{spelled}
use Rattle.seen_text.specs.Resets.{reset_levels, reset_verdict}
use Rattle.seen_text.specs.Seen.{characters_of, seen_bytes}
use Rattle.program.specs.declared.fault.InputFault.{InputFault}
use Rattle.seen_text.specs.declared.format_fault.FormatFault.{FormatFault}
use Rattle.program.specs.Fault.{MatchInput}

-- a refusal of the visual order in one line, as "refused 1 at 16384 in elements", and one of the level resets
abbrev pub order_refusal : Fault OrderCause OrderTable → List ℕ
order_refusal fault = unwrap_or (refusal_bytes (cause_number fault.cause) fault.row (Some (table_name fault.table))) [] ++ (10 ∷ [])

abbrev pub class_refusal : Fault ClassCause ClassTable → List ℕ
class_refusal fault = unwrap_or (refusal_bytes (number_of fault.cause) fault.row (Some (class_table_name fault.table))) [] ++ (10 ∷ [])

-- the order in one line, and the text in that order in another
abbrev pub two_lines : List ℕ → List ℕ → List ℕ
two_lines chars order = spelled order ++ (10 ∷ (seen_bytes chars order ++ (10 ∷ [])))

-- what the verdict on the order makes of a text with levels: a grant the two lines, a refusal its own
abbrev pub printed : Result (Unit {0}) (Fault OrderCause OrderTable) → List ℕ → List ℕ → List ℕ
printed (Ok _) text levels = two_lines (decodes text) (visual levels)
printed (Err fault) text levels = order_refusal fault

-- what is printed for a text with levels
abbrev pub seen_lines : List ℕ → List ℕ → List ℕ
seen_lines text levels = printed (verdict (length levels) (length levels)) text levels

-- what the verdict on the level resets makes of a text with the levels after them
abbrev pub reset_printed : Result (Unit {0}) (Fault ClassCause ClassTable) → List ℕ → List ℕ → List ℕ
reset_printed (Ok _) text levels = seen_lines text levels
reset_printed (Err fault) text levels = class_refusal fault

-- What is printed for a text with levels. Where the level resets are asked for, the levels that are ordered are those after rule L1
abbrev pub shown : List ℕ → List ℕ → Option Resets → List ℕ
shown text levels None = seen_lines text levels
shown text levels (Some resets) = reset_printed (reset_verdict resets (characters_of 0 (decodes text) levels)) text (reset_levels resets (characters_of 0 (decodes text) levels))

-- Of a text with levels: what is printed for them, or a fault exactly where the counts differ. Only memory may always be wanting
abbrev pub Prints : List ℕ → List ℕ → Option Resets → Result (String Global) (InputFault FormatFault) → Type 0
Prints text levels resets given =
    MatchInput given (λ answer. Counted text levels resets × (string_bytes answer ≡ shown text levels resets)) (Counted text levels resets → ⊥)

-- An input that asks for a text with levels is answered by what is printed for them. It is called faulty only where it asks for
-- nothing; only memory may always be wanting
abbrev pub Answers : List ℕ → Result (String Global) (InputFault FormatFault) → Type 0
Answers bytes given =
    MatchInput given (λ answer. (text : List ℕ) × (levels : List ℕ) × (resets : Option Resets) × Asks bytes text levels resets × (string_bytes answer ≡ shown text levels resets))
    ((text levels : List ℕ) (resets : Option Resets) → Asks bytes text levels resets → ⊥)

-- A worked example: "box KEY 12" with the levels 0 0 0 0 1 1 1 1 2 2 is seen as "box 12 YEK"
abbrev pub Example : Type 0
Example =
    (visual (0 ∷ 0 ∷ 0 ∷ 0 ∷ 1 ∷ 1 ∷ 1 ∷ 1 ∷ 2 ∷ 2 ∷ []) ≡ 0 ∷ 1 ∷ 2 ∷ 3 ∷ 8 ∷ 9 ∷ 7 ∷ 6 ∷ 5 ∷ 4 ∷ [])
    × (seen_bytes (codes "box KEY 12") (0 ∷ 1 ∷ 2 ∷ 3 ∷ 8 ∷ 9 ∷ 7 ∷ 6 ∷ 5 ∷ 4 ∷ []) ≡ codes "box 12 YEK")

-- Another with level resets: of "ab  " with the levels 1 1 1 1 and the third line "0 L L WS WS", the two spaces get level 0, so that
-- they are seen behind "ba"
abbrev pub ResetExample : Type 0
ResetExample =
    (resets_line (record { paragraph = 0; classes = L ∷ L ∷ WS ∷ WS ∷ [] }) ≡ codes "0 L L WS WS")
    × (reset_levels (record { paragraph = 0; classes = L ∷ L ∷ WS ∷ WS ∷ [] }) (characters_of 0 (codes "ab  ") (1 ∷ 1 ∷ 1 ∷ 1 ∷ [])) ≡ 1 ∷ 1 ∷ 0 ∷ 0 ∷ [])
    × (visual (1 ∷ 1 ∷ 0 ∷ 0 ∷ []) ≡ 1 ∷ 0 ∷ 2 ∷ 3 ∷ [])
