-- What is recorded of a call's answer
use Rattle.std.specs.Prelude.{◌≡◌, ℕ, List, take, Ok, Err, vec_items, Result}
use Rattle.entry.specs.Entries.{measure_of, progress_of}
use Rattle.entry.specs.Steps.{Answer, Outcome, laid, refused, counted}
use Rattle.entry.specs.declared.entry.Entry.{Entry}
use Rattle.entry.specs.declared.fault.EntryFault.{EntryFault}
use Rattle.entry.specs.declared.fault.EntryFault.TheVariants.{Tables, Call}
use Rattle.layout.specs.declared.line.VisualLine.{VisualLine}
use Rattle.runs.specs.declared.event.Event.{Event}
use Rattle.runs.specs.declared.event.Event.TheVariants.{Laid, Refused, Counted}
use Rattle.walk.specs.declared.line.VlRange.{VlRange}

-- a recorded event as an answer
abbrev pub answer_of : {W : Type 0} → Event W → Answer W
answer_of (Laid l) = laid (vec_items l.ranges) (vec_items l.order) l.line
answer_of (Refused f) = refused f
answer_of (Counted n) = counted n

-- a call that lays lines is not refused for tables
abbrev pub ByCall : {W : Type 0} → Result (VisualLine W) EntryFault → Type 0
ByCall (Ok line) = Unit {0}
ByCall (Err (Call f)) = Unit {0}
ByCall (Err (Tables f)) = ⊥

-- The answer that a caller reads off a call's result and the two lists: a line has as many ranges as it tells in their first places, and these are
-- seen in the order of as many places
abbrev pub ReadOff : {W : Type 0} → Result (VisualLine W) EntryFault → List VlRange → List ℕ → Answer W → Type 0
ReadOff (Ok line) ranges order a = a ≡ laid (take line.ranges ranges) (take line.ranges order) line
ReadOff (Err (Call f)) ranges order a = a ≡ refused f
ReadOff (Err (Tables f)) ranges order a = ⊥

-- a call that was performed and recorded came to the outcome o
pub record Performs {S W : Type 0} (o : Outcome W) (before after : Entry S) (event : Event W) : Type 0 where
  pub measure_kept : measure_of after ≡ measure_of before
  pub progress_is : progress_of after ≡ o.progress
  pub answer_is : answer_of event ≡ o.answer
