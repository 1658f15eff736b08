-- A script of calls on an entry
use Rattle.std.specs.Prelude.{ℕ, List, length, Ok, Err, vec_items, Result, Vec}
use Rattle.entry.specs.Entries.{measure_of, progress_of}
use Rattle.entry.specs.Steps.{Answer, Outcome, answers, begun, step}
use Rattle.entry.specs.declared.call.Call.{Call}
use Rattle.entry.specs.declared.entry.Entry.{Entry}
use Rattle.entry.specs.declared.fault.EntryFault.TheVariants.{Tables, Call as Refusal}
use Rattle.glyph.specs.declared.glyph.Glyph.{Glyph}
use Rattle.measure.specs.Rows.{row_width}
use Rattle.measure.specs.declared.measure.Measure.{Ghosts}
use Rattle.paragraph.specs.Holds.{ellipsis_of, text_of}
use Rattle.paragraph.specs.Lawful.{FirstFault, Lawful}
use Rattle.paragraph.specs.Lent.{text_in}
use Rattle.paragraph.specs.Text.{Text}
use Rattle.paragraph.specs.declared.paragraph.Paragraph.{Paragraph}
use Rattle.runs.specs.declared.event.Event.{Event}
use Rattle.runs.specs.declared.fault.RunFault.{RunFault}
use Rattle.runs.specs.declared.fault.RunFault.TheVariants.{Memory, NotOpened}
use Rattle.runs.specs.declared.opening.Opening.{Opening}
use Rattle.std.specs.declared.alloc.Global.{Global}
use Rattle.walk.specs.declared.line.VlRange.{VlRange}

-- what a call comes to on an entry that is lent a paragraph and two lists
abbrev pub called_on : {S W : Type 0} → Ghosts S W → Entry S → Paragraph → List VlRange → List ℕ → Call W → Outcome W
called_on k e p ranges order c =
    step k (measure_of e) (text_of p) (row_width k (measure_of e) (ellipsis_of p)) (length ranges) (length order) (progress_of e) c

-- and what the calls of a script answer
abbrev pub answers_on : {S W : Type 0} → Ghosts S W → Entry S → Paragraph → List VlRange → List ℕ → List (Call W) → List (Answer W)
answers_on k e p ranges order calls =
    answers k (measure_of e) (text_of p) (row_width k (measure_of e) (ellipsis_of p)) (length ranges) (length order) (progress_of e) calls

abbrev pub text_on : {S : Type 0} → Opening S → Text
text_on on = text_in on.tables

-- what they answer on an entry that was just opened
abbrev pub opened_answers : {S W : Type 0} → Ghosts S W → Opening S → ℕ → ℕ → List (Call W) → List (Answer W)
opened_answers k on ranges order calls =
    answers k on.measure (text_on on) (row_width k on.measure (vec_items on.tables.ellipsis)) ranges order (begun (text_on on)) calls

-- Why there is a record of a run or none: of lawful tables there is one, unless there is no memory for it; else the answer is the tables' first fault
abbrev pub RunBy : {W : Type 0} → Text → List Glyph → Result (Vec (Event W) Global) RunFault → Type 0
RunBy t ellipsis (Ok log) = Lawful t ellipsis
RunBy t ellipsis (Err Memory) = Lawful t ellipsis
RunBy t ellipsis (Err (NotOpened (Tables f))) = FirstFault t ellipsis f
RunBy t ellipsis (Err (NotOpened (Refusal f))) = ⊥
