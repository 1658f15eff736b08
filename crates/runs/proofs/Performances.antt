-- A script performed call by call answers what the definition says
use Rattle.std.proofs.Common.{◌≡◌, ℕ, List, ◌++◌, map, drop}
use Rattle.entry.specs.Entries.{measure_of, progress_of}
use Rattle.entry.specs.Steps.{Answer, answers}
use Rattle.entry.specs.declared.call.Call.{Call}
use Rattle.entry.specs.declared.entry.Entry.{Entry}
use Rattle.entry.specs.declared.progress.Progress.{Progress}
use Rattle.measure.specs.Rows.{row_width}
use Rattle.measure.specs.declared.measure.Measure.{Ghosts}
use Rattle.paragraph.specs.Holds.{ellipsis_of, text_of}
use Rattle.paragraph.specs.declared.paragraph.Paragraph.{Paragraph}
use Rattle.runs.specs.Events.{answer_of}
use Rattle.runs.specs.declared.event.Event.{Event}

module _ {S W : Type 0} (k : Ghosts S W) (p : Paragraph) (ranges order : ℕ) (m : S) where
  abbrev its_answers : Progress → List (Call W) → List (Answer W)
  its_answers q calls = answers k m (text_of p) (row_width k m (ellipsis_of p)) ranges order q calls

-- After i calls of a script the log has their answers, and those of the others follow from where the entry has come
pub record SoFar {S W : Type 0} (k : Ghosts S W) (p : Paragraph) (ranges order : ℕ) (script : List (Call W)) (start here : Entry S) (i : ℕ) (log : List (Event W)) : Type 0 where
  pub measure_kept : measure_of here ≡ measure_of start
  pub answers_are : its_answers k p ranges order (measure_of start) (progress_of start) script ≡ map answer_of log ++ its_answers k p ranges order (measure_of start) (progress_of here) (drop i script)
