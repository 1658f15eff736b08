-- What a call on an entry answers, writes and leaves
use Rattle.std.specs.Prelude.{◌≡◌, ℕ, true, List, length, is_ok, Ok, Err, Option, Result}
use Rattle.entry.specs.Entries.{measure_of, progress_of}
use Rattle.entry.specs.Granted.{MayLay, MayTake}
use Rattle.entry.specs.Lines.{over_written}
use Rattle.entry.specs.Steps.{Answer, Outcome, begun, close_step, lawful_width, take_step}
use Rattle.entry.specs.Steps.Answer.{laid, refused, counted}
use Rattle.entry.specs.declared.entry.Entry.{Entry}
use Rattle.entry.specs.declared.fault.EntryFault.{EntryFault}
use Rattle.entry.specs.declared.fault.EntryFault.TheVariants.{Tables, Call}
use Rattle.layout.specs.declared.line.Ellipsize.{Ellipsize}
use Rattle.layout.specs.declared.line.VisualLine.{VisualLine}
use Rattle.measure.specs.Rows.{row_width}
use Rattle.measure.specs.declared.measure.Measure.{Ghosts}
use Rattle.paragraph.specs.Holds.{ellipsis_of, text_of}
use Rattle.paragraph.specs.Reading.{ahead, exists, reading}
use Rattle.paragraph.specs.Faults.{TableFault}
use Rattle.paragraph.specs.declared.paragraph.Paragraph.{Paragraph}
use Rattle.walk.specs.declared.line.VlRange.{VlRange}

-- An answer as the caller gets it: a line is returned, and its ranges and their order stand in the first places of the lists; a refusal is returned
-- with both lists as they were. No call that lays lines answers a tally
abbrev pub Answered : {W : Type 0} → Answer W → Result (VisualLine W) EntryFault → List VlRange → List VlRange → List ℕ → List ℕ → Type 0
Answered (laid rs os line) r ranges ranges_after order order_after =
    (r ≡ Ok line) × (ranges_after ≡ over_written rs ranges) × (order_after ≡ over_written os order)
Answered (refused f) r ranges ranges_after order order_after = (r ≡ Err (Call f)) × (ranges_after ≡ ranges) × (order_after ≡ order)
Answered (counted n) r ranges ranges_after order order_after = ⊥

-- a call comes to an outcome: the entry keeps its measure and has come so far, and the caller has the answer
pub record ComesTo {S W : Type 0} (o : Outcome W) (before after : Entry S) (r : Result (VisualLine W) EntryFault) (ranges ranges_after : List VlRange) (order order_after : List ℕ) : Type 0 where
  pub measure_kept : measure_of after ≡ measure_of before
  pub progress_is : progress_of after ≡ o.progress
  pub answer_is : Answered o.answer r ranges ranges_after order order_after

-- the outcome of a take and of a close on an entry, lent a paragraph and two lists
abbrev pub taken_on : {S W : Type 0} → Ghosts S W → Entry S → Paragraph → List VlRange → List ℕ → W → Outcome W
taken_on k e p ranges order w =
    take_step k (measure_of e) (text_of p) (row_width k (measure_of e) (ellipsis_of p)) (length ranges) (length order) (progress_of e) w

abbrev pub closed_on : {S W : Type 0} → Ghosts S W → Entry S → Paragraph → List VlRange → List ℕ → Ellipsize → Option W → Outcome W
closed_on k e p ranges order ellipsize w =
    close_step k (measure_of e) (text_of p) (row_width k (measure_of e) (ellipsis_of p)) (length ranges) (length order) (progress_of e) ellipsize w

-- when these are granted
abbrev pub MayTakeOn : {S W : Type 0} → Ghosts S W → Entry S → Paragraph → List VlRange → List ℕ → W → Type 0
MayTakeOn k e p ranges order w = MayTake (text_of p) (progress_of e) (k.lawful_of (measure_of e) w) (length ranges) (length order)

abbrev pub MayCloseOn : {S W : Type 0} → Ghosts S W → Entry S → Paragraph → List VlRange → List ℕ → Option W → Type 0
MayCloseOn k e p ranges order w =
    let lawful = lawful_width k (measure_of e) (text_of p) (row_width k (measure_of e) (ellipsis_of p)) (length ranges) (length order) w in
    MayLay (text_of p) (progress_of e) lawful (length ranges) (length order)

-- an entry is opened exactly if the check of the tables grants them, and else the table's fault is the answer, whole
abbrev pub OpensBy : {S : Type 0} → Result (Unit {0}) TableFault → Result (Entry S) EntryFault → Type 0
OpensBy (Ok _) r = is_ok r ≡ true
OpensBy (Err f) r = r ≡ Err (Tables f)

-- an entry that has just begun on a paragraph, over a measure: every glyph is ahead, in reading order, and none is laid
pub record Begins {S : Type 0} (p : Paragraph) (m : S) (e : Entry S) : Type 0 where
  pub measure_is : measure_of e ≡ m
  pub progress_is : progress_of e ≡ begun (text_of p)
  pub stands : exists (text_of p) (progress_of e).position ≡ true
  pub all_ahead : ahead (text_of p) (progress_of e).position ≡ reading (text_of p)
