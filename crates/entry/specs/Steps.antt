-- What each call answers, and how far the entry has come then
use Rattle.std.specs.Prelude.{ℕ, ◌-◌, Bool, true, false, List, [], ◌∷◌, length, Some, None, Option}
use Rattle.entry.specs.Lines.{taken_line, order_of, after_take, after_close}
use Rattle.entry.specs.Verdict.{line_verdict, take_verdict}
use Rattle.entry.specs.declared.call.Call.{Call}
use Rattle.entry.specs.declared.call.Call.TheVariants.{Take, Close, Count}
use Rattle.entry.specs.Faults.{CallFault}
use Rattle.entry.specs.declared.progress.Progress.{Progress}
use Rattle.entry.specs.declared.progress.Tally.{Tally}
use Rattle.layout.specs.Lines.{Line, line_ranges, line_told, closing_line}
use Rattle.layout.specs.declared.line.Ellipsize.{Ellipsize}
use Rattle.layout.specs.declared.line.VisualLine.{VisualLine}
use Rattle.measure.specs.declared.measure.Measure.{Ghosts}
use Rattle.paragraph.specs.Before.{position_before}
use Rattle.paragraph.specs.Reading.{begin}
use Rattle.paragraph.specs.Text.{Text}
use Rattle.paragraph.specs.declared.place.Position.{Position}
use Rattle.walk.specs.declared.line.VlRange.{VlRange}

-- the answer of a call: a line with its ranges and their visual order, a refusal, or a tally
pub data Answer (W : Type 0) : Type 0 where
  laid : List VlRange → List ℕ → VisualLine W → Answer W
  refused : CallFault → Answer W
  counted : Tally → Answer W

-- what a call comes to: how far the entry has come, and the answer
pub record Outcome (W : Type 0) : Type 0 where
  pub progress : Progress
  pub answer : Answer W

-- an entry begins with everything ahead
abbrev pub begun : Text → Progress
begun t =
    record {
      position = begin t;
      tally = record { lines = 0; laid = 0; hidden = 0; left = length t.glyphs };
      closed = false;
    }

-- a line as an answer. The elided bytes begin at 0 where nothing stands before the ellipsis
abbrev pub line_answer : {W : Type 0} → Text → Line W → Answer W
line_answer t l = laid (line_ranges l) (order_of (line_ranges l)) (line_told t 0 l)

-- a refusal changes nothing
abbrev pub unless : {W : Type 0} → Progress → Option CallFault → Outcome W → Outcome W
unless q (Some f) granted = record { progress = q; answer = refused f }
unless q None granted = granted

-- where an entry stands that has so many glyphs left: just before the next glyph of reading order
abbrev pub standing : Text → ℕ → Position
standing t left = position_before t (length t.glyphs - left)

module _ {S W : Type 0} (k : Ghosts S W) (m : S) (t : Text) (ellipsis : W) (ranges order : ℕ) where
  -- a width that is not given is lawful
  abbrev pub lawful_width : Option W → Bool
  lawful_width None = true
  lawful_width (Some w) = k.lawful_of m w

  -- a take lays the line that the taking rule defines, from the entry's position on, and stands before the next glyph then
  abbrev pub take_step : Progress → W → Outcome W
  take_step q w =
      let l = taken_line k m t q.position w in
      unless q (take_verdict t q (k.lawful_of m w) ranges order)
      (record { progress = after_take q (standing t (q.tally.left - l.laid)) l.laid; answer = line_answer t l })

  -- a close lays the closing line, and closes the entry
  abbrev pub close_step : Progress → Ellipsize → Option W → Outcome W
  close_step q ellipsize w =
      let l = closing_line k m t q.position ellipsize w ellipsis in
      unless q (line_verdict t q (lawful_width w) ranges order)
      (record { progress = after_close q l.laid; answer = line_answer t l })

  -- `ranges` and `order` are how long the lent lists are, `ellipsis` is the ellipsis' width
  abbrev pub step : Progress → Call W → Outcome W
  step q (Take w) = take_step q w
  step q (Close ellipsize w) = close_step q ellipsize w
  step q Count = record { progress = q; answer = counted q.tally }

  -- the answers of a script of calls
  abbrev pub answers : Progress → List (Call W) → List (Answer W)
  answers q [] = []
  answers q (c ∷ cs) = (step q c).answer ∷ answers (step q c).progress cs
