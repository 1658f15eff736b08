-- How far an entry has come, by a log of its calls
use Rattle.std.specs.Prelude.{◌≡◌, ℕ, Bool, false, cond, List, [], ◌++◌, length, drop, ◌==◌}
use Rattle.entry.specs.Steps.{begun}
use Rattle.entry.specs.declared.progress.Progress.{Progress}
use Rattle.paragraph.specs.Before.{position_before}
use Rattle.paragraph.specs.Reading.{begin, reading}
use Rattle.paragraph.specs.Text.{Sound, Text}
use Rattle.paragraph.specs.declared.place.Position.{Position}
use Rattle.runs.specs.Log.{Recorded, closed, hidden_of, lines_of, on_lines}

-- what a log tells of the glyphs ahead and of the position, by what else it tells
abbrev pub ahead_by : Text → Bool → List ℕ → List ℕ
ahead_by t shut on = cond shut [] (drop (length on) (reading t))

abbrev pub stands_by : Text → ℕ → List ℕ → Position
stands_by t lines on = cond (lines == 0) (begin t) (position_before t (length on))

-- An entry has come so far: closed or not, with so many lines, these glyphs on them and these hidden. The glyphs on lines are a front and a back part of
-- reading order; between the two is what is hidden, which is nothing until the entry is closed, and behind them what is ahead
pub record ComeTo (t : Text) (shut : Bool) (lines : ℕ) (on hidden : List ℕ) (q : Progress) : Type 0 where
  pub closed_is : q.closed ≡ shut
  pub lines_is : q.tally.lines ≡ lines
  pub laid_is : q.tally.laid ≡ length on
  pub hidden_is : q.tally.hidden ≡ length hidden
  pub left_is : q.tally.left ≡ length (ahead_by t shut on)
  pub position_is : shut ≡ false → q.position ≡ stands_by t lines on
  pub front : List ℕ
  pub back : List ℕ
  pub lines_are : on ≡ front ++ back
  pub read : reading t ≡ front ++ (hidden ++ (back ++ ahead_by t shut on))
  pub none_hidden : shut ≡ false → hidden ≡ []

-- an entry stands where a log tells
abbrev pub Stands : {W : Type 0} → Text → List (Recorded W) → Progress → Type 0
Stands t log q = ComeTo t (closed log) (lines_of log) (on_lines t log) (hidden_of t log) q

-- an entry that has begun stands where an empty log tells
abbrev pub EveryStart : Type 0 → Type 0
EveryStart W = (t : Text) → Sound t → Stands {W = W} t [] (begun t)
