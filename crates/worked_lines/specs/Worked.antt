-- Worked lines: paragraphs of one span with two words, each glyph one cell wide, measured in cells: `k` is what that measure answers. docs/RULES.md,
-- "Worked lines", has them as a table
use Rattle.std.specs.Prelude.{◌≡◌, ℕ, ◌+◌, false, T, List, [], ◌∷◌, reverse, length, take, Some, None, Ok, Option, nat_le}
use Rattle.std.proofs.Common.{lit≤}
use Rattle.entry.specs.Steps.{Answer, answers, begun}
use Rattle.entry.specs.Steps.Answer.{laid, counted}
use Rattle.entry.specs.declared.call.Call.{Call}
use Rattle.entry.specs.declared.call.Call.TheVariants.{Take, Close, Count}
use Rattle.glyph.specs.Ranges.{float_0}
use Rattle.glyph.specs.declared.glyph.Glyph.{Glyph}
use Rattle.layout.specs.Ellipsis.{ellipsis_range}
use Rattle.layout.specs.declared.line.ElidedBytes.{ElidedBytes}
use Rattle.layout.specs.declared.line.Ellipsize.TheVariants as mode
use Rattle.measure.specs.Rows.{row_width}
use Rattle.measure.specs.declared.cells.Cells.{Cells}
use Rattle.measure.specs.declared.measure.Measure.{Ghosts}
use Rattle.paragraph.specs.Text.{Text, text}
use Rattle.paragraph.specs.Verdict.{verdict}
use Rattle.paragraph.specs.declared.direction.Direction.TheVariants.{LeftToRight}
use Rattle.visual_order.specs.VisualOrder.{visual}
use Rattle.walk.specs.declared.line.VlRange.{VlRange}

-- a glyph of one cell that stands for one byte of the text
abbrev pub cell : (byte : ℕ) → T (nat_le byte 65535) → T (nat_le (byte + 1) 65535) → Glyph
cell byte from to =
    record { start = byte; end = byte + 1; advance = float_0; size = None; units = 0; cells = 1; fits = (lit≤ from, lit≤ to, lit≤ tt, lit≤ tt) }

abbrev pub eleven : List Glyph
eleven =
    cell 0 tt tt ∷ cell 1 tt tt ∷ cell 2 tt tt ∷ cell 3 tt tt ∷ cell 4 tt tt ∷ cell 5 tt tt
    ∷ cell 6 tt tt ∷ cell 7 tt tt ∷ cell 8 tt tt ∷ cell 9 tt tt ∷ cell 10 tt tt ∷ []

-- the text of two words of a and b glyphs at a level, in a left-to-right paragraph
abbrev pub two_words : List Glyph → ℕ → ℕ → ℕ → Text
two_words glyphs level a b =
    text glyphs
    (record { blank = false; offset = 0; len = a } ∷ record { blank = false; offset = a; len = b } ∷ [])
    (record { level = level; offset = 0; len = 2 } ∷ [])
    LeftToRight

-- at level 0 the first byte stands first in the table, at level 1 last
abbrev pub upright : ℕ → ℕ → Text
upright a b = two_words (take (a + b) eleven) 0 a b

abbrev pub turned : ℕ → ℕ → Text
turned a b = two_words (reverse (take (a + b) eleven)) 1 a b

-- a range of the one span at a level, from the glyph g of the word w to the glyph h of the word v
abbrev pub from_to : ℕ → ℕ → ℕ → ℕ → ℕ → VlRange
from_to level w g v h = record { span = Some 0; start = record { word = w; glyph = g }; end = record { word = v; glyph = h }; level = level }

-- a line without blanks: its ranges, their visual order, how many glyphs it shows, its width, and the bytes that the ellipsis stands for, if it stands
abbrev pub line : List VlRange → List ℕ → ℕ → ℕ → Option ElidedBytes → Answer ℕ
line ranges order shown width elided =
    laid ranges order (record { ranges = length ranges; blanks = 0; laid = shown; width = width; elided = elided })

abbrev pub bytes : ℕ → ℕ → Option ElidedBytes
bytes start end = Some (record { start = start; end = end })

abbrev pub tally : ℕ → ℕ → ℕ → ℕ → Answer ℕ
tally lines shown hidden left = counted (record { lines = lines; laid = shown; hidden = hidden; left = left })

-- An entry opened on the text, with an ellipsis of so many cells, lent lists of three places: its tables are granted, and the calls answer so
pub record Answers (k : Ghosts Cells ℕ) (t : Text) (ellipsis : ℕ) (calls : List (Call ℕ)) (given : List (Answer ℕ)) : Type 0 where
  pub granted : verdict t (take ellipsis eleven) ≡ Ok tt
  pub answered : answers k (record {}) t (row_width k (record {}) (take ellipsis eleven)) 3 3 (begun t) calls ≡ given

abbrev pub end : ℕ → List (Call ℕ)
end width = Close mode.End (Some width) ∷ Count ∷ []

abbrev pub middle : ℕ → List (Call ℕ)
middle width = Close mode.Middle (Some width) ∷ Count ∷ []

abbrev pub takes : ℕ → ℕ → List (Call ℕ)
takes first second = Take first ∷ Take second ∷ Count ∷ []

-- Words of 4 and 3 glyphs, an ellipsis of one cell: all of it fits 7; of 6 five glyphs and the ellipsis; of 0 the ellipsis alone; in the middle of 6 it
-- stands between three and two; lines of 5 and 2 take the first word and then two glyphs of the second, and leave one. Words of 9 and 2 with an
-- ellipsis of three: the first word fits 10 and the rest is not wider than the ellipsis, so the line passes 10. Words of 3 and 4 at level 1 are read from
-- the table's end, and the ellipsis, which is read last, is seen first
pub record Worked (k : Ghosts Cells ℕ) : Type 0 where
  pub all_fits : Answers k (upright 4 3) 1 (end 7) (line (from_to 0 0 0 2 0 ∷ []) (0 ∷ []) 7 7 None ∷ tally 1 7 0 0 ∷ [])
  pub cut : Answers k (upright 4 3) 1 (end 6) (line (from_to 0 0 0 1 1 ∷ ellipsis_range 0 ∷ []) (0 ∷ 1 ∷ []) 5 6 (bytes 5 7) ∷ tally 1 5 2 0 ∷ [])
  pub passes : Answers k (upright 9 2) 3 (end 10) (line (from_to 0 0 0 1 0 ∷ ellipsis_range 0 ∷ []) (0 ∷ 1 ∷ []) 9 12 (bytes 9 11) ∷ tally 1 9 2 0 ∷ [])
  pub none_shown : Answers k (upright 4 3) 1 (end 0) (line (ellipsis_range 0 ∷ []) (0 ∷ []) 0 1 (bytes 0 7) ∷ tally 1 0 7 0 ∷ [])
  pub parted :
      Answers k (upright 4 3) 1 (middle 6)
      (line (from_to 0 0 0 0 3 ∷ ellipsis_range 0 ∷ from_to 0 1 1 2 0 ∷ []) (0 ∷ 1 ∷ 2 ∷ []) 5 6 (bytes 3 5) ∷ tally 1 5 2 0 ∷ [])
  pub seen_turned : Answers k (turned 3 4) 1 (end 6) (line (from_to 1 0 2 2 0 ∷ ellipsis_range 1 ∷ []) (1 ∷ 0 ∷ []) 5 6 (bytes 5 7) ∷ tally 1 5 2 0 ∷ [])
  pub taken :
      Answers k (upright 4 3) 1 (takes 5 2)
      (line (from_to 0 0 0 1 0 ∷ []) (0 ∷ []) 4 4 None ∷ line (from_to 0 1 0 1 2 ∷ []) (0 ∷ []) 2 2 None ∷ tally 2 6 0 1 ∷ [])
  pub taken_turned :
      Answers k (turned 3 4) 1 (takes 5 2)
      (line (from_to 1 0 3 2 0 ∷ []) (0 ∷ []) 4 4 None ∷ line (from_to 1 0 1 1 0 ∷ []) (0 ∷ []) 2 2 None ∷ tally 2 6 0 1 ∷ [])
  pub turned_singly : visual (0 ∷ 1 ∷ 1 ∷ 0 ∷ []) ≡ 0 ∷ 2 ∷ 1 ∷ 3 ∷ []
