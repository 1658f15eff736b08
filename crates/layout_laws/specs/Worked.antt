-- Worked lines: a paragraph of one span with two words, each glyph one cell wide, measured in cells: `k` is what that measure answers
use Rattle.std.specs.Prelude.{◌≡◌, ℕ, ◌+◌, true, false, List, [], ◌∷◌, length, replicate, Some, None, Option}
use Rattle.std.proofs.Common.{lit≤}
use Rattle.glyph.specs.Ranges.{float_0}
use Rattle.glyph.specs.declared.glyph.Glyph.{Glyph}
use Rattle.layout.specs.Lines.{Line, closing_line}
use Rattle.layout.specs.declared.line.Ellipsize.{Ellipsize}
use Rattle.layout.specs.declared.line.Ellipsize.TheVariants as mode
use Rattle.measure.specs.declared.cells.Cells.{Cells}
use Rattle.measure.specs.declared.measure.Measure.{Ghosts}
use Rattle.paragraph.specs.Reading.{ahead, begin}
use Rattle.paragraph.specs.Text.{Text, text}
use Rattle.paragraph.specs.declared.direction.Direction.TheVariants.{LeftToRight}
use Rattle.paragraph.specs.declared.place.Position.{Position}
use Rattle.walk.specs.Walk.{lay}
use Rattle.walk.specs.declared.line.LayoutDirection.TheVariants.{Forward}
use Rattle.walk.specs.declared.line.Rule.TheVariants.{Taking}
use Rattle.walk.specs.declared.line.VlRange.{VlRange}

-- a glyph that takes one cell
abbrev pub one_cell : Glyph
one_cell = record { start = 0; end = 1; advance = float_0; size = None; units = 0; cells = 1; fits = (lit≤ tt, lit≤ tt, lit≤ tt, lit≤ tt) }

-- words of a and b glyphs in one span of a left-to-right paragraph
abbrev pub two_words : ℕ → ℕ → ℕ → Text
two_words level a b =
    text (replicate (a + b) one_cell)
    (record { blank = false; offset = 0; len = a } ∷ record { blank = false; offset = a; len = b } ∷ [])
    (record { level = level; offset = 0; len = 2 } ∷ [])
    LeftToRight

-- a range of the one span: from the glyph g of the word w to the glyph h of the word v
abbrev pub from_to : ℕ → ℕ → ℕ → ℕ → ℕ → VlRange
from_to level w g v h = record { span = Some 0; start = record { word = w; glyph = g }; end = record { word = v; glyph = h }; level = level }

-- a line without blanks: the ranges before the ellipsis, its level if it stands, the ranges behind it, how many glyphs it shows, and its width
abbrev pub shows : List VlRange → Option ℕ → List VlRange → ℕ → ℕ → Line ℕ
shows front ellipsis back laid width = record { front = front; ellipsis = ellipsis; back = back; blanks = 0; laid = laid; width = width }

-- All of a paragraph laid as a closing line, by a mode, a width and the ellipsis' width: the line, and how many glyphs it hides
abbrev pub Closes : Ghosts Cells ℕ → Text → Ellipsize → ℕ → ℕ → Line ℕ → ℕ → Type 0
Closes k t ellipsize width ellipsis l hides =
    (closing_line k (record {}) t (begin t) ellipsize (Some width) ellipsis ≡ l) × (length (ahead t (begin t)) ≡ l.laid + hides)

-- A line taken at a place of the one span: its range, and how many glyphs it leaves. Each glyph is a cell, so it is as wide as it has glyphs
abbrev pub Takes : Ghosts Cells ℕ → Text → ℕ → ℕ → ℕ → VlRange → ℕ → ℕ → Type 0
Takes k t w g width r laid leaves =
    let p : Position = record { span = 0; place = record { word = w; glyph = g } } in
    (lay k (record {}) t p (Taking width) Forward ≡ record { ranges = r ∷ []; blanks = 0; laid = laid; width = laid; flagged = true })
    × (length (ahead t p) ≡ laid + leaves)

-- words of 4 and 3 glyphs, an ellipsis of one cell: all of it fits 7; of 6 five glyphs and the ellipsis; of 0 the ellipsis alone; in the middle of 6 it
-- stands between three and two. Words of 9 and 2 with an ellipsis of three: the first word fits 10 and the rest is not wider than the ellipsis, so the
-- line passes 10. Words of 3 and 4 at level 1 are read from the table's end; so are the lines that are taken there
pub record Worked (k : Ghosts Cells ℕ) : Type 0 where
  pub all : Closes k (two_words 0 4 3) mode.End 7 1 (shows (from_to 0 0 0 2 0 ∷ []) None [] 7 7) 0
  pub cut : Closes k (two_words 0 4 3) mode.End 6 1 (shows (from_to 0 0 0 1 1 ∷ []) (Some 0) [] 5 6) 2
  pub none : Closes k (two_words 0 4 3) mode.End 0 1 (shows [] (Some 0) [] 0 1) 7
  pub middle : Closes k (two_words 0 4 3) mode.Middle 6 1 (shows (from_to 0 0 0 0 3 ∷ []) (Some 0) (from_to 0 1 1 2 0 ∷ []) 5 6) 2
  pub over : Closes k (two_words 0 9 2) mode.End 10 3 (shows (from_to 0 0 0 1 0 ∷ []) (Some 0) [] 9 12) 2
  pub turned : Closes k (two_words 1 3 4) mode.End 6 1 (shows (from_to 1 0 2 2 0 ∷ []) (Some 1) [] 5 6) 2
  pub first_take : Takes k (two_words 1 3 4) 2 0 5 (from_to 1 0 3 2 0) 4 3
  pub second_take : Takes k (two_words 1 3 4) 1 0 2 (from_to 1 0 1 1 0) 2 1
