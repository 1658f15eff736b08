-- The glyphs that an overflowing word gives
use Rattle.std.specs.Prelude.{ℕ, zero, suc, Bool, cond, List, map, ◌==◌, slice_index_or}
use Rattle.glyph.specs.declared.glyph.Glyph.{Glyph}
use Rattle.measure.specs.declared.measure.Measure.{Ghosts}
use Rattle.walk.specs.Parts.{next, later}
use Rattle.walk.specs.declared.line.Rule.{Rule}
use Rattle.walk.specs.declared.line.Rule.TheVariants.{Never, Closing, Taking}

module _ {S W : Type 0} (k : Ghosts S W) (m : S) where
  -- the width of the glyph at a place of a row
  abbrev pub width_at : List Glyph → ℕ → W
  width_at row i = slice_index_or (map (k.width_of m) row) i (k.nil_of m)

  -- Of the n glyphs from `at` on, those taken in the walk's direction while (before + g) + glyph is not over the limit, where g sums those taken: the
  -- place of the cut together with g. The first glyph that does not fit ends it
  abbrev pub fits : List Glyph → Bool → W → W → W → ℕ → ℕ → ℕ × W
  fits row up before limit g at zero = (at, g)
  fits row up before limit g at (suc n) =
      cond (k.over_of m (k.sum_of m (k.sum_of m before g) (width_at row (next up at n))) limit)
      (next up at (suc n), g)
      (fits row up before limit (k.sum_of m g (width_at row (next up at n))) (later up at) n)

  -- What an overflowing word gives, of its n glyphs from `at` on: the place of the cut, and the width. A closing line leaves room for the ellipsis.
  -- A line that is taken gets one glyph at least if `laid`, its glyphs so far, is 0, and those behind it that fit; else nothing.
  -- Where a word gives nothing, the cut is where the walk would come into it
  abbrev pub cut : Rule W → List Glyph → Bool → W → ℕ → ℕ → ℕ → ℕ × W
  cut Never row up before laid at n = (next up at n, k.nil_of m)
  cut (Closing width ellipsis) row up before laid at n = fits row up before (k.difference_of m width ellipsis) (k.nil_of m) at n
  cut (Taking width) row up before laid at zero = (next up at zero, k.nil_of m)
  cut (Taking width) row up before laid at (suc n) =
      cond (laid == 0)
      (fits row up before width (k.sum_of m (k.nil_of m) (width_at row (next up at n))) (later up at) n)
      (next up at (suc n), k.nil_of m)
