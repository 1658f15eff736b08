-- docs/RULES.md, "Measures"
-- What it is that a measure counts in whole numbers
use Rattle.std.specs.Prelude.{◌≡◌, ℕ, ◌+◌, ◌-◌, ◌*◌, ◌^◌, ◌<◌, ◌≤◌, nat_lt}
use Rattle.glyph.specs.declared.glyph.Glyph.{Glyph}
use Rattle.measure.specs.declared.measure.Measure.{Ghosts}

-- Widths mean whole numbers by `number`, glyphs by `glyph`, and `from` turns numbers up to 131071 into widths. Sums are those of whole numbers while
-- they stay below 2^32; the half is the largest number whose double is not above the whole; lawful are 0 to 2147483647
pub record Exact {S W : Type 0} (k : Ghosts S W) (m : S) (number : W → ℕ) (glyph : Glyph → ℕ) (from : ℕ → W) : Type 0 where
  pub small : (g : Glyph) → glyph g ≤ 131071
  pub meant : (g : Glyph) → number (k.width_of m g) ≡ glyph g
  pub nilled : number (k.nil_of m) ≡ 0
  pub sums : (a b : W) → number a + number b < 2 ^ 32 → number (k.sum_of m a b) ≡ number a + number b
  pub overs : (a b : W) → k.over_of m a b ≡ nat_lt (number b) (number a)
  pub differences : (a b : W) → number (k.difference_of m a b) ≡ number a - number b
  pub half_low : (a : W) → 2 * number (k.half_of m a) ≤ number a
  pub half_high : (a : W) → number a < 2 * number (k.half_of m a) + 2
  pub lawfuls : (a : W) → k.lawful_of m a ≡ nat_lt (number a) (2 ^ 31)
  pub back : (n : ℕ) → n ≤ 131071 → number (from n) ≡ n
