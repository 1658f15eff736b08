-- On an exact measure a left fold of sums means the sum of the numbers, while that stays below 2^32
use Rattle.std.proofs.Common.{◌≡◌, ℕ, ◌+◌, ◌*◌, ◌^◌, ◌<◌, ◌≤◌, List, [], ◌∷◌, length, fold, sum_by, ap, ◌∙◌, arith}
use Rattle.std.proofs.lemmas.List.Sums.{sum_by-cons}
use Rattle.glyph.specs.declared.glyph.Glyph.{Glyph}
use Rattle.measure.specs.declared.measure.Measure.{Ghosts}
use Rattle.measure.specs.Exact.{Exact}
use Rattle.measure.specs.Rows.{row_width}
use Rattle.measure.specs.RowNumbers.{row_number, Room}

module _ {S W : Type 0} {k : Ghosts S W} {m : S} {number : W → ℕ} {glyph : Glyph → ℕ} {from : ℕ → W} (e : Exact k m number glyph from) where
  -- glyphs added one by one to a width
  pub glyphs_number : (w : W) (gs : List Glyph) → number w + sum_by glyph gs < 2 ^ 32 → number (fold (λ v g. k.sum_of m v (k.width_of m g)) w gs) ≡ number w + sum_by glyph gs
  glyphs_number w [] h = omega arith
  glyphs_number w (g ∷ gs) h =
      let split = sum_by-cons glyph g gs in
      let one = e.sums w (k.width_of m g) (omega (arith, split, e.meant g)) ∙ ap (λ n. number w + n) (e.meant g) in
      let rest = glyphs_number (k.sum_of m w (k.width_of m g)) gs (omega (arith, split, one)) in
      omega (arith, split, one, rest)

  pub glyphs_within : (gs : List Glyph) → sum_by glyph gs ≤ 131071 * length gs
  glyphs_within [] = omega arith
  glyphs_within (g ∷ gs) = omega (arith, sum_by-cons glyph g gs, e.small g, glyphs_within gs)

  pub row_meant : (gs : List Glyph) → row_number glyph gs < 2 ^ 32 → number (row_width k m gs) ≡ row_number glyph gs
  row_meant gs h = omega (arith, e.nilled, glyphs_number (k.nil_of m) gs (omega (arith, e.nilled)))

  pub row_meant_few : (gs : List Glyph) → length gs ≤ 16400 → number (row_width k m gs) ≡ row_number glyph gs
  row_meant_few gs few = row_meant gs (omega (arith, glyphs_within gs))

  pub room : Room glyph
  room gs es few short = omega (arith, glyphs_within gs, glyphs_within es)
