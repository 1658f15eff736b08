-- On an exact measure, what was laid is as wide as its glyphs add up to
use Rattle.std.proofs.Common.{◌≡◌, ℕ, zero, suc, ◌+◌, ◌^◌, ◌<◌, ◌≤◌, Bool, true, false, eqb, ◌⊎◌, List, sym, refl, ◌∙◌, subst, inl, inr, arith}
use Rattle.std.proofs.lemmas.Bool.{cond_both, ltb-false}
use Rattle.glyph.specs.declared.glyph.Glyph.{Glyph}
use Rattle.measure.specs.Exact.{Exact}
use Rattle.measure.specs.declared.measure.Measure.{Ghosts}
use Rattle.paragraph.specs.Text.{Text}
use Rattle.paragraph.specs.declared.word.Word.{Word}
use Rattle.walk.specs.Fit.{width_at, fits, cut}
use Rattle.walk.specs.Parts.{low, high, row_of, next, later}
use Rattle.walk.specs.declared.line.Rule.{Rule}
use Rattle.walk.specs.declared.line.Rule.TheVariants.{Never, Closing, Taking}
use Rattle.walk_laws.proofs.Cuts.{passed, Step, step_next, passed_more, Among, fits_among}
use Rattle.walk_laws.proofs.Intervals.{below_rises}
use Rattle.walk_laws.proofs.Numbers.{worth, so_far, glyph_number}

passed_nothing : (f : ℕ → ℕ) (up : Bool) (at n : ℕ) → passed up (f at) (f (next up at n)) (f (at + n)) ≡ 0
passed_nothing f true at n = omega arith
passed_nothing f false at n = omega arith

next_least : (up : Bool) (at n : ℕ) → at ≤ next up at n
next_least true at n = omega arith
next_least false at n = omega arith

next_most : (up : Bool) (at n : ℕ) → next up at n < at + suc n
next_most true at n = omega arith
next_most false at n = omega arith

later_most : (up : Bool) (at n : ℕ) → later up at + n ≤ at + suc n
later_most true at n = omega arith
later_most false at n = omega arith

-- of a walk over [low, high), what is taken first and what is left then
pub step_balance : (up : Bool) (low high from to low' high' : ℕ) → Step up low high from to low' high' → to + high' + low ≡ from + low' + high
step_balance true low high from to low' high' (p, q, r) = omega arith
step_balance false low high from to low' high' (p, q, r) = omega arith

-- what was taken behind g, of the n glyphs from `at` on, where `reach` tells what stands before a glyph
pub record Took {W : Type 0} (number : W → ℕ) (reach : ℕ → ℕ) (up : Bool) (before limit g : W) (at n : ℕ) (got : ℕ × W) : Type 0 where
  pub sum_is : number got.1 ≡ number g + passed up (reach at) (reach got.0) (reach (at + n))
  pub fits_or_none : (number before + number got.1 ≤ number limit) ⊎ ((got.0 ≡ next up at n) × (number got.1 ≡ number g))

next_zero : (up : Bool) (at : ℕ) → at ≡ next up at 0
next_zero true at = refl
next_zero false at = omega arith

module _ {S W : Type 0} (k : Ghosts S W) (m : S) (number : W → ℕ) (glyph : Glyph → ℕ) (from : ℕ → W) (exact : Exact k m number glyph from) (t : Text) (word : Word) (up : Bool) where
  -- what the glyphs of the text before the glyph i of the word add up to
  abbrev reach : ℕ → ℕ
  reach i = so_far glyph t (word.offset + i)

  abbrev row : List Glyph
  row = row_of t.glyphs word

  reach_rises : (i j : ℕ) → i ≤ j → reach i ≤ reach j
  reach_rises i j l = below_rises (worth glyph t.glyphs) (word.offset + i) (word.offset + j) (omega arith)

  abbrev glyph_at : ℕ → W
  glyph_at i = width_at k m row i

  -- the glyph that is met first, with what is left behind it
  one_glyph : (at n : ℕ) → at + suc n ≤ word.len → (reach (next up at n) + number (glyph_at (next up at n)) ≡ reach (next up at n + 1)) × (number (glyph_at (next up at n)) + reach (later up at + n) + reach at ≡ reach (later up at) + reach (at + suc n)) × (reach (later up at) ≤ reach (later up at + n)) × (reach at ≤ reach (at + suc n))
  one_glyph at n fit =
      let w = next up at n in
      let one = glyph_number k m number glyph from exact t word w (omega (arith, next_most up at n)) in
      let bal = step_balance up (reach at) (reach (at + suc n)) (reach w) (reach (w + 1)) (reach (later up at)) (reach (later up at + n)) (step_next reach up at n) in
      (omega arith, omega arith, reach_rises (later up at) (later up at + n) (omega arith), reach_rises at (at + suc n) (omega arith))

  took_none : (before limit g : W) (at n : ℕ) → Took number reach up before limit g at n (next up at n, g)
  took_none before limit g at n = record { sum_is = omega (arith, passed_nothing reach up at n); fits_or_none = inr (refl, refl) }

  -- one glyph more in front of what was taken
  took_more : (before limit g h : W) (at n : ℕ) (got : ℕ × W) → number h + reach (next up at n) ≡ number g + reach (next up at n + 1) → number before + number h ≤ number limit → Among (later up at) n got.0 → Took number reach up before limit h (later up at) n got → Took number reach up before limit g at (suc n) got
  took_more before limit g h at n got one room (i, j) took =
      let w = next up at n in
      let more = passed_more up (reach at) (reach (at + suc n)) (reach w) (reach (w + 1)) (reach (later up at)) (reach (later up at + n)) (reach got.0) (step_next reach up at n) (reach_rises w (w + 1) (omega arith)) (reach_rises (later up at) got.0 i) (reach_rises got.0 (later up at + n) j) in
      let rise = reach_rises w (w + 1) (omega arith) in
      record { sum_is = omega (arith, took.sum_is, more.2); fits_or_none = inl (by took.fits_or_none) }
    where
      by : (number before + number got.1 ≤ number limit) ⊎ ((got.0 ≡ next up (later up at) n) × (number got.1 ≡ number h)) → number before + number got.1 ≤ number limit
      by (inl l) = l
      by (inr (c, e)) = omega arith

  pub fits_sum : (before limit g : W) (at n : ℕ) → at + n ≤ word.len → number before + number g + reach (at + n) < reach at + 2 ^ 32 → Took number reach up before limit g at n (fits k m row up before limit g at n)
  fits_sum before limit g at zero fit small = subst (λ (c : ℕ). Took number reach up before limit g at 0 (c, g)) (sym (next_zero up at)) (took_none before limit g at 0)
  fits_sum before limit g at (suc n) fit small =
      let x = glyph_at (next up at n) in
      let (one, bal, rest, all) = one_glyph at n fit in
      let g_more : number (k.sum_of m g x) ≡ number g + number x = exact.sums g x (omega arith) in
      let so_far_g = exact.sums before g (omega arith) in
      let so_far_x = exact.sums (k.sum_of m before g) x (omega arith) in
      cond_both (k.over_of m (k.sum_of m (k.sum_of m before g) x) limit) (next up at (suc n), g) (fits k m row up before limit (k.sum_of m g x) (later up at) n) (Took number reach up before limit g at (suc n))
      (λ _. took_none before limit g at (suc n))
      (λ e. took_more before limit g (k.sum_of m g x) at n (fits k m row up before limit (k.sum_of m g x) (later up at) n) (omega arith)
      (omega (arith, ltb-false (number limit) (number (k.sum_of m (k.sum_of m before g) x)) (sym (exact.overs (k.sum_of m (k.sum_of m before g) x) limit) ∙ e)))
      (fits_among k m row up before limit (k.sum_of m g x) (later up at) n)
      (fits_sum before limit (k.sum_of m g x) (later up at) n (omega (arith, later_most up at n)) (omega arith)))

  -- the glyph that a line which is taken gets in any case, and what fits behind it
  pub first_taken : (before width : W) (at n : ℕ) → at + suc n ≤ word.len → number before + reach (at + suc n) < reach at + 2 ^ 32 →
      let g = k.sum_of m (k.nil_of m) (glyph_at (next up at n)) in (number g + reach (next up at n) ≡ reach (next up at n + 1)) × Took number reach up before width g (later up at) n (fits k m row up before width g (later up at) n)
  first_taken before width at n fit small =
      let x = glyph_at (next up at n) in
      let (one, bal, rest, all) = one_glyph at n fit in
      let none = exact.nilled in
      let g_is = exact.sums (k.nil_of m) x (omega arith) in
      (omega arith, fits_sum before width (k.sum_of m (k.nil_of m) x) (later up at) n (omega (arith, later_most up at n)) (omega arith))

  -- what an overflowing word gives is as wide as its glyphs add up to
  pub cut_sum : (rule : Rule W) (before : W) (laid at n : ℕ) → at + n ≤ word.len → number before + reach (at + n) < reach at + 2 ^ 32 →
      let got = cut k m rule row up before laid at n in number got.1 ≡ passed up (reach at) (reach got.0) (reach (at + n))
  cut_sum Never before laid at n fit small = omega (arith, passed_nothing reach up at n, exact.nilled)
  cut_sum (Closing width ellipsis) before laid at n fit small = omega (arith, (fits_sum before (k.difference_of m width ellipsis) (k.nil_of m) at n fit (omega (arith, exact.nilled))).sum_is, exact.nilled)
  cut_sum (Taking width) before laid at zero fit small = omega (arith, passed_nothing reach up at zero, exact.nilled)
  cut_sum (Taking width) before laid at (suc n) fit small =
      let g = k.sum_of m (k.nil_of m) (glyph_at (next up at n)) in
      let (one, took) = first_taken before width at n fit small in
      cond_both (eqb laid 0) (fits k m row up before width g (later up at) n) (next up at (suc n), k.nil_of m) (λ (got : ℕ × W). number got.1 ≡ passed up (reach at) (reach got.0) (reach (at + suc n)))
      (λ _. first n g (fits k m row up before width g (later up at) n) one (fits_among k m row up before width g (later up at) n) took.sum_is)
      (λ _. omega (arith, passed_nothing reach up at (suc n), exact.nilled))
    where
      first : (n : ℕ) (g : W) (got : ℕ × W) → number g + reach (next up at n) ≡ reach (next up at n + 1) → Among (later up at) n got.0 → number got.1 ≡ number g + passed up (reach (later up at)) (reach got.0) (reach (later up at + n)) → number got.1 ≡ passed up (reach at) (reach got.0) (reach (at + suc n))
      first n g got one (i, j) sum_is =
          let w = next up at n in
          let more = passed_more up (reach at) (reach (at + suc n)) (reach w) (reach (w + 1)) (reach (later up at)) (reach (later up at + n)) (reach got.0) (step_next reach up at n) (reach_rises w (w + 1) (omega arith)) (reach_rises (later up at) got.0 i) (reach_rises got.0 (later up at + n) j) in
          let rise = reach_rises w (w + 1) (omega arith) in
          omega (arith, more.2)
