-- What a walk that goes up or down a table takes first, as numbers; and that a cut lies within the word
use Rattle.std.proofs.Common.{◌≡◌, ℕ, zero, suc, ◌+◌, ◌-◌, ◌≤◌, Bool, true, false, cond, eqb, List, refl, ap, arith}
use Rattle.std.proofs.lemmas.Bool.{cond_both}
use Rattle.glyph.specs.declared.glyph.Glyph.{Glyph}
use Rattle.measure.specs.declared.measure.Measure.{Ghosts}
use Rattle.walk.specs.Fit.{width_at, fits, cut}
use Rattle.walk.specs.Parts.{next, later}
use Rattle.walk.specs.Walk.{taken}
use Rattle.walk.specs.declared.line.Rule.{Rule}
use Rattle.walk.specs.declared.line.Rule.TheVariants.{Never, Closing, Taking}

-- how far a walk over [low, high) has come at b
abbrev pub passed : Bool → ℕ → ℕ → ℕ → ℕ
passed up low b high = cond up (b - low) (high - b)

-- a walk over [low, high) takes [from, to) first, and leaves [low', high')
abbrev pub Step : Bool → ℕ → ℕ → ℕ → ℕ → ℕ → ℕ → Type 0
Step true low high from to low' high' = (low ≡ from) × (low' ≡ to) × (high' ≡ high)
Step false low high from to low' high' = (high ≡ to) × (high' ≡ from) × (low' ≡ low)

pub step_next : (f : ℕ → ℕ) (up : Bool) (at n : ℕ) → Step up (f at) (f (at + suc n)) (f (next up at n)) (f (next up at n + 1)) (f (later up at)) (f (later up at + n))
step_next f true at n = (refl, refl, ap f (omega arith))
step_next f false at n = (ap f (omega arith), refl, refl)

module _ (up : Bool) (low high from to low' high' b : ℕ) where
  pub passed_more : Step up low high from to low' high' → from ≤ to → low' ≤ b → b ≤ high' → (low ≤ b) × (b ≤ high) × (passed up low b high ≡ to - from + passed up low' b high')
  passed_more = by up
    where
      by : (u : Bool) → Step u low high from to low' high' → from ≤ to → low' ≤ b → b ≤ high' → (low ≤ b) × (b ≤ high) × (passed u low b high ≡ to - from + passed u low' b high')
      by true (p, q, r) l i j = (omega arith, omega arith, omega arith)
      by false (p, q, r) l i j = (omega arith, omega arith, omega arith)

  pub passed_first : Step up low high from to low' high' → low' ≤ high' → from ≤ b → b ≤ to → (low ≤ b) × (b ≤ high) × (passed up low b high ≡ passed up from b to)
  passed_first = by up
    where
      by : (u : Bool) → Step u low high from to low' high' → low' ≤ high' → from ≤ b → b ≤ to → (low ≤ b) × (b ≤ high) × (passed u low b high ≡ passed u from b to)
      by true (p, q, r) l i j = (omega arith, omega arith, omega arith)
      by false (p, q, r) l i j = (omega arith, omega arith, omega arith)

pub passed_taken : (up : Bool) (first low high c : ℕ) → low ≤ c → c ≤ high → passed up (first + low) (first + c) (first + high) ≡ taken up low (high - low) c
passed_taken true first low high c i j = omega arith
passed_taken false first low high c i j = omega arith

pub passed_none : (up : Bool) (b : ℕ) → passed up b b b ≡ 0
passed_none true b = omega arith
passed_none false b = omega arith

-- the cut lies among the n places from `at` on
abbrev pub Among : ℕ → ℕ → ℕ → Type 0
Among at n c = (at ≤ c) × (c ≤ at + n)

next_among : (up : Bool) (at n : ℕ) → Among at n (next up at n)
next_among true at n = (omega arith, omega arith)
next_among false at n = (omega arith, omega arith)

later_among : (up : Bool) (at n c : ℕ) → Among (later up at) n c → Among at (suc n) c
later_among true at n c (i, j) = (omega arith, omega arith)
later_among false at n c (i, j) = (omega arith, omega arith)

module _ {S W : Type 0} (k : Ghosts S W) (m : S) where
  pub fits_among : (row : List Glyph) (up : Bool) (before limit g : W) (at n : ℕ) → Among at n (fits k m row up before limit g at n).0
  fits_among row up before limit g at zero = (omega arith, omega arith)
  fits_among row up before limit g at (suc n) =
      cond_both (k.over_of m (k.sum_of m (k.sum_of m before g) (width_at k m row (next up at n))) limit) (next up at (suc n), g) (fits k m row up before limit (k.sum_of m g (width_at k m row (next up at n))) (later up at) n) (λ (q : ℕ × W). Among at (suc n) q.0)
      (λ _. next_among up at (suc n))
      (λ _. later_among up at n _ (fits_among row up before limit (k.sum_of m g (width_at k m row (next up at n))) (later up at) n))

  pub cut_among : (rule : Rule W) (row : List Glyph) (up : Bool) (before : W) (laid at n : ℕ) → Among at n (cut k m rule row up before laid at n).0
  cut_among Never row up before laid at n = next_among up at n
  cut_among (Closing width ellipsis) row up before laid at n = fits_among row up before (k.difference_of m width ellipsis) (k.nil_of m) at n
  cut_among (Taking width) row up before laid at zero = next_among up at zero
  cut_among (Taking width) row up before laid at (suc n) =
      let g = k.sum_of m (k.nil_of m) (width_at k m row (next up at n)) in
      cond_both (eqb laid 0) (fits k m row up before width g (later up at) n) (next up at (suc n), k.nil_of m) (λ (q : ℕ × W). Among at (suc n) q.0)
      (λ _. later_among up at n _ (fits_among row up before width g (later up at) n))
      (λ _. next_among up at (suc n))
