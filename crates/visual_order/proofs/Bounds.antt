-- The highest level and the lowest odd level
use Rattle.std.proofs.Common.{◌≡◌, ℕ, zero, suc, ◌+◌, ◌%◌, ◌<◌, ◌≤◌, min, max, Bool, true, false, cond, eqb, ◌==◌, ◌⊎◌, List, [], ◌∷◌, length, get_or, fold, Some, None, Option, unwrap_or, refl, ap, ◌∙◌, subst, inl, inr, ⊎_elim, arith}
use Rattle.std.proofs.lemmas.Bool.{eqb-true, cond_both, cond-true, eq-eqb, cases_lt}
use Rattle.std.specs.List.{filter, reduce}
use Rattle.visual_order.specs.VisualOrder.{highest, lowest_odd, lower_odd}
use Rattle.visual_order.proofs.Rounds.{folded_le}

highest_from : (levels : List ℕ) (top : ℕ) → top ≤ fold max top levels
highest_from [] top = omega arith
highest_from (x ∷ levels) top = omega (arith, highest_from levels (max top x))

highest_over : (levels : List ℕ) (top k : ℕ) → k < length levels → get_or levels k 0 ≤ fold max top levels
highest_over [] top k l = absurd (omega arith)
highest_over (x ∷ levels) top zero l = omega (arith, highest_from levels (max top x))
highest_over (x ∷ levels) top (suc k) l = highest_over levels (max top x) k (omega arith)

pub highest_is : (levels : List ℕ) (k : ℕ) → k < length levels → get_or levels k 0 ≤ highest levels
highest_is levels k l = highest_over levels 0 k l

module _ (none : ℕ) where
  lower_odd_is : (low x : ℕ) → (low % 2 ≡ 1) ⊎ (low ≡ none) → (lower_odd none low x % 2 ≡ 1) ⊎ (lower_odd none low x ≡ none)
  lower_odd_is low x q =
      cond_both (eqb (x % 2) 1) x none (λ n. (min low n % 2 ≡ 1) ⊎ (min low n ≡ none)) (λ e. by x (inl (eqb-true (x % 2) 1 e)) q) (λ e. by none (inr refl) q)
    where
      by : (n : ℕ) → (n % 2 ≡ 1) ⊎ (n ≡ none) → (low % 2 ≡ 1) ⊎ (low ≡ none) → (min low n % 2 ≡ 1) ⊎ (min low n ≡ none)
      by n d q = ⊎_elim (λ h. subst (λ (k : ℕ). (k % 2 ≡ 1) ⊎ (k ≡ none)) (omega arith) q) (λ h. subst (λ (k : ℕ). (k % 2 ≡ 1) ⊎ (k ≡ none)) (omega arith) d) (cases_lt low n)

  folded_is : (levels : List ℕ) (low : ℕ) → (low % 2 ≡ 1) ⊎ (low ≡ none) → (fold (lower_odd none) low levels % 2 ≡ 1) ⊎ (fold (lower_odd none) low levels ≡ none)
  folded_is [] low q = q
  folded_is (x ∷ levels) low q = folded_is levels (lower_odd none low x) (lower_odd_is low x q)

  folded_least : (levels : List ℕ) (low k : ℕ) → k < length levels → get_or levels k 0 % 2 ≡ 1 → fold (lower_odd none) low levels ≤ get_or levels k 0
  folded_least [] low k l e = absurd (omega arith)
  folded_least (x ∷ levels) low zero l e = omega (arith, folded_le levels none (lower_odd none low x), cond-true (eqb (x % 2) 1) x none (eq-eqb (x % 2) 1 e))
  folded_least (x ∷ levels) low (suc k) l e = folded_least levels (lower_odd none low x) k (omega arith) e

-- it is odd, or there is none
pub lowest_odd_is : (levels : List ℕ) (none : ℕ) → (lowest_odd none levels % 2 ≡ 1) ⊎ (lowest_odd none levels ≡ none)
lowest_odd_is levels none = folded_is none levels none (inr refl)

-- no odd level is lower
pub lowest_odd_least : (levels : List ℕ) (none k : ℕ) → k < length levels → get_or levels k 0 % 2 ≡ 1 → lowest_odd none levels ≤ get_or levels k 0
lowest_odd_least levels none k l e = folded_least none levels none k l e

-- THE SAME, as the code finds them

abbrev odd : ℕ → Bool
odd level = level % 2 == 1

pub highest_found : (levels : List ℕ) (top : ℕ) → reduce max levels ≡ Some top → highest levels ≡ top
highest_found [] top e = absurd (cc)
highest_found (x ∷ levels) top e =
    let same : max 0 x ≡ x = omega arith in
    let is : fold max x levels ≡ top = cc in
    ap (λ (t : ℕ). fold max t levels) same ∙ is

module _ (none : ℕ) where
  -- only odd levels count
  folded_odd : (levels : List ℕ) (low : ℕ) → low ≤ none → fold (lower_odd none) low levels ≡ fold min low (filter odd levels)
  folded_odd [] low l = refl
  folded_odd (x ∷ levels) low l = by_test (folded_odd levels) (odd x) refl
    where
      by_test : ((low : ℕ) → low ≤ none → fold (lower_odd none) low levels ≡ fold min low (filter odd levels)) → (t : Bool) → odd x ≡ t → fold (lower_odd none) (min low (cond (odd x) x none)) levels ≡ fold min low (cond (odd x) (x ∷ filter odd levels) (filter odd levels))
      by_test rest true t = rw t (rest (min low x) (omega arith))
      by_test rest false t =
          let same : min low none ≡ low = omega arith in
          rw (t, same) (rest low l)

  -- and the first of them is below `none`
  folded_found : (levels : List ℕ) → ((k : ℕ) → k < length levels → get_or levels k 0 ≤ none) → fold min none (filter odd levels) ≡ unwrap_or (reduce min (filter odd levels)) none
  folded_found [] below = refl
  folded_found (x ∷ levels) below = by_test (folded_found levels (λ k l. below (suc k) (omega arith))) (odd x) refl
    where
      by_test : fold min none (filter odd levels) ≡ unwrap_or (reduce min (filter odd levels)) none → (t : Bool) → odd x ≡ t → fold min none (cond (odd x) (x ∷ filter odd levels) (filter odd levels)) ≡ unwrap_or (reduce min (cond (odd x) (x ∷ filter odd levels) (filter odd levels))) none
      by_test rest true t =
          let same : min none x ≡ x = omega (arith, below 0 (omega arith)) in
          rw t (ap (λ (n : ℕ). fold min n (filter odd levels)) same)
      by_test rest false t = rw t rest

found_or : (levels : List ℕ) (none : ℕ) → highest levels < none → lowest_odd none levels ≡ unwrap_or (reduce min (filter odd levels)) none
found_or levels none below =
    folded_odd none levels none (omega arith) ∙ folded_found none levels (λ k l. omega (arith, highest_is levels k l))

pub lowest_odd_found : (levels : List ℕ) → lowest_odd (highest levels + 1) levels ≡ unwrap_or (reduce min (filter (λ level. level % 2 == 1) levels)) (highest levels + 1)
lowest_odd_found levels = found_or levels (highest levels + 1) (omega arith)

least_from : (levels : List ℕ) (low : ℕ) → fold min low levels ≤ low
least_from [] low = omega arith
least_from (x ∷ levels) low = omega (arith, least_from levels (min low x))

-- the lowest odd level is not above the highest level
module _ (top low : ℕ) where
  found_within : (levels : List ℕ) → ((k : ℕ) → k < length levels → get_or levels k 0 ≤ top) → reduce min (filter odd levels) ≡ Some low → low ≤ top
  found_within [] below e = absurd (cc)
  found_within (x ∷ levels) below e = by_test (found_within levels (λ k l. below (suc k) (omega arith))) (odd x) refl e
    where
      by_test : (reduce min (filter odd levels) ≡ Some low → low ≤ top) → (t : Bool) → odd x ≡ t → reduce min (cond t (x ∷ filter odd levels) (filter odd levels)) ≡ Some low → low ≤ top
      by_test rest true t e =
          let is : fold min x (filter odd levels) ≡ low = cc in
          omega (arith, least_from (filter odd levels) x, below 0 (omega arith))
      by_test rest false t e = rest e

pub lowest_odd_within : (levels : List ℕ) (low : ℕ) → reduce min (filter (λ level. level % 2 == 1) levels) ≡ Some low → low ≤ highest levels
lowest_odd_within levels low e = found_within (highest levels) low levels (highest_is levels) e

-- What a fold over a number above them all finds is the lowest odd level if it is below that number, and else there is none
module _ (levels : List ℕ) (none low : ℕ) (below : highest levels < none) (is : low ≡ lowest_odd none levels) where
  some_from : (o : Option ℕ) → low < none → low ≡ unwrap_or o none → Some low ≡ o
  some_from None less e = absurd (omega arith)
  some_from (Some x) less e = ap Some e

  none_from : (o : Option ℕ) → reduce min (filter odd levels) ≡ o → none ≤ low → low ≡ unwrap_or o none → None ≡ o
  none_from None r above e = refl
  none_from (Some x) r above e = absurd (omega (arith, lowest_odd_within levels x r))

  pub lowest_odd_below : low < none → Some low ≡ reduce min (filter (λ level. level % 2 == 1) levels)
  lowest_odd_below less = some_from (reduce min (filter odd levels)) less (is ∙ found_or levels none below)

  pub lowest_odd_above : none ≤ low → None ≡ reduce min (filter (λ level. level % 2 == 1) levels)
  lowest_odd_above above = none_from (reduce min (filter odd levels)) refl above (is ∙ found_or levels none below)
