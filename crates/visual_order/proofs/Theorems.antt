-- The laws of the visual order
use Rattle.std.proofs.Common.{◌≡◌, ℕ, suc, ◌+◌, ◌-◌, ◌%◌, ◌<◌, ◌≤◌, cond, eqb, ◌⊎◌, List, ◌++◌, length, get_or, take, count_by, sym, refl, ap, ◌∙◌, subst, inl, inr, ⊎_elim, arith, length-append}
use Rattle.std.specs.List.{range_with_len}
use Rattle.std.proofs.lemmas.List.FromFn.{length-range_with_len, get_or-range_with_len}
use Rattle.std.proofs.lemmas.List.{take_at, get_or-take}
use Rattle.std.proofs.lemmas.List.Sorted.{length_permutation, sum_by-IsPermutation}
use Rattle.std.proofs.lemmas.Bool.{cases_eq}
use Rattle.visual_order.specs.VisualOrder.{highest, lowest_odd, visual}
use Rattle.visual_order.specs.Laws.{Before, Lowest, Pair, Pairs, Once, PairLaw, OnceLaw}
use Rattle.visual_order.proofs.Bounds.{highest_is, lowest_odd_is, lowest_odd_least}
use Rattle.visual_order.proofs.Once.{times_counting, one_way}
use Rattle.visual_order.proofs.Pairs.{Segment, Told, told}
use Rattle.visual_order.proofs.Rounds.{indices_below, lowest_odd_le}
use Rattle.visual_order.proofs.Shuffles.{rounds_shuffled}

visual_length : (levels : List ℕ) → length (visual levels) ≡ length levels
visual_length levels =
    let top = highest levels + 1 in
    let low = lowest_odd top levels in
    length_permutation (range_with_len 0 (length levels)) (visual levels) (rounds_shuffled levels low (top - low) (range_with_len 0 (length levels))) ∙ length-range_with_len 0 (length levels)

visual_once : (levels : List ℕ) (i : ℕ) → i < length levels → count_by (λ x. eqb x i) (visual levels) ≡ 1
visual_once levels i l =
    let top = highest levels + 1 in
    let low = lowest_odd top levels in
    sum_by-IsPermutation (λ x. cond (eqb x i) 1 0) (range_with_len 0 (length levels)) (visual levels) (rounds_shuffled levels low (top - low) (range_with_len 0 (length levels))) ∙ times_counting i (length levels) 0 (omega arith) (omega arith)

visual_below : (levels : List ℕ) (a : ℕ) → a < length (visual levels) → get_or (visual levels) a 0 < length levels
visual_below levels a l =
    let top = highest levels + 1 in
    let low = lowest_odd top levels in
    indices_below (visual levels) levels low (top - low) (length levels) refl a l

pub once_law : OnceLaw
once_law = λ levels. record { as_long = visual_length levels; in_range = visual_below levels; one_each = visual_once levels }

-- how often a part of the line whose lowest level is m is reversed, from the level top - 1 down to the level low
even_turns : (m low top : ℕ) → m < top → (low % 2 ≡ 1) ⊎ (low ≡ top) → m % 2 ≡ 0 → (suc m - low) % 2 ≡ 0
even_turns m low top l (inl o) e = omega arith
even_turns m low top l (inr o) e = omega arith

odd_turns : (m low top : ℕ) → m < top → (low % 2 ≡ 1) ⊎ (low ≡ top) → low ≤ m → m % 2 ≡ 1 → (suc m - low) % 2 ≡ 1
odd_turns m low top l (inl o) h e = omega arith
odd_turns m low top l (inr o) h e = absurd (omega arith)

module _ (levels : List ℕ) (i j m : ℕ) (ij : i < j) (jl : j < length levels) (lowest : Lowest levels i j m) where
  at_place : (k : ℕ) → k < length levels → get_or (range_with_len 0 (length levels)) k 0 ≡ k
  at_place k l = omega (arith, get_or-range_with_len 0 (length levels) k 0 l)

  segment : Segment levels i j m (range_with_len 0 (length levels))
  segment =
      record {
        from = i;
        to = j;
        at = lowest.1.0;
        order = ij;
        within = omega (arith, length-range_with_len 0 (length levels));
        from_is = at_place i (omega arith);
        to_is = at_place j jl;
        least = λ k lo hi. subst (λ (x : ℕ). m ≤ get_or levels x 0) (sym (at_place k (omega arith))) (lowest.0 k lo hi);
        at_from = lowest.1.1;
        at_to = lowest.1.2;
        at_is = ap (λ (x : ℕ). get_or levels x 0) (at_place lowest.1.0 (omega (arith, lowest.1.2))) ∙ lowest.1.3;
      }

  visual_told : Told i j m (visual levels)
  visual_told =
      let top = highest levels + 1 in
      let low = lowest_odd top levels in
      let k = lowest.1.0 in
      let kl : k < length levels = omega (arith, lowest.1.2) in
      let below : m < top = omega (arith, highest_is levels k kl, lowest.1.3) in
      let t = told levels i j m (top - low) low (omega (arith, lowest_odd_le levels top)) (range_with_len 0 (length levels)) segment in
      let odd_over : m % 2 ≡ 1 → low ≤ m = λ e. subst (λ (n : ℕ). low ≤ n) lowest.1.3 (lowest_odd_least levels top k kl (ap (λ (n : ℕ). n % 2) lowest.1.3 ∙ e)) in
      (λ e. t.0 (even_turns m low top below (lowest_odd_is levels top) e), λ e. t.1 (odd_turns m low top below (lowest_odd_is levels top) (odd_over e) e))

  one_first : Before (visual levels) i j → Before (visual levels) j i → ⊥
  one_first = one_way (visual levels) i j (visual_once levels i (omega arith)) (visual_once levels j jl)

  pub pair : Pair levels (visual levels) i j m
  pair =
      record {
        even_first = visual_told.0;
        first_even = λ b. ⊎_elim (λ e. e) (λ ne. absurd (one_first b (visual_told.1 (omega arith)))) (cases_eq (m % 2) 0);
        odd_last = visual_told.1;
        last_odd = λ b. ⊎_elim (λ e. e) (λ ne. absurd (one_first (visual_told.0 (omega arith)) b)) (cases_eq (m % 2) 1);
      }

pub pair_law : PairLaw
pair_law = λ levels i j m ij jl lowest. pair levels i j m ij jl lowest

-- in the front of what `reorder` leaves
module _ (levels rest after : List ℕ) (n : ℕ) (n_is : length levels ≡ n) (is : after ≡ visual levels ++ rest) where
  front_is : visual levels ≡ take n after
  front_is = sym (ap (take n) is ∙ take_at (visual levels) rest n (visual_length levels ∙ n_is))

  pub front_pairs : Pairs levels (take n after)
  front_pairs = subst (λ (o : List ℕ). Pairs levels o) front_is (pair_law levels)

  pub front_once : Once levels (take n after)
  front_once = subst (λ (o : List ℕ). Once levels o) front_is (once_law levels)

  pub front_indices : (n ≤ length after) × ((p : ℕ) → p < n → get_or after p 0 < n)
  front_indices =
      let long : n ≤ length after = omega (arith, ap length is, length-append (visual levels) rest, visual_length levels) in (
        long,
        λ p l. let there : p < length (take n after) = omega (arith, front_once.as_long) in omega (arith, front_once.in_range p there, get_or-take n after p 0 l),
      )
