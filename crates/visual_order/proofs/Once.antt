-- Each index stands in the order once
use Rattle.std.proofs.Common.{◌≡◌, ℕ, zero, suc, ◌+◌, ◌<◌, ◌≤◌, cond, eqb, ◌⊎◌, List, [], ◌∷◌, length, get_or, count_by, refl, ap, ◌∙◌, inl, inr, arith}
use Rattle.std.specs.List.{range_with_len}
use Rattle.std.proofs.lemmas.List.Sums.{sum_by-cons}
use Rattle.std.proofs.lemmas.Bool.{cond-true, cond-false, eq-eqb, ne_eqb, cases_order}
use Rattle.visual_order.specs.Laws.{Before}

module _ (i : ℕ) where
  abbrev times : List ℕ → ℕ
  times xs = count_by (λ x. eqb x i) xs

  times_same : (x : ℕ) (xs : List ℕ) → x ≡ i → times (x ∷ xs) ≡ 1 + times xs
  times_same x xs e = sum_by-cons (λ x. cond (eqb x i) 1 0) x xs ∙ ap (λ (n : ℕ). n + times xs) (cond-true (eqb x i) 1 0 (eq-eqb x i e))

  times_other : (x : ℕ) (xs : List ℕ) → (x ≡ i → ⊥) → times (x ∷ xs) ≡ 0 + times xs
  times_other x xs e = sum_by-cons (λ x. cond (eqb x i) 1 0) x xs ∙ ap (λ (n : ℕ). n + times xs) (cond-false (eqb x i) 1 0 (ne_eqb x i e))

  times_cons : (x : ℕ) (xs : List ℕ) → times xs ≤ times (x ∷ xs)
  times_cons x xs = omega (arith, sum_by-cons (λ x. cond (eqb x i) 1 0) x xs)

  times_none : (n a : ℕ) → i < a → times (range_with_len a n) ≡ 0
  times_none zero a l = refl
  times_none (suc n) a l = times_other a (range_with_len (a + 1) n) (omega arith) ∙ omega (arith, times_none n (a + 1) (omega arith))

  pub times_counting : (n a : ℕ) → a ≤ i → i < a + n → times (range_with_len a n) ≡ 1
  times_counting zero a l h = absurd (omega arith)
  times_counting (suc n) a l h = by (times_counting n (a + 1)) (cases_order a i)
    where
      by : (a + 1 ≤ i → i < a + 1 + n → times (range_with_len (a + 1) n) ≡ 1) → (a ≡ i) ⊎ ((a < i) ⊎ (i < a)) → times (a ∷ range_with_len (a + 1) n) ≡ 1
      by more (inl e) = omega (arith, times_same a (range_with_len (a + 1) n) e, times_none n (a + 1) (omega arith))
      by more (inr (inl e)) = times_other a (range_with_len (a + 1) n) (omega arith) ∙ omega (arith, more (omega arith) (omega arith))
      by more (inr (inr e)) = absurd (omega arith)

  times_one : (xs : List ℕ) (k : ℕ) → k < length xs → get_or xs k 0 ≡ i → 1 ≤ times xs
  times_one [] k l e = absurd (omega arith)
  times_one (x ∷ xs) zero l e = omega (arith, times_same x xs e)
  times_one (x ∷ xs) (suc k) l e = omega (arith, times_one xs k (omega arith) e, times_cons x xs)

  times_two : (xs : List ℕ) (a b : ℕ) → a < b → b < length xs → get_or xs a 0 ≡ i → get_or xs b 0 ≡ i → 2 ≤ times xs
  times_two [] a b ab l e f = absurd (omega arith)
  times_two (x ∷ xs) zero zero ab l e f = absurd (omega arith)
  times_two (x ∷ xs) zero (suc b) ab l e f = omega (arith, times_same x xs e, times_one xs b (omega arith) f)
  times_two (x ∷ xs) (suc a) zero ab l e f = absurd (omega arith)
  times_two (x ∷ xs) (suc a) (suc b) ab l e f = omega (arith, times_two xs a b (omega arith) (omega arith) e f, times_cons x xs)

  pub one_place : (xs : List ℕ) (a b : ℕ) → times xs ≡ 1 → a < length xs → b < length xs → get_or xs a 0 ≡ i → get_or xs b 0 ≡ i → a ≡ b
  one_place xs a b o al bl e f = by (cases_order a b)
    where
      by : (a ≡ b) ⊎ ((a < b) ⊎ (b < a)) → a ≡ b
      by (inl g) = g
      by (inr (inl g)) = absurd (omega (arith, times_two xs a b g bl e f))
      by (inr (inr g)) = absurd (omega (arith, times_two xs b a g al f e))

pub one_way : (xs : List ℕ) (i j : ℕ) → count_by (λ x. eqb x i) xs ≡ 1 → count_by (λ x. eqb x j) xs ≡ 1 → Before xs i j → Before xs j i → ⊥
one_way xs i j oi oj (a, b, ab, bl, ai, bj) (c, d, cd, dl, cj, di) =
    omega (arith, one_place i xs a d oi (omega arith) dl ai di, one_place j xs b c oj bl (omega arith) bj cj)
