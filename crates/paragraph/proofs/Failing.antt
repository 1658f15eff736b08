-- The first row that fails a test
use Rattle.std.proofs.Common.{◌≡◌, ℕ, ◌+◌, Bool, true, false, List, [], ◌∷◌, ◌++◌, length, Some, None, Option, sym, refl, ap, ◌∙◌, inl, inr, arith}
use Rattle.std.specs.List.{AllByRecursion as All}
use Rattle.std.proofs.lemmas.Bool.{cases_Bool}
use Rattle.paragraph.specs.Pieces.{first_failing}
use Rattle.paragraph.specs.Lawful.{Failing}

module _ {X : Type 0} (test : X → Bool) where
  -- one row on, by the test of the first
  step : Bool → ℕ → List X → Option ℕ
  step b i xs = elim b [ true ↦ first_failing test (i + 1) xs | false ↦ Some i ]

  stepped : (i : ℕ) (x : X) (xs : List X) (b : Bool) → test x ≡ b → first_failing test i (x ∷ xs) ≡ step b i xs
  unfolding step
  stepped i x xs b e = ap (λ b. step b i xs) e

  pub passes : (i : ℕ) (x : X) (xs : List X) → test x ≡ true → first_failing test i (x ∷ xs) ≡ first_failing test (i + 1) xs
  unfolding step
  passes i x xs e = stepped i x xs true e

  pub fails_here : (i : ℕ) (x : X) (xs : List X) → test x ≡ false → first_failing test i (x ∷ xs) ≡ Some i
  unfolding step
  fails_here i x xs e = stepped i x xs false e

  pub all_of_none : (xs : List X) (i : ℕ) → first_failing test i xs ≡ None → All (λ x. test x ≡ true) xs
  all_of_none [] i h = tt
  all_of_none (x ∷ xs) i h =
      elim (cases_Bool (test x)) [
        | inl y ↦ (y, all_of_none xs (i + 1) (sym (passes i x xs y) ∙ h))
        | inr o ↦ let z : ◌≡◌ {A = Option ℕ} (Some i) None = sym (fails_here i x xs o) ∙ h in absurd (grind arith)
      ]

  pub none_of_all : (xs : List X) (i : ℕ) → All (λ x. test x ≡ true) xs → first_failing test i xs ≡ None
  none_of_all [] i h = refl
  none_of_all (x ∷ xs) i h = passes i x xs h.0 ∙ none_of_all xs (i + 1) h.1

  record Bad (i : ℕ) (xs : List X) (row : ℕ) : Type 0 where
    pub before : List X
    pub bad : X
    pub after : List X
    pub split : xs ≡ before ++ (bad ∷ after)
    pub here : i + length before ≡ row
    pub good : All (λ x. test x ≡ true) before
    pub fails : test bad ≡ false

  bad_of_some : (xs : List X) (i row : ℕ) → first_failing test i xs ≡ Some row → Bad i xs row
  bad_of_some [] i row h = absurd (grind arith)
  bad_of_some (x ∷ xs) i row h =
      elim (cases_Bool (test x)) [
        | inl y ↦ let b = bad_of_some xs (i + 1) row (sym (passes i x xs y) ∙ h) in
            record {
              before = x ∷ b.before;
              bad = b.bad;
              after = b.after;
              split = ap (λ l. x ∷ l) b.split;
              here = omega (arith, b.here);
              good = (y, b.good);
              fails = b.fails;
            }
        | inr o ↦ let z : ◌≡◌ {A = Option ℕ} (Some i) (Some row) = sym (fails_here i x xs o) ∙ h in
            record { before = []; bad = x; after = xs; split = refl; here = grind arith; good = tt; fails = o }
      ]

  some_of_bad : (before : List X) (x : X) (after : List X) (i : ℕ) → All (λ x. test x ≡ true) before → test x ≡ false → first_failing test i (before ++ (x ∷ after)) ≡ Some (i + length before)
  some_of_bad [] x after i g f = fails_here i x after f ∙ ap Some (omega arith)
  some_of_bad (y ∷ ys) x after i g f =
      passes i y (ys ++ (x ∷ after)) g.0 ∙ some_of_bad ys x after (i + 1) g.1 f ∙ ap Some (omega arith)

  pub failing_of_some : (xs : List X) (row : ℕ) → first_failing test 0 xs ≡ Some row → Failing test xs row
  failing_of_some xs row h =
      let b = bad_of_some xs 0 row h in
      record { before = b.before; bad = b.bad; after = b.after; split = b.split; here = omega (arith, b.here); good = b.good; fails = b.fails }

  pub some_of_failing : (xs : List X) (row : ℕ) → Failing test xs row → first_failing test 0 xs ≡ Some row
  some_of_failing xs row h =
      ap (first_failing test 0) h.split
      ∙ some_of_bad h.before h.bad h.after 0 h.good h.fails
      ∙ ap Some (omega (arith, h.here))
