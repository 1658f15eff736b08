-- The first row of a table that fails a test.
use Rattle.std.proofs.Common.{◌≡◌, ℕ, ◌<◌, Bool, true, false, cond, not, List, length, get_or, Some, None, refl, arith}
use Rattle.std.proofs.lemmas.List.Quantifiers.{position-Some}
use Rattle.std.proofs.lemmas.List.Sums.{fails_before_first}
use Rattle.std.proofs.lemmas.Bool.{ltb-false, not-true, not-false}
use Rattle.std.specs.List.{position}
use Rattle.levels.specs.Refusals.{First}

not_found : (inside : Bool) (row : ℕ) → cond inside (Some row) None ≡ None → inside ≡ false
not_found true row e = absurd (cc)
not_found false row e = refl

module _ (test : ℕ → Bool) (xs : List ℕ) where
  abbrev fails : ℕ → Bool
  fails x = not (test x)

  -- where no row fails, each passes
  pub all_passed : position fails xs ≡ None → (k : ℕ) → k < length xs → test (get_or xs k 0) ≡ true
  all_passed e k h =
      let long = ltb-false _ _ (not_found _ _ e) in
      not-false _ (fails_before_first fails xs k 0 (omega arith))

  -- the row that is found is the first that fails
  pub first_failed : (row : ℕ) → position fails xs ≡ Some row → First test xs row
  first_failed row e =
      let found = position-Some fails xs row 0 e in
      record { inside = found.0; fails = not-true _ found.1; before = λ k h. not-false _ (found.2 k h) }
