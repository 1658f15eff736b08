-- The searches for the first bad row of a table, one row on in a loop
use Rattle.std.proofs.Common.{◌≡◌, ℕ, ◌+◌, ◌<◌, ◌≤◌, Bool, true, false, cond, not, nat_lt, List, [], ◌∷◌, length, suc, refl, get_or, drop, Some, None, sym, ap, ◌∙◌, arith}
use Rattle.std.specs.List.{position, position_or_len}
use Rattle.std.proofs.lemmas.List.{drop_more, drop_all}
use Rattle.std.proofs.lemmas.Bool.Decides.{nat_tests}
use Rattle.paragraph.specs.declared.piece.Piece.{Piece}
use Rattle.paragraph.specs.Pieces.{first_failing, first_loose, follows}
use Rattle.paragraph.proofs.Tiling.{goes_on, stops_here}

-- what is left of a table, by the row x that was read
module _ {X : Type 0} (xs : List X) (i : ℕ) (x : X) (within : i < length xs) (read : x ≡ get_or xs i x) where
  left : drop i xs ≡ x ∷ drop (i + 1) xs
  left = drop_more xs i x within ∙ ap (λ y. y ∷ drop (i + 1) xs) (sym read)

  module _ (piece : X → Piece) (n at : ℕ) (p : Piece) (told : p ≡ piece x) where
    pub loose_on : true ≡ follows at n p → first_loose piece n i at (drop i xs) ≡ first_loose piece n (i + 1) (at + p.len) (drop (i + 1) xs)
    loose_on good =
        ap (first_loose piece n i at) left
        ∙ goes_on piece n i at x (drop (i + 1) xs) (sym (good ∙ ap (follows at n) told))
        ∙ ap (λ q. first_loose piece n (i + 1) (at + q.len) (drop (i + 1) xs)) (sym told)

    pub loose_here : false ≡ follows at n p → first_loose piece n i at (drop i xs) ≡ Some i
    loose_here bad =
        ap (first_loose piece n i at) left
        ∙ stops_here piece n i at x (drop (i + 1) xs) (sym (bad ∙ ap (follows at n) told))

-- past the last row
module _ {X : Type 0} (xs : List X) (i : ℕ) (past : length xs ≤ i) (upto : i ≤ length xs) (piece : X → Piece) (n at : ℕ) where
  pub loose_none : at ≡ n → first_loose piece n i at (drop i xs) ≡ None
  loose_none e = rw drop_all (grind (arith, nat_tests))

  pub loose_short : (at ≡ n → ⊥) → first_loose piece n i at (drop i xs) ≡ Some (length xs)
  loose_short ne = rw drop_all (grind (arith, nat_tests))

-- what the library's search for the first row that fails a test finds
module _ {X : Type 0} (test : X → Bool) where
  abbrev passing : List X → ℕ
  passing xs = position_or_len (λ x. not (test x)) xs

  failing_from : (i : ℕ) (xs : List X) → first_failing test i xs ≡ cond (nat_lt (passing xs) (length xs)) (Some (i + passing xs)) None
  failing_from i [] = refl
  failing_from i (x ∷ xs) =
      elim (test x) as (λ b. elim b [ true ↦ first_failing test (i + 1) xs | false ↦ Some i ] ≡ cond (nat_lt (cond (not (not b)) (1 + passing xs) 0) (suc (length xs))) (Some (i + cond (not (not b)) (1 + passing xs) 0)) None) [
        | true ↦ grind (arith, nat_tests, failing_from (i + 1) xs)
        | false ↦ grind (arith, nat_tests)
      ]

  pub failing_position : (xs : List X) → first_failing test 0 xs ≡ position (λ x. not (test x)) xs
  failing_position xs = failing_from 0 xs ∙ ap (λ n. cond (nat_lt (passing xs) (length xs)) (Some n) None) (omega arith)
