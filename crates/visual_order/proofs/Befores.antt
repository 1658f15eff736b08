-- What stands before what in a list that is made of others
use Rattle.std.proofs.Common.{ℕ, suc, ◌+◌, ◌-◌, List, ◌∷◌, ◌++◌, reverse, length, get_or, refl, ap, ◌∙◌, arith, length-append}
use lib.ListN.{length-reverse}
use Rattle.std.specs.List.{ContainsAt as Has}
use Rattle.std.proofs.lemmas.List.{get_or_append_left, get_or-append-add, get_or-reverse}
use Rattle.visual_order.specs.Laws.{Before}

pub before_left : (xs ys : List ℕ) (i j : ℕ) → Before xs i j → Before (xs ++ ys) i j
before_left xs ys i j (a, b, ab, bl, ai, bj) =
    (a, b, ab, omega (arith, length-append xs ys), get_or_append_left xs ys 0 a (omega arith) ∙ ai, get_or_append_left xs ys 0 b bl ∙ bj)

pub before_right : (xs ys : List ℕ) (i j : ℕ) → Before ys i j → Before (xs ++ ys) i j
before_right xs ys i j (a, b, ab, bl, ai, bj) =
    (length xs + a, length xs + b, omega arith, omega (arith, length-append xs ys), get_or-append-add xs ys a 0 ∙ ai, get_or-append-add xs ys b 0 ∙ bj)

pub before_cons : (z : ℕ) (ys : List ℕ) (i j : ℕ) → Before ys i j → Before (z ∷ ys) i j
before_cons z ys i j (a, b, ab, bl, ai, bj) = (suc a, suc b, omega arith, omega arith, ai, bj)

pub before_across : (xs ys : List ℕ) (i j : ℕ) → Has xs i → Has ys j → Before (xs ++ ys) i j
before_across xs ys i j (a, al, ai) (b, bl, bj) =
    (a, length xs + b, omega arith, omega (arith, length-append xs ys), get_or_append_left xs ys 0 a al ∙ ai 0, get_or-append-add xs ys b 0 ∙ bj 0)

pub has_cons : (z : ℕ) (ys : List ℕ) (j : ℕ) → Has ys j → Has (z ∷ ys) j
has_cons z ys j (b, bl, bj) = (suc b, omega arith, bj)

pub has_first : (z : ℕ) (ys : List ℕ) → Has (z ∷ ys) z
has_first z ys = (0, omega arith, λ d. refl)

pub before_first : (z : ℕ) (ys : List ℕ) (j : ℕ) → Has ys j → Before (z ∷ ys) z j
before_first z ys j (b, bl, bj) = (0, suc b, omega arith, omega arith, refl, bj 0)

pub before_reverse : (xs : List ℕ) (i j : ℕ) → Before xs i j → Before (reverse xs) j i
before_reverse xs i j (a, b, ab, bl, ai, bj) = (
  length xs - 1 - b,
  length xs - 1 - a,
  omega arith,
  omega (arith, length-reverse xs),
  get_or-reverse xs (length xs - 1 - b) 0 (omega arith) ∙ ap (λ (k : ℕ). get_or xs k 0) (omega arith) ∙ bj,
  get_or-reverse xs (length xs - 1 - a) 0 (omega arith) ∙ ap (λ (k : ℕ). get_or xs k 0) (omega arith) ∙ ai,
)
