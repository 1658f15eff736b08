-- Intervals of indices: cut in two, turned, counted, added up
use Rattle.std.proofs.Common.{◌≡◌, ℕ, zero, suc, ◌+◌, ◌-◌, ◌≤◌, Bool, true, false, cond, List, [], ◌∷◌, ◌++◌, reverse, length, sum_by, refl, ap, ◌∙◌, arith}
use mathlib.Core.List.{reverse-cons}
use Rattle.std.specs.List.{range_with_len}
use Rattle.std.proofs.lemmas.List.FromFn.{length-range_with_len}
use Rattle.std.proofs.lemmas.List.{length-reverse}
use Rattle.std.proofs.lemmas.List.Sums.{sum_by-cons, sum_by_push}

-- the indices from `low` up to `high`, upwards or downwards
abbrev pub upto : ℕ → ℕ → List ℕ
upto low high = range_with_len low (high - low)

abbrev pub turned : Bool → List ℕ → List ℕ
turned up is = cond up is (reverse is)

counting_cut : (a n m : ℕ) → range_with_len a (n + m) ≡ range_with_len a n ++ range_with_len (a + n) m
counting_cut a zero m =
    let e : 0 + m ≡ m = omega arith in
    ap (range_with_len a) e ∙ ap (λ (i : ℕ). range_with_len i m) (omega arith)
counting_cut a (suc n) m =
    let e : suc n + m ≡ suc (n + m) = omega arith in
    ap (range_with_len a) e
    ∙ ap (λ (l : List ℕ). a ∷ l) (counting_cut (a + 1) n m ∙ ap (λ (i : ℕ). range_with_len (a + 1) n ++ range_with_len i m) (omega arith))

pub upto_cut : (low mid high : ℕ) → low ≤ mid → mid ≤ high → upto low high ≡ upto low mid ++ upto mid high
upto_cut low mid high p q =
    let e : high - low ≡ mid - low + (high - mid) = omega arith in
    ap (range_with_len low) e ∙ counting_cut low (mid - low) (high - mid) ∙ ap (λ (i : ℕ). upto low mid ++ range_with_len i (high - mid)) (omega arith)

turned_none : (up : Bool) → turned up [] ≡ []
turned_none true = refl
turned_none false = refl

pub upto_none : (up : Bool) (low : ℕ) → turned up (upto low low) ≡ []
upto_none up low =
    let none : low - low ≡ 0 = omega arith in
    ap (λ (n : ℕ). turned up (range_with_len low n)) none ∙ turned_none up

pub length_upto : (up : Bool) (low high : ℕ) → length (turned up (upto low high)) ≡ high - low
length_upto true low high = length-range_with_len low (high - low)
length_upto false low high = length-reverse (upto low high) ∙ length-range_with_len low (high - low)

-- the sum of f over all indices below n
abbrev pub below : (ℕ → ℕ) → ℕ → ℕ
below f zero = 0
below f (suc n) = below f n + f n

sum_counting : (f : ℕ → ℕ) (a n : ℕ) → below f a + sum_by f (range_with_len a n) ≡ below f (a + n)
sum_counting f a zero = let e : below f a ≡ below f (a + 0) = ap (below f) (omega arith) in omega arith
sum_counting f a (suc n) =
    let one : a + 1 ≡ suc a = omega arith in
    let e : below f (a + 1) ≡ below f a + f a = ap (below f) one in
    let g : below f (a + 1 + n) ≡ below f (a + suc n) = ap (below f) (omega arith) in
    omega (arith, sum_counting f (a + 1) n, sum_by-cons f a (range_with_len (a + 1) n))

sum_reverse : (f : ℕ → ℕ) (is : List ℕ) → sum_by f (reverse is) ≡ sum_by f is
sum_reverse f [] = refl
sum_reverse f (i ∷ is) = ap (sum_by f) (reverse-cons i is) ∙ omega (arith, sum_by_push f (reverse is) i, sum_reverse f is, sum_by-cons f i is)

sum_turned : (f : ℕ → ℕ) (up : Bool) (is : List ℕ) → sum_by f (turned up is) ≡ sum_by f is
sum_turned f true is = refl
sum_turned f false is = sum_reverse f is

pub sum_upto : (f : ℕ → ℕ) (up : Bool) (low high : ℕ) → low ≤ high → below f low + sum_by f (turned up (upto low high)) ≡ below f high
sum_upto f up low high p =
    let e : below f (low + (high - low)) ≡ below f high = ap (below f) (omega arith) in
    omega (arith, sum_turned f up (upto low high), sum_counting f low (high - low))

pub below_rises : (f : ℕ → ℕ) (low high : ℕ) → low ≤ high → below f low ≤ below f high
below_rises f low high p = omega (arith, sum_upto f true low high p)
