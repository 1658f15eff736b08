-- Lists of glyphs: how often each stands in one, what is left of one without another, and reading order
use Rattle.std.proofs.Common.{◌≡◌, ℕ, zero, suc, ◌+◌, ◌<◌, ◌≤◌, Bool, true, false, cond, ◌&&◌, eqb, ltb, leb, List, [], ◌∷◌, ◌++◌, length, get_or, count_by, filter, sym, refl, ap, ◌∙◌, append_assoc, append-nil, arith, length-append}
use Rattle.paragraph.specs.Laws.{ReadingLaws}
use Rattle.paragraph.specs.Reading.{reading}
use Rattle.paragraph.specs.Text.{Text}
use Rattle.runs.specs.Laws.{InOrder}
use Rattle.runs.specs.Log.{without}
use Rattle.std.proofs.lemmas.List.Elements.{filter-append}
use Rattle.std.proofs.lemmas.List.{get_or_at, length_push}
use Rattle.std.proofs.lemmas.List.Sorted.{sum_by-IsPermutation}
use Rattle.std.proofs.lemmas.List.Sums.{sum_by-append, sum_by-cons}
use Rattle.std.proofs.lemmas.Bool.{cond-false, cond-true, eq-eqb, ne_eqb}
use Rattle.std.proofs.lemmas.Bool.Decides.{nat_tests}
use Rattle.std.specs.List.{range_with_len, AllByRecursion as All}

-- how often a glyph stands in a list
abbrev pub times : ℕ → List ℕ → ℕ
times i is = count_by (eqb i) is

pub times_append : (i : ℕ) (xs ys : List ℕ) → times i (xs ++ ys) ≡ times i xs + times i ys
times_append i = sum_by-append (λ j. cond (eqb i j) 1 0)

times_cons : (i x : ℕ) (xs : List ℕ) → times i (x ∷ xs) ≡ cond (eqb i x) 1 0 + times i xs
times_cons i = sum_by-cons (λ j. cond (eqb i j) 1 0)

times_here : (x : ℕ) (xs : List ℕ) → 0 < times x (x ∷ xs)
times_here x xs = omega (arith, times_cons x x xs, cond-true {A = ℕ} (eqb x x) 1 0 (eq-eqb x x refl))

times_there : (i x : ℕ) (xs : List ℕ) → 0 < times i xs → 0 < times i (x ∷ xs)
times_there i x xs h = omega (arith, times_cons i x xs)

times_counting : (i from n : ℕ) → times i (range_with_len from n) ≡ cond (leb from i && ltb i (from + n)) 1 0
times_counting i from zero = grind (arith, nat_tests)
times_counting i from (suc n) =
    let e = times_counting i (from + 1) n in
    let c = times_cons i from (range_with_len (from + 1) n) in
    grind (arith, nat_tests)

-- reading order has each glyph once
pub reading_once : (t : Text) → ReadingLaws t → (i : ℕ) → times i (reading t) ≡ cond (ltb i (length t.glyphs)) 1 0
reading_once t laws i =
    sum_by-IsPermutation (λ j. cond (eqb i j) 1 0) (range_with_len 0 (length t.glyphs)) (reading t) laws.each_once
    ∙ times_counting i 0 (length t.glyphs)
    ∙ grind (arith, nat_tests)

-- what holds of each that stands in a list
all_since : (P : ℕ → Type 0) (xs : List ℕ) → ((i : ℕ) → 0 < times i xs → P i) → All P xs
all_since P [] h = tt
all_since P (x ∷ xs) h = (h x (times_here x xs), all_since P xs (λ i l. h i (times_there i x xs l)))

module _ (p : ℕ → Bool) where
  kept_all : (xs : List ℕ) → All (λ x. p x ≡ true) xs → filter p xs ≡ xs
  kept_all [] h = refl
  kept_all (x ∷ xs) (e, h) = cond-true (p x) (x ∷ filter p xs) (filter p xs) e ∙ ap (λ (l : List ℕ). x ∷ l) (kept_all xs h)

  kept_none : (xs : List ℕ) → All (λ x. p x ≡ false) xs → filter p xs ≡ []
  kept_none [] h = refl
  kept_none (x ∷ xs) (e, h) = cond-false (p x) (x ∷ filter p xs) (filter p xs) e ∙ kept_none xs h

-- of three parts without a glyph in common, what is left without the first and the last
pub between_is : (front hidden back : List ℕ) → ((i : ℕ) → times i (front ++ (hidden ++ back)) ≤ 1) → without (front ++ back) (front ++ (hidden ++ back)) ≡ hidden
between_is front hidden back once =
    filter-append p front (hidden ++ back)
    ∙ ap (λ (l : List ℕ). l ++ filter p (hidden ++ back)) (kept_none p front (all_since (λ i. p i ≡ false) front (λ i h. ne_eqb (times i (front ++ back)) 0 (λ e. omega (arith, times_append i front back)))))
    ∙ filter-append p hidden back
    ∙ ap (λ (l : List ℕ). l ++ filter p back) (kept_all p hidden (all_since (λ i. p i ≡ true) hidden (λ i h. eq-eqb (times i (front ++ back)) 0 (omega (arith, once i, times_append i front (hidden ++ back), times_append i hidden back, times_append i front back)))))
    ∙ ap (λ (l : List ℕ). hidden ++ l) (kept_none p back (all_since (λ i. p i ≡ false) back (λ i h. ne_eqb (times i (front ++ back)) 0 (λ e. omega (arith, times_append i front back)))))
    ∙ append-nil hidden
  where
    p : ℕ → Bool
    p = λ i. eqb (times i (front ++ back)) 0

in_order_from : (read is : List ℕ) (from later : ℕ) → from ≤ later → InOrder read later is → InOrder read from is
in_order_from read [] from later l h = tt
in_order_from read (i ∷ is) from later l (rank, low, high, at, more) = (rank, omega arith, high, at, more)

-- a stretch of reading order, and then glyphs that come later
pub stretch_in_order : (read before xs after ys : List ℕ) (from : ℕ) → read ≡ before ++ (xs ++ after) → from ≤ length before →
    InOrder read (length before + length xs) ys → InOrder read from (xs ++ ys)
stretch_in_order read before [] after ys from e l more = in_order_from read ys from (length before + 0) (omega arith) more
stretch_in_order read before (x ∷ xs) after ys from e l more = (
  length before,
  l,
  omega (arith, ap length e, length-append before (x ∷ (xs ++ after))),
  ap (λ (r : List ℕ). get_or r (length before) 0) e ∙ get_or_at before x (xs ++ after) 0 (length before) refl,
  stretch_in_order read (before ++ x ∷ []) xs after ys (length before + 1) (e ∙ sym (append_assoc before (x ∷ []) (xs ++ after))) (omega (arith, length_push before x))
      (in_order_from read ys (length (before ++ x ∷ []) + length xs) (length before + suc (length xs)) (omega (arith, length_push before x)) more),
)
