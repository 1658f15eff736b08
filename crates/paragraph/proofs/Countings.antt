-- Numbers in a row, and rows reversed
use Rattle.std.proofs.Common.{◌≡◌, ℕ, zero, suc, ◌+◌, ◌-◌, ◌≤◌, List, [], ◌∷◌, ◌++◌, reverse, length, take, drop, sym, refl, ap, ◌∙◌, subst, add-zero, arith}
use Rattle.std.specs.List.{range_with_len}
use Rattle.std.specs.List.Sorted.{IsPermutation}
use Rattle.std.proofs.lemmas.List.{append-nil, reverse-append, take-append-drop, length-reverse, length-drop, drop_at}
use Rattle.std.proofs.lemmas.List.Sorted.{IsPermutation-refl, IsPermutation-sym, IsPermutation-cons, IsPermutation-to_front, IsPermutation-swap, IsPermutation-trans}

pub drop_counting : (k a n : ℕ) → drop k (range_with_len a n) ≡ range_with_len (a + k) (n - k)
drop_counting zero a n =
    let f : n ≡ n - 0 = omega arith in
    ap (λ b. range_with_len b n) (sym (add-zero a)) ∙ ap (range_with_len (a + 0)) f
drop_counting (suc k) a zero =
    let f : 0 ≡ 0 - suc k = omega arith in
    ap (range_with_len (a + suc k)) f
drop_counting (suc k) a (suc n) =
    let e : a + 1 + k ≡ a + suc k = omega arith in
    let f : n - k ≡ suc n - suc k = omega arith in
    drop_counting k (a + 1) n ∙ ap (λ b. range_with_len b (n - k)) e ∙ ap (range_with_len (a + suc k)) f

pub take_counting : (k a n : ℕ) → k ≤ n → take k (range_with_len a n) ≡ range_with_len a k
take_counting zero a n h = refl
take_counting (suc k) a zero h = absurd (omega arith)
take_counting (suc k) a (suc n) h = ap (λ l. a ∷ l) (take_counting k (a + 1) n (omega arith))

pub counting_more : (a m n : ℕ) → range_with_len a (m + n) ≡ range_with_len a m ++ range_with_len (a + m) n
counting_more a m n =
    let f : m + n - m ≡ n = omega arith in
    sym (take-append-drop m (range_with_len a (m + n)))
    ∙ ap (λ l. l ++ drop m (range_with_len a (m + n))) (take_counting m a (m + n) (omega arith))
    ∙ ap (λ l. range_with_len a m ++ l) (drop_counting m a (m + n) ∙ ap (range_with_len (a + m)) f)

-- what is left of a reversed list after its first k
pub drop_reverse : {X : Type 0} (k : ℕ) (xs : List X) → k ≤ length xs → drop k (reverse xs) ≡ reverse (take (length xs - k) xs)
drop_reverse k xs h =
    let m : ℕ = length xs - k in
    let parts = ap reverse (sym (take-append-drop m xs)) ∙ reverse-append (take m xs) (drop m xs) in
    let long : length (reverse (drop m xs)) ≡ k = length-reverse (drop m xs) ∙ length-drop m xs ∙ omega arith in
    ap (drop k) parts ∙ drop_at (reverse (drop m xs)) (reverse (take m xs)) k long

-- shuffled lists, one behind the other
to_middle : {X : Type 0} (x : X) (xs ys : List X) → IsPermutation (x ∷ (xs ++ ys)) (xs ++ (x ∷ ys))
to_middle x [] ys = IsPermutation-refl (x ∷ ys)
to_middle x (z ∷ xs) ys =
    IsPermutation-trans _ _ _
    (IsPermutation-swap (x ∷ (z ∷ (xs ++ ys))) (z ∷ (x ∷ (xs ++ ys))) 0 1 (omega arith) (omega arith) refl)
    (IsPermutation-cons z _ _ (to_middle x xs ys))

turned : {X : Type 0} (xs ys : List X) → IsPermutation (xs ++ ys) (ys ++ xs)
turned [] ys = subst (IsPermutation ys) (sym (append-nil ys)) (IsPermutation-refl ys)
turned (x ∷ xs) ys = IsPermutation-trans _ _ _ (IsPermutation-cons x _ _ (turned xs ys)) (to_middle x ys xs)

behind : {X : Type 0} (xs ys zs : List X) → IsPermutation ys zs → IsPermutation (xs ++ ys) (xs ++ zs)
behind [] ys zs h = h
behind (x ∷ xs) ys zs h = IsPermutation-cons x _ _ (behind xs ys zs h)

pub shuffled_append : {X : Type 0} (us vs xs ys : List X) → IsPermutation us vs → IsPermutation xs ys → IsPermutation (us ++ xs) (vs ++ ys)
shuffled_append us vs xs ys f g =
    IsPermutation-trans _ _ _ (behind us xs ys g)
    (IsPermutation-trans _ _ _ (turned us ys) (IsPermutation-trans _ _ _ (behind ys us vs f) (turned ys vs)))

pub shuffled_reverse : {X : Type 0} (xs : List X) → IsPermutation xs (reverse xs)
shuffled_reverse [] = IsPermutation-refl []
shuffled_reverse (x ∷ xs) =
    subst (IsPermutation (x ∷ xs)) (sym (reverse-append (x ∷ []) xs))
    (IsPermutation-trans _ _ _ (IsPermutation-cons x _ _ (shuffled_reverse xs)) (IsPermutation-sym _ _ (IsPermutation-to_front (reverse xs) x)))
