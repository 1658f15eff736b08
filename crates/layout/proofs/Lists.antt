-- What the caller's list holds after the ellipsis is written into it
use Rattle.std.proofs.Common.{◌≡◌, ℕ, ◌+◌, ◌-◌, ◌<◌, ◌≤◌, List, [], ◌∷◌, ◌++◌, length, get_or, take, drop, set, sym, ap, ◌∙◌, arith}
use Rattle.std.proofs.lemmas.List.{append_assoc, take_more, take-append-drop, take_more_set, drop-set-lt, length_push, take_at, drop_at, set_at, drop-drop}

module _ {X : Type 0} where
  -- one written behind the first n
  pub turned_last : (xs : List X) (n : ℕ) (x : X) → n < length xs → set xs n x ≡ (take n xs ++ x ∷ []) ++ drop (n + 1) xs
  turned_last xs n x h =
      let front = take_more_set xs n x h in
      let back : drop (n + 1) (set xs n x) ≡ drop (n + 1) xs = drop-set-lt (n + 1) xs n x (omega arith) in
      let all = take-append-drop (n + 1) (set xs n x) in
      cc

  -- the first n of a list that begins with n
  pub front_is : (xs before out : List X) (n : ℕ) → n ≡ length xs → out ≡ xs ++ drop n before → take n out ≡ xs
  front_is xs before out n e o = ap (take n) o ∙ take_at xs (drop n before) n (sym e)

  -- what is left behind n + 1 of a list that begins with n
  pub rest_is : (xs before out : List X) (n : ℕ) → n ≡ length xs → out ≡ xs ++ drop n before → drop (n + 1) out ≡ drop (n + 1) before
  rest_is xs before out n e o =
      sym (drop-drop 1 n out) ∙ ap (drop 1) (ap (drop n) o ∙ drop_at xs (drop n before) n (sym e)) ∙ drop-drop 1 n before

  -- and behind j of them, where that is not less
  pub rest_further : (xs before out : List X) (n j : ℕ) → n ≡ length xs → out ≡ xs ++ drop n before → n ≤ j → drop j out ≡ drop j before
  rest_further xs before out n j e o h =
      let z : j ≡ n + (j - n) = omega arith in
      ap (λ (i : ℕ). drop i out) z ∙ sym (drop-drop (j - n) n out) ∙ ap (drop (j - n)) (ap (drop n) o ∙ drop_at xs (drop n before) n (sym e)) ∙ drop-drop (j - n) n before ∙ ap (λ (i : ℕ). drop i before) (sym z)

  -- a list with n in front, one place, and k behind it
  module _ (xs back before out : List X) (n k : ℕ) (d : X) (n_is : n ≡ length xs) (k_is : k ≡ length back) (room : n < length before) (front : take n before ≡ xs) (is : out ≡ take (n + 1) before ++ (back ++ drop k (drop (n + 1) before))) where
    rest : List X
    rest = back ++ drop k (drop (n + 1) before)

    parts : out ≡ xs ++ get_or before n d ∷ rest
    unfolding rest
    parts =
        is ∙ ap (λ (y : List X). y ++ rest) (take_more before n d room ∙ ap (λ (y : List X). y ++ get_or before n d ∷ []) front) ∙ append_assoc xs (get_or before n d ∷ []) rest

    pub parts_front : take n out ≡ xs
    parts_front = ap (take n) parts ∙ take_at xs (get_or before n d ∷ rest) n (sym n_is)

    pub parts_back : take k (drop (n + 1) out) ≡ back
    unfolding rest
    parts_back =
        let p : out ≡ (xs ++ get_or before n d ∷ []) ++ rest = parts ∙ sym (append_assoc xs (get_or before n d ∷ []) rest) in
        let l : length (xs ++ get_or before n d ∷ []) ≡ n + 1 = omega (arith, length_push xs (get_or before n d)) in
        ap (take k) (ap (drop (n + 1)) p ∙ drop_at (xs ++ get_or before n d ∷ []) rest (n + 1) l) ∙ take_at back (drop k (drop (n + 1) before)) k (sym k_is)

    pub parts_set : (x : X) → set out n x ≡ (xs ++ x ∷ back) ++ drop (n + 1 + k) before
    unfolding rest
    parts_set x =
        ap (λ (y : List X). set y n x) parts ∙ set_at xs (get_or before n d) rest x n (sym n_is)
        ∙ ap (λ (y : List X). xs ++ x ∷ (back ++ y)) (drop-drop k (n + 1) before)
        ∙ sym (append_assoc xs (x ∷ back) (drop (n + 1 + k) before))
