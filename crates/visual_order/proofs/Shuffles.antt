-- An order is a permutation: each step of the rule only moves elements
use Rattle.std.proofs.Common.{◌≡◌, ℕ, zero, suc, Bool, true, false, List, [], ◌∷◌, ◌++◌, refl, append-nil, arith}
use Rattle.std.specs.List.Sorted.{IsPermutation}
use Rattle.std.proofs.lemmas.List.Sorted.{IsPermutation-refl, IsPermutation-cons, IsPermutation-trans, IsPermutation-swap}
use Rattle.visual_order.specs.VisualOrder.{turned, rounds, high}

append_shuffled : (run xs ys : List ℕ) → IsPermutation xs ys → IsPermutation (run ++ xs) (run ++ ys)
append_shuffled [] xs ys s = s
append_shuffled (x ∷ run) xs ys s = IsPermutation-cons x (run ++ xs) (run ++ ys) (append_shuffled run xs ys s)

swap_two : (x y : ℕ) (xs : List ℕ) → IsPermutation (x ∷ (y ∷ xs)) (y ∷ (x ∷ xs))
swap_two x y xs = IsPermutation-swap (x ∷ (y ∷ xs)) (y ∷ (x ∷ xs)) 0 1 (omega arith) (omega arith) refl

to_front : (run xs : List ℕ) (x : ℕ) → IsPermutation (run ++ (x ∷ xs)) (x ∷ (run ++ xs))
to_front [] xs x = IsPermutation-refl (x ∷ xs)
to_front (y ∷ run) xs x = IsPermutation-trans (y ∷ (run ++ (x ∷ xs))) (y ∷ (x ∷ (run ++ xs))) (x ∷ (y ∷ (run ++ xs))) (IsPermutation-cons y (run ++ (x ∷ xs)) (x ∷ (run ++ xs)) (to_front run xs x)) (swap_two y x (run ++ xs))

module _ (h : ℕ → Bool) where
  shuffled_step : (x : ℕ) (run xs : List ℕ) (k : Bool) → h x ≡ k → IsPermutation (x ∷ (run ++ xs)) (turned h (x ∷ run) xs) → IsPermutation xs (turned h [] xs) → IsPermutation (run ++ (x ∷ xs)) (turned h run (x ∷ xs))
  shuffled_step x run xs true e in_run after = rw (e, turned) (IsPermutation-trans (run ++ (x ∷ xs)) (x ∷ (run ++ xs)) (turned h (x ∷ run) xs) (to_front run xs x) in_run)
  shuffled_step x run xs false e in_run after = rw (e, turned) (append_shuffled run (x ∷ xs) (x ∷ turned h [] xs) (IsPermutation-cons x xs (turned h [] xs) after))

  pub turned_shuffled : (run xs : List ℕ) → IsPermutation (run ++ xs) (turned h run xs)
  turned_shuffled run [] = rw append-nil (IsPermutation-refl run)
  turned_shuffled run (x ∷ xs) = shuffled_step x run xs (h x) refl (turned_shuffled (x ∷ run) xs) (turned_shuffled [] xs)

pub rounds_shuffled : (levels : List ℕ) (low count : ℕ) (line : List ℕ) → IsPermutation line (rounds levels low count line)
rounds_shuffled levels low zero line = IsPermutation-refl line
rounds_shuffled levels low (suc count) line = IsPermutation-trans line (rounds levels (suc low) count line) (rounds levels low (suc count) line) (rounds_shuffled levels (suc low) count line) (turned_shuffled (high levels low) [] (rounds levels (suc low) count line))
