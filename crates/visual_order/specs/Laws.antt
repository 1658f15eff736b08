-- docs/RULES.md, "Visual order (rule L2)"
-- What holds of the rule, in words of its own: runs, places, and which of two elements is seen first
use Rattle.std.specs.Prelude.{◌≡◌, ℕ, ◌+◌, ◌-◌, ◌%◌, ◌<◌, ◌≤◌, Bool, true, false, List, [], ◌∷◌, ◌++◌, reverse, length, replicate, count_by, nat_eq, slice_index}
use Rattle.std.specs.List.{range_with_len}
use Rattle.visual_order.specs.VisualOrder.{turned, visual}

-- the places from a on and before b hold a longest run: all in it pass the test, and what stands just before and just behind it,
-- if anything does, fails
abbrev pub Longest : (ℕ → Bool) → List ℕ → ℕ → ℕ → Type 0
Longest high line a b =
    (a < b)
    × (b ≤ length line)
    × ((p : ℕ) → a ≤ p → p < b → high (slice_index line p) ≡ true)
    × (0 < a → high (slice_index line (a - 1)) ≡ false)
    × (b < length line → high (slice_index line b) ≡ false)

-- What "reverse each longest run" means: the line stays as long as it is; of a longest run the first place gets what its last
-- place held, the second what the last but one held, and so on; an element that fails the test stays where it is
abbrev pub RunLaw : Type 0
RunLaw =
    (high : ℕ → Bool) (line : List ℕ) →
    (length (turned high [] line) ≡ length line)
    × ((a b p : ℕ) → Longest high line a b → a ≤ p → p < b → slice_index (turned high [] line) p ≡ slice_index line (a + b - 1 - p))
    × ((p : ℕ) → p < length line → high (slice_index line p) ≡ false → slice_index (turned high [] line) p ≡ slice_index line p)

-- i is seen before j: it stands at a place a of the order, and j at a later place b
abbrev pub Before : List ℕ → ℕ → ℕ → Type 0
Before order i j = (a : ℕ) × (b : ℕ) × (a < b) × (b < length order) × (slice_index order a ≡ i) × (slice_index order b ≡ j)

-- m is the lowest of the levels from i to j, both included
abbrev pub Lowest : List ℕ → ℕ → ℕ → ℕ → Type 0
Lowest levels i j m =
    ((k : ℕ) → i ≤ k → k ≤ j → m ≤ slice_index levels k) × ((k : ℕ) × (i ≤ k) × (k ≤ j) × (slice_index levels k ≡ m))

-- of two elements, i before j in the text, i is seen first exactly if the lowest level from i to j is even,
-- and j is seen first exactly if it is odd
pub record Pair (levels order : List ℕ) (i j m : ℕ) : Type 0 where
  pub even_first : m % 2 ≡ 0 → Before order i j
  pub first_even : Before order i j → m % 2 ≡ 0
  pub odd_last : m % 2 ≡ 1 → Before order j i
  pub last_odd : Before order j i → m % 2 ≡ 1

-- of any two elements of the line
abbrev pub Pairs : List ℕ → List ℕ → Type 0
Pairs levels order = (i j m : ℕ) → i < j → j < length levels → Lowest levels i j m → Pair levels order i j m

-- there are as many places as elements, each place holds an index of an element, and each index stands at one place
pub record Once (levels order : List ℕ) : Type 0 where
  pub as_long : length order ≡ length levels
  pub in_range : (p : ℕ) → p < length order → slice_index order p < length levels
  pub one_each : (i : ℕ) → i < length levels → count_by (λ x. nat_eq x i) order ≡ 1

-- the law of pairs holds of the rule, whatever the levels are
abbrev pub PairLaw : Type 0
PairLaw = (levels : List ℕ) → Pairs levels (visual levels)

-- each index is in the order once
abbrev pub OnceLaw : Type 0
OnceLaw = (levels : List ℕ) → Once levels (visual levels)

-- Worked examples: an empty line; a right-to-left run in a left-to-right line; two neighbours at one level, which are turned
-- singly; level 126 alone, and levels beyond it
abbrev pub Examples : Type 0
Examples =
    (visual [] ≡ [])
    × (visual (0 ∷ 1 ∷ 1 ∷ 0 ∷ []) ≡ 0 ∷ 2 ∷ 1 ∷ 3 ∷ [])
    × (visual (2 ∷ 2 ∷ 1 ∷ []) ≡ 2 ∷ 0 ∷ 1 ∷ [])
    × (visual (126 ∷ []) ≡ 0 ∷ [])
    × (visual (255 ∷ 255 ∷ 254 ∷ []) ≡ 1 ∷ 0 ∷ 2 ∷ [])

-- The four examples that UAX #9 gives with the rule, character by character, capitals standing for right-to-left letters:
-- "car means CAR.", seen as "car means RAC."; "car MEANS CAR." in a right-to-left line, seen as ".RAC SNAEM car";
-- "he said [car MEANS CAR.]", seen as "he said [RAC SNAEM car.]"; and "DID YOU SAY <he said [car MEANS CAR]>?" in a
-- right-to-left line, seen as "?>he said [RAC SNAEM car]< YAS UOY DID"
abbrev pub StandardExamples : Type 0
StandardExamples =
    (visual (replicate 10 0 ++ (replicate 3 1 ++ (0 ∷ []))) ≡ range_with_len 0 10 ++ (reverse (range_with_len 10 3) ++ (13 ∷ [])))
    × (visual (replicate 3 2 ++ replicate 11 1) ≡ reverse (range_with_len 3 11) ++ range_with_len 0 3)
    × (visual (replicate 9 0 ++ (replicate 3 2 ++ (replicate 10 1 ++ replicate 2 0))) ≡ range_with_len 0 9 ++ (reverse (range_with_len 12 10) ++ (range_with_len 9 3 ++ range_with_len 22 2)))
    × (visual (replicate 13 1 ++ (replicate 9 2 ++ (replicate 3 4 ++ (replicate 10 3 ++ (2 ∷ 1 ∷ 1 ∷ []))))) ≡ 37 ∷ 36 ∷ (range_with_len 13 9 ++ (reverse (range_with_len 25 10) ++ (range_with_len 22 3 ++ (35 ∷ reverse (range_with_len 0 13))))))
