-- The rounds of the rule, one level after another
use Rattle.std.proofs.Common.{◌≡◌, ℕ, suc, ◌+◌, ◌-◌, ◌<◌, ◌≤◌, List, [], ◌∷◌, length, get_or, fold, sym, ap, ◌∙◌, subst, arith}
use Rattle.std.specs.List.{range_with_len, AllByRecursion as All}
use Rattle.std.proofs.lemmas.List.FromFn.{length-range_with_len, get_or-range_with_len}
use Rattle.std.proofs.ByRecursion.{All-from_get_or, All-get_or, all_shuffled}
use Rattle.visual_order.specs.VisualOrder.{turned, rounds, high, highest, lowest_odd, lower_odd, visual}
use Rattle.visual_order.proofs.Shuffles.{rounds_shuffled}

pub rounds_none : (levels line : List ℕ) (k c : ℕ) → c ≡ 0 → rounds levels k c line ≡ line
rounds_none levels line k c e = ap (λ (n : ℕ). rounds levels k n line) e

pub rounds_more : (levels line : List ℕ) (j k c d : ℕ) → k ≡ suc j → d ≡ suc c → rounds levels j d line ≡ turned (high levels j) [] (rounds levels k c line)
rounds_more levels line j k c d e f = ap (λ (n : ℕ). rounds levels j n line) f ∙ ap (λ (n : ℕ). turned (high levels j) [] (rounds levels n c line)) (sym e)

-- an index in the order is one of the n
pub rounds_below : (levels : List ℕ) (low count n : ℕ) → All (λ i. i < n) (rounds levels low count (range_with_len 0 n))
rounds_below levels low count n =
    all_shuffled (λ i. i < n) (range_with_len 0 n) (rounds levels low count (range_with_len 0 n)) (rounds_shuffled levels low count (range_with_len 0 n))
    (All-from_get_or (λ i. i < n) (range_with_len 0 n) 0 (λ i l. let b : i < n = omega (arith, length-range_with_len 0 n) in omega (arith, get_or-range_with_len 0 n i 0 b)))

pub indices_below : (line levels : List ℕ) (low count n : ℕ) → line ≡ rounds levels low count (range_with_len 0 n) → (p : ℕ) → p < length line → get_or line p 0 < n
indices_below line levels low count n e p l = All-get_or (λ i. i < n) line p 0 l (subst (All (λ i. i < n)) (sym e) (rounds_below levels low count n))

pub folded_le : (levels : List ℕ) (none low : ℕ) → fold (lower_odd none) low levels ≤ low
folded_le [] none low = omega arith
folded_le (x ∷ levels) none low = omega (arith, folded_le levels none (lower_odd none low x))

pub lowest_odd_le : (levels : List ℕ) (none : ℕ) → lowest_odd none levels ≤ none
lowest_odd_le levels none = folded_le levels none none

-- after the last round
pub rounds_done : (levels line : List ℕ) (n k low top : ℕ) → length levels ≡ n → top ≡ highest levels + 1 → low ≡ lowest_odd top levels → k ≡ low → line ≡ rounds levels k (top - k) (range_with_len 0 n) → line ≡ visual levels
rounds_done levels line n k low top len_is top_is low_is k_is e =
    e
    ∙ ap (λ (j : ℕ). rounds levels j (top - j) (range_with_len 0 n)) (k_is ∙ low_is)
    ∙ ap (λ (t : ℕ). rounds levels (lowest_odd t levels) (t - lowest_odd t levels) (range_with_len 0 n)) top_is
    ∙ ap (λ (m : ℕ). rounds levels (lowest_odd (highest levels + 1) levels) (highest levels + 1 - lowest_odd (highest levels + 1) levels) (range_with_len 0 m)) (sym len_is)
