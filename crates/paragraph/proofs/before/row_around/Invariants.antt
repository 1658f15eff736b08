use Rattle.std.proofs.Common.{◌≡◌, ℕ, ◌-◌, ◌≤◌}
use Rattle.paragraph.specs.Before.{around}
use Rattle.paragraph.proofs.before.row_around.Given as goal

-- the search of what is left finds what the whole search does
abbrev pub invariant-loop-i : goal.invariant-loop-i
invariant-loop-i g l =
    (f : ℕ → ℕ) → ((i r : ℕ) → i ≤ l.n → goal.F-post g l.begins i r → r ≡ f i) → around f l.at l.i (l.n - l.i) ≡ around f l.at 0 l.n
