-- What is said of the lines of a text, and how it is counted
use Rattle.std.specs.Prelude.{ℕ, List, [], ◌∷◌, Bool, Ok, Result, ◌≡◌, ◌+◌, min, length, map, if◌then◌else◌}
use Rattle.std.specs.Borrow.{Bor}
use Rattle.std.specs.List.{AllZip}
use Rattle.std.specs.Str.Lines.{lines}

-- how many verdicts are that a line differs
abbrev pub differing : List Bool → ℕ
differing [] = 0
differing (agrees ∷ verdicts) = (if agrees then 0 else 1) + differing verdicts

-- There is a verdict for each line, in order, which is what was said of that line. `count` is how many verdicts there are, and `differ` how many of them are
-- that a line differs, each as far as a number goes
abbrev pub Judged : {H E : Type 0} → (H → Bor (List ℕ) → Result Bool E → Type 0) → ℕ → List (Bor (List ℕ)) → ℕ → ℕ → Type 0
Judged {H} {E} says most asked count differ = (verdicts : List Bool) × AllZip (λ line agrees. (heap : H) × says heap line (Ok agrees)) asked verdicts × (count ≡ min (length verdicts) most) × (differ ≡ min (differing verdicts) most)

-- the lines of some text, all of them and in order, were judged and counted
abbrev pub Replayed : {H E : Type 0} → (H → Bor (List ℕ) → Result Bool E → Type 0) → ℕ → ℕ → ℕ → Type 0
Replayed says most count differ = (text : List ℕ) × (asked : List (Bor (List ℕ))) × (map (λ line. line.now) asked ≡ lines text) × Judged says most asked count differ
