-- docs/RULES.md, "Visual order (rule L2)"
-- Rule L2 of UAX #9, over the levels of a line's elements
use Rattle.std.specs.Prelude.{ℕ, zero, suc, ◌+◌, ◌-◌, ◌%◌, min, max, Bool, true, false, cond, List, [], ◌∷◌, ◌++◌, length, fold, ◌==◌, nat_le, slice_index}
use Rattle.std.specs.List.{range_with_len}

-- A line in which each longest run of elements that pass a test is reversed, and every other element stays.
-- `run` is the run that is being read, its last element first. `RunLaw` says place by place what this is
abbrev pub turned : (ℕ → Bool) → List ℕ → List ℕ → List ℕ
turned high run [] = run
turned high run (x ∷ xs) = elim (high x) [ true ↦ turned high (x ∷ run) xs | false ↦ run ++ (x ∷ turned high [] xs) ]

-- the element i is at the level k or higher
abbrev pub high : List ℕ → ℕ → ℕ → Bool
high levels k i = nat_le k (slice_index levels i)

-- from the level low + count - 1 down to the level low, each longest run at that level or higher is reversed
abbrev pub rounds : List ℕ → ℕ → ℕ → List ℕ → List ℕ
rounds levels low zero line = line
rounds levels low (suc count) line = turned (high levels low) [] (rounds levels (suc low) count line)

-- the highest level
abbrev pub highest : List ℕ → ℕ
highest levels = fold max 0 levels

-- a level if it is odd, and else `none`
abbrev pub odd_or : ℕ → ℕ → ℕ
odd_or none level = cond (level % 2 == 1) level none

-- the lower of what was found before and this level, which counts only if it is odd
abbrev pub lower_odd : ℕ → ℕ → ℕ → ℕ
lower_odd none low level = min low (odd_or none level)

-- the lowest odd level, or `none`, which is above them all, where no level is odd
abbrev pub lowest_odd : ℕ → List ℕ → ℕ
lowest_odd none levels = fold (lower_odd none) none levels

-- Rule L2: from the highest level down to the lowest odd level, reverse each longest run of elements at that level or higher.
-- The line is at first the elements in their own order, each by its index, and each is turned singly. Where no level is odd,
-- no round is made: the rounds then begin above the highest level
abbrev pub visual : List ℕ → List ℕ
visual levels =
    let top = highest levels + 1 in
    let low = lowest_odd top levels in
    rounds levels low (top - low) (range_with_len 0 (length levels))
