-- An input's lines
use Rattle.std.specs.Prelude.{ℕ, ◌+◌, ◌-◌, ◌^◌, min}

-- the number of the line at a place among lines of which the first has this number, as far as numbers go
abbrev pub number_at : ℕ → ℕ → ℕ
number_at first place = min (first + place) (2 ^ 64 - 1)
