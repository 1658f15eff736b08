-- docs/RULES.md, "Measures"
-- Widths that are whole numbers of 32 bits. Below 2^32 all is that of whole numbers
use Rattle.std.specs.Prelude.{ℕ, ◌+◌, ◌/◌, ◌%◌, ◌^◌, Bool, nat_lt}

-- the sum, less 2^32 where it passes that
abbrev pub whole_sum : ℕ → ℕ → ℕ
whole_sum a b = (a + b) % (2 ^ 32)

-- the half, rounded down
abbrev pub whole_half : ℕ → ℕ
whole_half a = a / 2

-- 0 to 2147483647
abbrev pub whole_lawful : ℕ → Bool
whole_lawful a = nat_lt a (2 ^ 31)
