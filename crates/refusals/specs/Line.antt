-- A refusal as it is printed
use Rattle.std.specs.Prelude.{ℕ, List, ◌++◌, codes, decimal, Option}
use Rattle.std.specs.Option.{option_map}

-- `refused NUMBER at ROW in TABLE`, where it is known how the table is printed
abbrev pub refusal_bytes : ℕ → ℕ → Option (List ℕ) → Option (List ℕ)
refusal_bytes number row = option_map (λ table. codes "refused " ++ (decimal number ++ (codes " at " ++ (decimal row ++ (codes " in " ++ table)))))
