-- docs/RULES.md, "Level resets (rule L1)"
-- The number of a refusal's cause.
use Rattle.std.specs.Prelude.{ℕ}
use Rattle.levels.specs.declared.fault.ClassCause.{ClassCause}
use Rattle.levels.specs.declared.fault.ClassCause.TheVariants.{Unfit}

-- a table that does not fit the others is refused by number 11
abbrev pub number_of : ClassCause → ℕ
number_of Unfit = 11
