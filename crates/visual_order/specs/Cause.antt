-- docs/RULES.md, "Visual order (rule L2)"
-- The number of each cause of a refusal
use Rattle.std.specs.Prelude.{ℕ}
use Rattle.visual_order.specs.declared.fault.OrderCause.{OrderCause}
use Rattle.visual_order.specs.declared.fault.OrderCause.TheVariants.{TooManyRows, ListTooShort}

-- too many rows is cause 1, a list that is too short is cause 9
abbrev pub cause_number : OrderCause → ℕ
cause_number TooManyRows = 1
cause_number ListTooShort = 9
