-- docs/RULES.md, "Visual order (rule L2)"
-- Who is refused, and what the caller's list holds after the call
use Rattle.std.specs.Prelude.{ℕ, cond, List, ◌++◌, length, drop, Ok, Err, Result, nat_lt}
use Rattle.visual_order.specs.VisualOrder.{visual}
use Rattle.visual_order.specs.declared.fault.OrderCause.TheVariants.{TooManyRows, ListTooShort}
use Rattle.visual_order.specs.declared.fault.OrderCause.{OrderCause}
use Rattle.visual_order.specs.declared.fault.OrderTable.{OrderTable}
use Rattle.refusals.specs.declared.fault.Fault.{Fault}
use Rattle.visual_order.specs.declared.fault.OrderTable.TheVariants.{Elements, Order}

-- Of n elements and a list of m places: more than 16,384 elements are refused first, as too many rows of the table of elements,
-- at the row 16,384; then a list with fewer places than there are elements, as too short, at the row m. All else is granted
abbrev pub verdict : ℕ → ℕ → Result (Unit {0}) (Fault OrderCause OrderTable)
verdict n m =
    cond (nat_lt 16384 n) (Err (record { cause = TooManyRows; row = 16384; table = Elements }))
    (cond (nat_lt m n) (Err (record { cause = ListTooShort; row = m; table = Order })) (Ok tt))

-- What the list holds after an answer: the visual order in its first places and what was there before in those beyond,
-- or, after a refusal, what it held before
abbrev pub after : Result (Unit {0}) (Fault OrderCause OrderTable) → List ℕ → List ℕ → List ℕ
after (Ok _) levels list = visual levels ++ drop (length levels) list
after (Err _) levels list = list
