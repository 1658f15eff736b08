-- docs/RULES.md, "Visual order"
-- The names of tables as they are printed
use Rattle.std.specs.Prelude.{ℕ, List, codes}
use Rattle.visual_order.specs.declared.fault.OrderTable.{OrderTable}
use Rattle.visual_order.specs.declared.fault.OrderTable.TheVariants.{Elements, Order}

abbrev pub table_name : OrderTable → List ℕ
table_name Elements = codes "elements"
table_name Order = codes "order"
