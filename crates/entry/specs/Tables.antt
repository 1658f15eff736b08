-- The names of what a call is about, as they are printed
use Rattle.std.specs.Prelude.{ℕ, List, codes}
use Rattle.entry.specs.declared.fault.CallTable.{CallTable}
use Rattle.entry.specs.declared.fault.CallTable.TheVariants.{Entry, Paragraph, Width, Ranges, Order}

abbrev pub table_name : CallTable → List ℕ
table_name Entry = codes "entry"
table_name Paragraph = codes "paragraph"
table_name Width = codes "width"
table_name Ranges = codes "ranges"
table_name Order = codes "order"
