-- docs/RULES.md, "The paragraph"
-- The faults of tables
use Rattle.std.specs.Prelude.{ℕ, List, codes}
use Rattle.refusals.specs.declared.fault.Fault.{Fault}
use Rattle.paragraph.specs.declared.fault.TableCause.{TableCause}
use Rattle.paragraph.specs.declared.fault.TableCause.TheVariants.{TooManyRows, GlyphField, WordPair, SpanRow, Ellipsis}
use Rattle.paragraph.specs.declared.fault.TableName.{TableName}
use Rattle.paragraph.specs.declared.fault.TableName.TheVariants as table

-- the number of each refusal: a table is held against them in this order
abbrev pub number_of : TableCause → ℕ
number_of TooManyRows = 1
number_of GlyphField = 2
number_of WordPair = 3
number_of SpanRow = 4
number_of Ellipsis = 5

-- the names of tables as they are printed
abbrev pub table_name : TableName → List ℕ
table_name table.Glyphs = codes "glyphs"
table_name table.Words = codes "words"
table_name table.Spans = codes "spans"
table_name table.Ellipsis = codes "ellipsis"

abbrev pub TableFault : Type 0
TableFault = Fault TableCause TableName

-- a fault: what it is, and the row and the table in which it stands
abbrev pub fault : TableCause → ℕ → TableName → TableFault
fault c r n = record { cause = c; row = r; table = n }
