-- docs/RULES.md, "Level resets (rule L1)"
-- The names of tables as they are printed
use Rattle.std.specs.Prelude.{ℕ, List, codes}
use Rattle.levels.specs.declared.fault.ClassTable.{ClassTable}
use Rattle.levels.specs.declared.fault.ClassTable.TheVariants.{Classes, Lengths, Levels, ParagraphLevel}

abbrev pub table_name : ClassTable → List ℕ
table_name Classes = codes "classes"
table_name Lengths = codes "lengths"
table_name Levels = codes "levels"
table_name ParagraphLevel = codes "paragraph level"
