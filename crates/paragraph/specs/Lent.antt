-- docs/RULES.md, "The paragraph"
-- What lent tables hold, and owned ones
use Rattle.std.specs.Prelude.{vec_items}
use Rattle.paragraph.specs.declared.tables.Tables.{Tables}
use Rattle.paragraph.specs.declared.tables.OwnedTables.{OwnedTables}
use Rattle.paragraph.specs.Text.{Text, text}

-- the text of lent tables: what they hold, and the direction
abbrev pub lent : Tables → Text
lent b = text b.glyphs.now b.words.now b.spans.now b.direction

-- the text of owned tables
abbrev pub text_in : OwnedTables → Text
text_in b = text (vec_items b.glyphs) (vec_items b.words) (vec_items b.spans) b.direction
