-- docs/RULES.md, "The paragraph"
-- A position that exists, and the text in which it does
use Rattle.paragraph.specs.declared.ahead.Ahead.{Ahead}
use Rattle.paragraph.specs.Lent.{lent}
use Rattle.paragraph.specs.Text.{Text}

abbrev pub text_at : Ahead → Text
text_at a = lent a.tables.rows
