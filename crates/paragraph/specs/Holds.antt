-- docs/RULES.md, "The paragraph"
-- What a paragraph holds
use Rattle.std.specs.Prelude.{List, vec_items}
use Rattle.glyph.specs.declared.glyph.Glyph.{Glyph}
use Rattle.paragraph.specs.declared.paragraph.Paragraph.{Paragraph}
use Rattle.paragraph.specs.Lent.{text_in}
use Rattle.paragraph.specs.Text.{Text}

-- the text of a paragraph: its tables and its direction
abbrev pub text_of : Paragraph → Text
text_of p = text_in p.tables

-- the glyphs of a paragraph's ellipsis
abbrev pub ellipsis_of : Paragraph → List Glyph
ellipsis_of p = vec_items p.tables.ellipsis
