-- docs/RULES.md, "The paragraph"
-- What the check of tables answers
use Rattle.std.specs.Prelude.{ℕ, cond, List, length, Some, None, Ok, Err, Option, Result, ◌==◌, nat_le}
use Rattle.glyph.specs.declared.glyph.Glyph.{Glyph}
use Rattle.glyph.specs.Ranges.{glyph_in}
use Rattle.paragraph.specs.declared.fault.TableCause.{TableCause}
use Rattle.paragraph.specs.declared.fault.TableCause.TheVariants as cause
use Rattle.paragraph.specs.declared.fault.TableName.{TableName}
use Rattle.paragraph.specs.declared.fault.TableName.TheVariants as table
use Rattle.paragraph.specs.Faults.{fault, TableFault}
use Rattle.paragraph.specs.Pieces.{word_piece, span_piece, first_loose, first_failing}
use Rattle.paragraph.specs.Text.{Text}

infixr 20 ◌then◌
-- one check after another: the first refusal counts
abbrev pub ◌then◌ : Result (Unit {0}) TableFault → Result (Unit {0}) TableFault → Result (Unit {0}) TableFault
Ok u then later = later
Err f then later = Err f

-- a table of n rows has the limit at most, and is else at fault at the row of the limit
abbrev pub limited : TableName → ℕ → ℕ → Result (Unit {0}) TableFault
limited name limit n = cond (nat_le n limit) (Ok tt) (Err (fault cause.TooManyRows limit name))

-- a table is at fault at a row, if one was found
abbrev pub refused_at : TableCause → TableName → Option ℕ → Result (Unit {0}) TableFault
refused_at why name None = Ok tt
refused_at why name (Some row) = Err (fault why row name)

-- 1: at most 16,384 glyphs, 4,096 words and 256 spans
abbrev pub rows_verdict : Text → Result (Unit {0}) TableFault
rows_verdict t =
    limited table.Glyphs 16384 (length t.glyphs)
    then limited table.Words 4096 (length t.words)
    then limited table.Spans 256 (length t.spans)

-- 2: each glyph's fields in range
abbrev pub glyphs_verdict : Text → Result (Unit {0}) TableFault
glyphs_verdict t = refused_at cause.GlyphField table.Glyphs (first_failing glyph_in 0 t.glyphs)

-- 3: the words run through the table of glyphs
abbrev pub words_verdict : Text → Result (Unit {0}) TableFault
words_verdict t = refused_at cause.WordPair table.Words (first_loose word_piece (length t.glyphs) 0 0 t.words)

-- 4: the spans run through the table of words, each with a level of 126 at most
abbrev pub spans_verdict : Text → Result (Unit {0}) TableFault
spans_verdict t = refused_at cause.SpanRow table.Spans (first_loose span_piece (length t.words) 0 0 t.spans)

-- 5: an ellipsis of 1 to 16 glyphs, each in range: how many they are comes before what they are
abbrev pub ellipsis_verdict : List Glyph → Result (Unit {0}) TableFault
ellipsis_verdict e =
    cond (length e == 0) (Err (fault cause.Ellipsis 0 table.Ellipsis))
    (cond (nat_le (length e) 16)
    (refused_at cause.Ellipsis table.Ellipsis (first_failing glyph_in 0 e))
    (Err (fault cause.Ellipsis 16 table.Ellipsis)))

-- the checks in the order of their numbers
abbrev pub verdict : Text → List Glyph → Result (Unit {0}) TableFault
verdict t e =
    rows_verdict t then glyphs_verdict t then words_verdict t then spans_verdict t then ellipsis_verdict e
