-- docs/RULES.md, "The paragraph"
-- A paragraph's tables, one on another
use Rattle.std.specs.Prelude.{◌≡◌, ℕ, ◌+◌, ◌%◌, ◌≤◌, Bool, false, List, length, ◌==◌, slice_index_or}
use Rattle.glyph.specs.declared.glyph.Glyph.{Glyph}
use Rattle.paragraph.specs.declared.direction.Direction.{Direction}
use Rattle.paragraph.specs.declared.direction.Direction.TheVariants.{LeftToRight, RightToLeft}
use Rattle.paragraph.specs.declared.span.Span.{Span}
use Rattle.paragraph.specs.declared.word.Word.{Word}

-- the table of glyphs, the words that it is cut into, the spans that these are grouped into, and the paragraph's direction
pub record Text : Type 0 where
  pub glyphs : List Glyph
  pub words : List Word
  pub spans : List Span
  pub direction : Direction

-- these tables with this direction
abbrev pub text : List Glyph → List Word → List Span → Direction → Text
text gs ws ss d = record { glyphs = gs; words = ws; spans = ss; direction = d }

-- The row i of a table. The row after the last is empty and begins where the table below ends, so that each row ends where the next begins
abbrev pub word_at : Text → ℕ → Word
word_at t i = slice_index_or t.words i (record { blank = false; offset = length t.glyphs; len = 0 })

-- the row i of the table of spans, with the same row after the last
abbrev pub span_at : Text → ℕ → Span
span_at t i = slice_index_or t.spans i (record { level = 0; offset = length t.words; len = 0 })

-- a level has the paragraph's direction: an even one is left-to-right, an odd one right-to-left
abbrev pub congruent : Direction → ℕ → Bool
congruent LeftToRight level = level % 2 == 0
congruent RightToLeft level = level % 2 == 1

-- Each table runs without gap or overlap from the start to the end of the table below it, and none is too long
pub record Sound (t : Text) : Type 0 where
  pub few_glyphs : length t.glyphs ≤ 16384
  pub few_words : length t.words ≤ 4096
  pub few_spans : length t.spans ≤ 256
  pub words_first : (word_at t 0).offset ≡ 0
  pub words_next : (i : ℕ) → (word_at t (i + 1)).offset ≡ (word_at t i).offset + (word_at t i).len
  pub spans_first : (span_at t 0).offset ≡ 0
  pub spans_next : (i : ℕ) → (span_at t (i + 1)).offset ≡ (span_at t i).offset + (span_at t i).len
  pub levels : (i : ℕ) → (span_at t i).level ≤ 126
