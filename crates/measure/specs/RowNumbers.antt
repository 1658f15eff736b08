-- docs/RULES.md, "Measures"
-- What a row of glyphs means on an exact measure
use Rattle.std.specs.Prelude.{ℕ, ◌+◌, ◌^◌, ◌<◌, ◌≤◌, List, length, sum_by}
use Rattle.glyph.specs.declared.glyph.Glyph.{Glyph}

-- a row means the sum of what its glyphs mean
abbrev pub row_number : (Glyph → ℕ) → List Glyph → ℕ
row_number glyph gs = sum_by glyph gs

-- the glyphs of a paragraph, 16384 at most, with an ellipsis of 16 at most always stay below 2^32
abbrev pub Room : (Glyph → ℕ) → Type 0
Room glyph = (gs es : List Glyph) → length gs ≤ 16384 → length es ≤ 16 → row_number glyph gs + row_number glyph es < 2 ^ 32
