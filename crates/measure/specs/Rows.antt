-- docs/RULES.md, "Measures"
-- The width of a row of glyphs
use Rattle.std.specs.Prelude.{List, fold}
use Rattle.glyph.specs.declared.glyph.Glyph.{Glyph}
use Rattle.measure.specs.declared.measure.Measure.{Ghosts}

-- nil plus the row's glyphs, one by one in table order
abbrev pub row_width : {S W : Type 0} → Ghosts S W → S → List Glyph → W
row_width k m gs = fold (λ w g. k.sum_of m w (k.width_of m g)) (k.nil_of m) gs
