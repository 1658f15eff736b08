-- The glyphs that ranges show
use Rattle.std.specs.Prelude.{ℕ, List, [], ◌∷◌, ◌++◌, map, Some, None, sum_by, Option, slice_index}
use Rattle.glyph.specs.declared.glyph.Glyph.{Glyph}
use Rattle.paragraph.specs.Reading.{between, held}
use Rattle.paragraph.specs.Text.{Text, span_at}
use Rattle.paragraph.specs.declared.place.Place.{Place}
use Rattle.walk.specs.declared.line.VlRange.{VlRange}

-- the glyphs between two places of a span, in reading order; none where no span is named, as by the ellipsis
abbrev pub glyphs_in : Text → Option ℕ → Place → Place → List ℕ
glyphs_in t None start end = []
glyphs_in t (Some s) start end = held t (span_at t s) (between start end)

-- the glyphs that a range shows, by their indices in the table, in reading order
abbrev pub shown_by : Text → VlRange → List ℕ
shown_by t r = glyphs_in t r.span r.start r.end

-- the glyphs of a line, range by range
abbrev pub shown : Text → List VlRange → List ℕ
shown t [] = []
shown t (r ∷ rs) = shown_by t r ++ shown t rs

-- what glyphs add up to, where `glyph` tells each one's number
abbrev pub adds_up : (Glyph → ℕ) → Text → List ℕ → ℕ
adds_up glyph t is = sum_by (λ i. slice_index (map glyph t.glyphs) i) is
