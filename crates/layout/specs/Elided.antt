-- The bytes that an ellipsis stands for
use Rattle.std.specs.Prelude.{ℕ, min, max, List, [], ◌∷◌, reverse, Some, None, fold, Option}
use Rattle.glyph.specs.declared.glyph.Glyph.{Glyph}
use Rattle.layout.specs.declared.line.ElidedBytes.{ElidedBytes}
use Rattle.paragraph.specs.Reading.{boundary}
use Rattle.paragraph.specs.Text.{Text, span_at}
use Rattle.paragraph.specs.declared.place.Place.{Place}
use Rattle.walk.specs.Parts.{glyphs_between}
use Rattle.walk.specs.declared.line.VlRange.{VlRange}

-- the glyphs between two places of a span, in table order; none where no span is named
abbrev pub stretch_glyphs : Text → Option ℕ → Place → Place → List Glyph
stretch_glyphs t None start end = []
stretch_glyphs t (Some s) start end = glyphs_between t.glyphs (boundary t (span_at t s) start) (boundary t (span_at t s) end)

abbrev pub range_glyphs : Text → VlRange → List Glyph
range_glyphs t r = stretch_glyphs t r.span r.start r.end

-- the largest end byte, 0 where there is no glyph
abbrev pub largest_end : List Glyph → ℕ
largest_end gs = fold (λ n g. max n g.end) 0 gs

-- the smallest start byte. A start is at most 65535, so that is none's
abbrev pub smallest_start : List Glyph → ℕ
smallest_start gs = fold (λ n g. min n g.start) 65535 gs

-- what a row of glyphs answers, if it has any
abbrev pub if_any : (List Glyph → ℕ) → List Glyph → Option ℕ
if_any answer [] = None
if_any answer (g ∷ gs) = Some (answer (g ∷ gs))

-- a row of glyphs, or another where it is empty
abbrev pub or_later : List Glyph → List Glyph → List Glyph
or_later [] later = later
or_later (g ∷ gs) later = g ∷ gs

-- the glyphs of the first range that holds one
abbrev pub nearest : Text → List VlRange → List Glyph
nearest t [] = []
nearest t (r ∷ rs) = or_later (range_glyphs t r) (nearest t rs)

-- what a row of glyphs answers, or else `none` where it is empty
abbrev pub or_else : ℕ → (List Glyph → ℕ) → List Glyph → ℕ
or_else none answer [] = none
or_else none answer (g ∷ gs) = answer (g ∷ gs)

-- The elided bytes begin at the largest end in the nearest range before the ellipsis that holds a glyph, or at `none_before`; they end at the smallest
-- start in the nearest later one, or at the paragraph's largest end
abbrev pub elided_bytes : Text → ℕ → List VlRange → List VlRange → ElidedBytes
elided_bytes t none_before front back =
    record {
      start = or_else none_before largest_end (nearest t (reverse front));
      end = or_else (largest_end t.glyphs) smallest_start (nearest t back);
    }
