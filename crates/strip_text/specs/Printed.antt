-- What is written for each answer, byte by byte
use Rattle.std.specs.Prelude.{ℕ, List, [], ◌∷◌, ◌++◌, length, Some, None, codes, decimal, Option}
use Rattle.entry.specs.declared.progress.Tally.{Tally}
use Rattle.layout.specs.Elided.{range_glyphs}
use Rattle.layout.specs.declared.line.ElidedBytes.{ElidedBytes}
use Rattle.paragraph.specs.Text.{Text}
use Rattle.paragraph.specs.declared.place.Place.{Place}
use Rattle.std.specs.List.{flat_map}
use Rattle.walk.specs.declared.line.VlRange.{VlRange}

-- tables that are granted, as "opened 7 2 1"
abbrev pub opened_row : ℕ → ℕ → ℕ → List ℕ
opened_row glyphs words spans = codes "opened " ++ (decimal glyphs ++ (codes " " ++ (decimal words ++ (codes " " ++ (decimal spans ++ (10 ∷ []))))))

-- a tally, as "tally lines 2 laid 6 hidden 0 left 1"
abbrev pub tally_row : Tally → List ℕ
tally_row t =
    codes "tally lines " ++ (decimal t.lines ++ (codes " laid " ++ (decimal t.laid ++ (codes " hidden " ++ (decimal t.hidden ++ (codes " left " ++ (decimal t.left ++ (10 ∷ []))))))))

-- the first row of a line, as "line 1: ranges 2, blanks 0, width 6"
abbrev pub line_row : ℕ → ℕ → ℕ → List ℕ → List ℕ
line_row number ranges blanks width =
    codes "line " ++ (decimal number ++ (codes ": ranges " ++ (decimal ranges ++ (codes ", blanks " ++ (decimal blanks ++ (codes ", width " ++ (width ++ (10 ∷ []))))))))

-- a place, as "(0,2)"
abbrev pub place_text : Place → List ℕ
place_text p = codes "(" ++ (decimal p.word ++ (codes "," ++ (decimal p.glyph ++ codes ")")))

-- a range of a span with its two places and how many glyphs it has, as "range 0 (0,0)-(1,1) level 0 glyphs 5"
abbrev pub span_row : ℕ → VlRange → ℕ → List ℕ
span_row span r glyphs =
    codes "range " ++ (decimal span ++ (codes " " ++ (place_text r.start ++ (codes "-" ++ (place_text r.end ++ (codes " level " ++ (decimal r.level ++ (codes " glyphs " ++ (decimal glyphs ++ (10 ∷ []))))))))))

-- the ellipsis, as "range ellipsis level 0"
abbrev pub ellipsis_row : ℕ → List ℕ
ellipsis_row level = codes "range ellipsis level " ++ (decimal level ++ (10 ∷ []))

abbrev pub row_by_span : Option ℕ → VlRange → ℕ → List ℕ
row_by_span None r glyphs = ellipsis_row r.level
row_by_span (Some span) r glyphs = span_row span r glyphs

abbrev pub range_row : Text → VlRange → List ℕ
range_row t r = row_by_span r.span r (length (range_glyphs t r))

-- the bytes that the ellipsis stands for, as "elided 5 to 7", where it stands
abbrev pub elided_row : Option ElidedBytes → List ℕ
elided_row None = []
elided_row (Some bytes) = codes "elided " ++ (decimal bytes.start ++ (codes " to " ++ (decimal bytes.end ++ (10 ∷ []))))

-- a visual order, as "order 1 0"
abbrev pub spaced : ℕ → List ℕ
spaced n = 32 ∷ decimal n

abbrev pub order_row : List ℕ → List ℕ
order_row order = codes "order" ++ (flat_map spaced order ++ (10 ∷ []))
