-- The words of a stretch, and what is still to walk as an interval
use Rattle.std.specs.Prelude.{ℕ, ◌+◌, ◌-◌, Bool, true, false, cond, not, List, take, drop, ◌==◌, nat_lt}
use Rattle.glyph.specs.declared.glyph.Glyph.{Glyph}
use Rattle.paragraph.specs.Text.{congruent}
use Rattle.paragraph.specs.declared.direction.Direction.{Direction}
use Rattle.paragraph.specs.declared.place.Stretch.{Stretch}
use Rattle.paragraph.specs.declared.span.Span.{Span}
use Rattle.paragraph.specs.declared.word.Word.{Word}
use Rattle.walk.specs.declared.line.LayoutDirection.{LayoutDirection}
use Rattle.walk.specs.declared.line.LayoutDirection.TheVariants.{Forward, Backward}

-- how many words have a part in a stretch, from the word of its first place on. The last place's own word counts only if a glyph of it precedes the place
abbrev pub words_in : Stretch → ℕ
words_in a = cond (nat_lt 0 a.end.glyph) (a.end.word + 1) a.end.word - a.start.word

-- the part of the word w, of len glyphs, that is in a stretch: its first glyph, and the one after its last
abbrev pub low : Stretch → ℕ → ℕ
low a w = cond (w == a.start.word) a.start.glyph 0

abbrev pub high : Stretch → ℕ → ℕ → ℕ
high a w len = cond (w == a.end.word) a.end.glyph len

-- how many glyphs that part has
abbrev pub part_size : Stretch → ℕ → Word → ℕ
part_size a w word = high a w word.len - low a w

-- the glyphs of a table from one index to another
abbrev pub glyphs_between : List Glyph → ℕ → ℕ → List Glyph
glyphs_between gs from to = take (to - from) (drop from gs)

-- a word's glyphs
abbrev pub row_of : List Glyph → Word → List Glyph
row_of gs word = glyphs_between gs word.offset (word.offset + word.len)

abbrev pub forward : LayoutDirection → Bool
forward Forward = true
forward Backward = false

-- A walk goes up the table of a congruent span when it goes forward, and of an incongruent one when it goes backward
abbrev pub goes_up : Direction → Span → LayoutDirection → Bool
goes_up d sp way = cond (congruent d sp.level) (forward way) (not (forward way))

-- Of the places at, .., at + n still to walk, a walk that goes up takes the first, another the last
abbrev pub next : Bool → ℕ → ℕ → ℕ
next up at n = cond up at (at + n)

-- and where the n places begin that are left then
abbrev pub later : Bool → ℕ → ℕ
later up at = cond up (at + 1) at
