-- docs/RULES.md, "The paragraph"
-- Positions, and reading order
use Rattle.std.specs.Prelude.{ℕ, zero, suc, ◌+◌, ◌-◌, Bool, cond, ◌&&◌, List, [], ◌++◌, reverse, length, ◌==◌, nat_le, nat_lt}
use Rattle.std.specs.List.{range_with_len}
use Rattle.paragraph.specs.declared.place.Place.{Place}
use Rattle.paragraph.specs.declared.place.Position.{Position}
use Rattle.paragraph.specs.declared.place.Stretch.{Stretch}
use Rattle.paragraph.specs.declared.span.Span.{Span}
use Rattle.paragraph.specs.declared.direction.Direction.{Direction}
use Rattle.paragraph.specs.Text.{Text, word_at, span_at, congruent}

-- the place before the word w of a span
abbrev pub edge : ℕ → Place
edge w = record { word = w; glyph = 0 }

-- what stands between two places of a span, in table order
abbrev pub between : Place → Place → Stretch
between a b = record { start = a; end = b }

-- all of a span
abbrev pub whole : Span → Stretch
whole sp = between (edge 0) (edge sp.len)

-- how many glyphs the word w of a span has, none where no word stands
abbrev pub glyphs_of_word : Text → Span → ℕ → ℕ
glyphs_of_word t sp w = cond (nat_lt w sp.len) (word_at t (sp.offset + w)).len 0

-- a place exists in a span: its word is at most the word count, its glyph at most that word's glyph count, or 0 where no word stands
abbrev pub place_in : Text → Span → Place → Bool
place_in t sp a = nat_le a.word sp.len && nat_le a.glyph (glyphs_of_word t sp a.word)

-- A position exists: its span does, and its place in that. Without spans (0, 0, 0) is the one position there is
abbrev pub exists : Text → Position → Bool
exists t p =
    cond (nat_lt 0 (length t.spans))
    (nat_lt p.span (length t.spans) && place_in t (span_at t p.span) p.place)
    (p.span == 0 && (p.place.word == 0 && p.place.glyph == 0))

-- a span's opening edge, where reading comes into it
abbrev pub opening : Direction → Span → Place
opening d sp = cond (congruent d sp.level) (edge 0) (edge sp.len)

-- a span's closing edge, where reading leaves it: the other of the two
abbrev pub closing : Direction → Span → Place
closing d sp = cond (congruent d sp.level) (edge sp.len) (edge 0)

-- where an entry begins: at the opening edge of the first span, and at (0, 0, 0) where there is none
abbrev pub begin : Text → Position
begin t = record { span = 0; place = opening t.direction (span_at t 0) }

-- What is ahead of a position in the span s, its own or a later one: of a later span all, of its own what follows it if congruent, what precedes it if not
abbrev pub ahead_in : Direction → Position → ℕ → Span → Stretch
ahead_in d p s sp =
    cond (s == p.span)
    (cond (congruent d sp.level) (between p.place (edge sp.len)) (between (edge 0) p.place))
    (whole sp)

-- a place as a boundary in the table of glyphs: how many glyphs of the table stand before it
abbrev pub boundary : Text → Span → Place → ℕ
boundary t sp a = (word_at t (sp.offset + a.word)).offset + a.glyph

-- glyphs of a span in reading order: up the table if the span is congruent, else down it
abbrev pub in_reading : Direction → Span → List ℕ → List ℕ
in_reading d sp is = cond (congruent d sp.level) is (reverse is)

-- the glyphs between two places of a span, by their indices in the table, in reading order
abbrev pub held : Text → Span → Stretch → List ℕ
held t sp a =
    let from = boundary t sp a.start in
    in_reading t.direction sp (range_with_len from (boundary t sp a.end - from))

-- reading order: the spans in turn, here the n spans from s on
abbrev pub reading_from : Text → ℕ → ℕ → List ℕ
reading_from t s zero = []
reading_from t s (suc n) = held t (span_at t s) (whole (span_at t s)) ++ reading_from t (s + 1) n

-- reading order: the glyphs of all spans in turn
abbrev pub reading : Text → List ℕ
reading t = reading_from t 0 (length t.spans)

-- the glyphs ahead of a position, in reading order, in the n spans from s on
abbrev pub ahead_from : Text → Position → ℕ → ℕ → List ℕ
ahead_from t p s zero = []
ahead_from t p s (suc n) = held t (span_at t s) (ahead_in t.direction p s (span_at t s)) ++ ahead_from t p (s + 1) n

-- the glyphs ahead of a position: in its own span and in all later ones
abbrev pub ahead : Text → Position → List ℕ
ahead t p = ahead_from t p p.span (length t.spans - p.span)
