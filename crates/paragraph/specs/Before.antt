-- docs/RULES.md, "The paragraph"
-- The position just before a glyph of reading order
use Rattle.std.specs.Prelude.{◌≡◌, ℕ, zero, suc, ◌+◌, ◌-◌, true, false, cond, length, drop, ◌==◌, nat_lt}
use Rattle.paragraph.specs.declared.place.Place.{Place}
use Rattle.paragraph.specs.declared.place.Position.{Position}
use Rattle.paragraph.specs.declared.span.Span.{Span}
use Rattle.paragraph.specs.Text.{Text, word_at, span_at}
use Rattle.paragraph.specs.Reading.{edge, closing, exists, reading, ahead}
use Rattle.paragraph.specs.Ranks.{start_of, is_congruent, glyph_rank}

-- of n rows from the row i on, each of which ends where the next begins, the first that ends beyond a place
abbrev pub around : (ℕ → ℕ) → ℕ → ℕ → ℕ → ℕ
around begins at i zero = i
around begins at i (suc n) = elim (nat_lt at (begins (i + 1))) [ true ↦ i | false ↦ around begins at (i + 1) n ]

-- where the word w of a span begins in the table of glyphs
abbrev pub word_begins : Text → Span → ℕ → ℕ
word_begins t sp w = (word_at t (sp.offset + w)).offset

-- behind the glyph g of the word w, which has n: before the next glyph of the word, or before the next word where it is the last
abbrev pub behind : ℕ → ℕ → ℕ → Place
behind w g n = cond (g + 1 == n) (edge (w + 1)) (record { word = w; glyph = g + 1 })

-- just before the glyph i of the span s: at it if the span is congruent, and else behind it
abbrev pub before_glyph : Text → ℕ → ℕ → Position
before_glyph t s i =
    let sp = span_at t s in
    let w = around (word_begins t sp) i 0 sp.len in
    let g = i - word_begins t sp w in
    record {
      span = s;
      place = cond (is_congruent t s) (record { word = w; glyph = g }) (behind w g (word_at t (sp.offset + w)).len);
    }

-- with nothing ahead: at the closing edge of the last span, and at (0, 0, 0) without spans
abbrev pub at_end : Text → Position
at_end t =
    let s = length t.spans - 1 in
    record { span = s; place = closing t.direction (span_at t s) }

-- Just before the glyph with the rank r in reading order, or at the end where there is none.
-- The glyph's span holds the place r of the table, and the glyph with the rank r is the one of which r is the index, or the mirror image
abbrev pub position_before : Text → ℕ → Position
position_before t r =
    let s = around (start_of t) r 0 (length t.spans) in
    cond (nat_lt r (length t.glyphs)) (before_glyph t s (glyph_rank t s r)) (at_end t)

-- it exists, and has ahead exactly what ranks from r on
pub record JustBefore (t : Text) (r : ℕ) (p : Position) : Type 0 where
  pub there : exists t p ≡ true
  pub rest : ahead t p ≡ drop r (reading t)
