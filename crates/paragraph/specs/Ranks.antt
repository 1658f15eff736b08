-- docs/RULES.md, "The paragraph"
-- Ranks in reading order
use Rattle.std.specs.Prelude.{ℕ, ◌+◌, ◌-◌, Bool, cond, length, Some, None, Option}
use Rattle.paragraph.specs.declared.place.Position.{Position}
use Rattle.paragraph.specs.Text.{Text, word_at, span_at, congruent}
use Rattle.paragraph.specs.Reading.{boundary, exists, ahead}

-- Where the glyphs of the span s begin in the table. They end where those of the next begin, and these two bounds are the same in reading order
abbrev pub start_of : Text → ℕ → ℕ
start_of t s = (word_at t (span_at t s).offset).offset

-- the span s is congruent: its level has the paragraph's direction
abbrev pub is_congruent : Text → ℕ → Bool
is_congruent t s = congruent t.direction (span_at t s).level

-- the rank of the glyph i, which is one of the span s: i if the span is congruent, else its mirror image within the span
abbrev pub glyph_rank : Text → ℕ → ℕ → ℕ
glyph_rank t s i = cond (is_congruent t s) i (start_of t s + start_of t (s + 1) - 1 - i)

-- the rank of a position: how many glyphs of reading order stand before it
abbrev pub rank : Text → Position → ℕ
rank t p =
    let at = boundary t (span_at t p.span) p.place in
    cond (is_congruent t p.span) at (start_of t p.span + start_of t (p.span + 1) - at)

-- how many glyphs are ahead of a position, if it exists
abbrev pub ahead_count : Text → Position → Option ℕ
ahead_count t p = cond (exists t p) (Some (length (ahead t p))) None
