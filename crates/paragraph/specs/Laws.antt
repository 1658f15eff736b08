-- How reading order, ranks and positions fit together
use Rattle.std.specs.Prelude.{◌≡◌, ℕ, ◌+◌, ◌-◌, ◌<◌, ◌≤◌, true, length, drop, slice_index}
use Rattle.std.specs.List.{range_with_len}
use Rattle.std.specs.List.Sorted.{IsPermutation}
use Rattle.paragraph.specs.declared.place.Position.{Position}
use Rattle.paragraph.specs.Text.{Text, Sound, span_at}
use Rattle.paragraph.specs.Reading.{exists, begin, ahead_in, reading, ahead}
use Rattle.paragraph.specs.Parts.{PartsJoin}
use Rattle.paragraph.specs.Ranks.{start_of, glyph_rank}
use Rattle.paragraph.specs.Before.{position_before, JustBefore}

-- the span s holds the glyph i
pub record HoldsGlyph (t : Text) (i s : ℕ) : Type 0 where
  pub is_span : s < length t.spans
  pub low : start_of t s ≤ i
  pub high : i < start_of t (s + 1)

-- what is ahead of a position is exactly what ranks from it on
abbrev pub RanksOn : Text → Position → ℕ → Type 0
RanksOn t p count = ahead t p ≡ drop (length (reading t) - count) (reading t)

pub record ReadingLaws (t : Text) : Type 0 where
  -- reading order has each glyph of the table once
  pub each_once : IsPermutation (range_with_len 0 (length t.glyphs)) (reading t)
  pub as_many : length (reading t) ≡ length t.glyphs
  -- each glyph is one of a span, and stands at its rank
  pub in_a_span : (i : ℕ) → i < length t.glyphs → (s : ℕ) × HoldsGlyph t i s
  pub ranked : (i s : ℕ) → HoldsGlyph t i s → slice_index (reading t) (glyph_rank t s i) ≡ i
  -- an entry begins where all is ahead
  pub begins : exists t (begin t) ≡ true
  pub all_ahead : ahead t (begin t) ≡ reading t
  -- what is ahead of a position that exists ranks from it on
  pub ranks_on : (p : Position) → exists t p ≡ true → RanksOn t p (length (ahead t p))
  -- in each span, word by word, the parts that are ahead are the glyphs that are
  pub parts : (p : Position) → exists t p ≡ true → (s : ℕ) → PartsJoin t (span_at t s) (ahead_in t.direction p s (span_at t s))
  -- each rank has a position just before it
  pub before : (r : ℕ) → JustBefore t r (position_before t r)

-- in every sound text
abbrev pub ReadingFits : Type 0
ReadingFits = (t : Text) → Sound t → ReadingLaws t
