-- Words that stand in the tables
use Rattle.std.specs.Prelude.{ℕ, ◌+◌, ◌<◌, ◌≤◌, length}
use Rattle.paragraph.specs.Text.{Text, word_at}
use Rattle.paragraph.specs.declared.place.Stretch.{Stretch}
use Rattle.paragraph.specs.declared.span.Span.{Span}
use Rattle.walk.specs.declared.places.Places.{Places}
use Rattle.walk.specs.Parts.{low, high, words_in}

-- Each of the n words of a span from `at` on stands in the table of words and its glyphs in the table of glyphs, and the stretch names a part of it
pub record Inside (t : Text) (sp : Span) (a : Stretch) (at n : ℕ) : Type 0 where
  pub there : sp.offset + (at + n) ≤ length t.words
  pub low_high : (w : ℕ) → at ≤ w → w < at + n → low a w ≤ high a w (word_at t (sp.offset + w)).len
  pub high_len : (w : ℕ) → at ≤ w → w < at + n → high a w (word_at t (sp.offset + w)).len ≤ (word_at t (sp.offset + w)).len
  pub within : (w : ℕ) → at ≤ w → w < at + n → (word_at t (sp.offset + w)).offset + (word_at t (sp.offset + w)).len ≤ length t.glyphs

-- the stretch has a part of the word w
abbrev pub Reaches : Stretch → ℕ → Type 0
Reaches a w = (a.start.word ≤ w) × (w < a.start.word + words_in a)

-- the stretch has a part of each of these words
abbrev pub ReachesAll : Stretch → Places → Type 0
ReachesAll a ws = (a.start.word ≤ ws.first) × (ws.first + ws.count ≤ a.start.word + words_in a)
