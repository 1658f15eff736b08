-- The widths of words and of what is still to walk, and the overflow rules
use Rattle.std.specs.Prelude.{ℕ, zero, suc, ◌+◌, Bool, false, ◌&&◌, ◌||◌, nat_lt}
use Rattle.measure.specs.Rows.{row_width}
use Rattle.measure.specs.declared.measure.Measure.{Ghosts}
use Rattle.paragraph.specs.Reading.{ahead_in}
use Rattle.paragraph.specs.Text.{Text, word_at, span_at}
use Rattle.paragraph.specs.declared.place.Position.{Position}
use Rattle.paragraph.specs.declared.place.Stretch.{Stretch}
use Rattle.paragraph.specs.declared.span.Span.{Span}
use Rattle.walk.specs.Parts.{words_in, low, high, glyphs_between}
use Rattle.walk.specs.declared.line.Rule.{Rule}
use Rattle.walk.specs.declared.line.Rule.TheVariants.{Never, Closing, Taking}

-- what is ahead of a position in the span s
abbrev pub ahead_of : Text → Position → ℕ → Stretch
ahead_of t p s = ahead_in t.direction p s (span_at t s)

module _ {S W : Type 0} (k : Ghosts S W) (m : S) where
  -- A word's width is nil plus the glyphs of its part ahead, in table order. `w` is the word's index in its span
  abbrev pub part_width : Text → Span → Stretch → ℕ → W
  part_width t sp a w =
      let word = word_at t (sp.offset + w) in
      row_width k m (glyphs_between t.glyphs (word.offset + low a w) (word.offset + high a w word.len))

  -- x plus the n words of a span from `at` on, in table order
  abbrev pub words_width : Text → Span → Stretch → W → ℕ → ℕ → W
  words_width t sp a x at zero = x
  words_width t sp a x at (suc n) = words_width t sp a (k.sum_of m x (part_width t sp a at)) (at + 1) n

  -- x plus what is ahead of the position in the n spans from s on, in table order
  abbrev pub spans_width : Text → Position → W → ℕ → ℕ → W
  spans_width t p x s zero = x
  spans_width t p x s (suc n) =
      spans_width t p (words_width t (span_at t s) (ahead_of t p s) x (ahead_of t p s).start.word (words_in (ahead_of t p s))) (s + 1) n

  -- The words still to walk, added from nil: those of this span first, the n from `at` on, then the `count` spans from `first` on
  abbrev pub rest_width : Text → Position → Span → Stretch → ℕ → ℕ → ℕ → ℕ → W
  rest_width t p sp a at n first count = spans_width t p (words_width t sp a (k.nil_of m) at n) first count

  -- A word of width x with n glyphs ahead overflows, where `before` is T + R, the width of finished spans and of this span's walked words, and `rest`
  -- the words still to walk. By the closing rule it does if before + x is over the width, or if the rest is over the ellipsis and (before + x) +
  -- ellipsis is over the width; by the taking rule if it has a glyph ahead and before + x is over the width
  abbrev pub overflow : Rule W → W → W → W → ℕ → Bool
  overflow Never before x rest n = false
  overflow (Closing width ellipsis) before x rest n =
      k.over_of m (k.sum_of m before x) width
      || (k.over_of m rest ellipsis && k.over_of m (k.sum_of m (k.sum_of m before x) ellipsis) width)
  overflow (Taking width) before x rest n = nat_lt 0 n && k.over_of m (k.sum_of m before x) width
