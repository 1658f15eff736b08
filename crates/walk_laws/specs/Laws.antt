-- What a walk means
use Rattle.std.specs.Prelude.{◌≡◌, ℕ, ◌+◌, ◌-◌, ◌<◌, ◌≤◌, true, false, ◌⊎◌, List, [], ◌∷◌, ◌++◌, length, Some, None, Option, nat_lt}
use Rattle.glyph.specs.declared.glyph.Glyph.{Glyph}
use Rattle.measure.specs.Rows.{row_width}
use Rattle.measure.specs.declared.measure.Measure.{Ghosts}
use Rattle.paragraph.specs.Reading.{ahead, exists, glyphs_of_word, place_in}
use Rattle.paragraph.specs.Text.{Text, Sound, span_at}
use Rattle.paragraph.specs.declared.place.Place.{Place}
use Rattle.paragraph.specs.declared.place.Position.{Position}
use Rattle.paragraph.specs.declared.span.Span.{Span}
use Rattle.walk.specs.Walk.{Lay, lay}
use Rattle.walk.specs.declared.line.LayoutDirection.{LayoutDirection}
use Rattle.walk.specs.declared.line.LayoutDirection.TheVariants.{Forward, Backward}
use Rattle.walk.specs.declared.line.Rule.{Rule}
use Rattle.walk.specs.declared.line.Rule.TheVariants.{Closing, Taking}
use Rattle.walk.specs.declared.line.VlRange.{VlRange}
use Rattle.walk_laws.specs.Shown.{adds_up, shown}

-- a place stands before another in its span
abbrev pub PlaceBefore : Place → Place → Type 0
PlaceBefore a b = (a.word < b.word) ⊎ ((a.word ≡ b.word) × (a.glyph < b.glyph))

-- a range of the span s: its level is the span's, its two places exist, and the first stands before the second
pub record RangeOf (t : Text) (s : ℕ) (r : VlRange) : Type 0 where
  pub span_is : r.span ≡ Some s
  pub level_is : r.level ≡ (span_at t s).level
  pub start_in : place_in t (span_at t s) r.start ≡ true
  pub end_in : place_in t (span_at t s) r.end ≡ true
  pub start_first : PlaceBefore r.start r.end

-- ranges of spans, one at most for each span from `low` up to `high`, in the order of the spans
abbrev pub SpanBySpan : Text → ℕ → ℕ → List VlRange → Type 0
SpanBySpan t low high [] = Unit {0}
SpanBySpan t low high (r ∷ rs) = (s : ℕ) × (low ≤ s) × (s < high) × RangeOf t s r × SpanBySpan t (s + 1) high rs

-- what a walk meets first and what it meets then, in reading order
abbrev pub met : LayoutDirection → List ℕ → List ℕ → List ℕ
met Forward first then = first ++ then
met Backward first then = then ++ first

-- what is ahead is what a walk shows, range by range in reading order, with what it leaves behind it if it goes forward, before it if it goes backward
abbrev pub Parted : LayoutDirection → List ℕ → List ℕ → List ℕ → Type 0
Parted way all shows leaves = all ≡ met way shows leaves

-- On any measure and by any rule: a walk shows one end of what is ahead, tells how many glyphs that is, leaves nothing unless it is flagged, and gives
-- one range at most for each span from the position's on
pub record WalkLaw {W : Type 0} (t : Text) (p : Position) (way : LayoutDirection) (l : Lay W) : Type 0 where
  pub leaves : List ℕ
  pub parted : Parted way (ahead t p) (shown t l.ranges) leaves
  pub counted : l.laid ≡ length (shown t l.ranges)
  pub all_shown : l.flagged ≡ false → leaves ≡ []
  pub ranges_in : SpanBySpan t p.span (length t.spans) l.ranges

-- a place between two words of a span, or at one of its edges
abbrev pub BetweenWords : Text → Span → Place → Type 0
BetweenWords t sp c = (c.glyph ≡ 0) ⊎ (c.glyph ≡ glyphs_of_word t sp c.word)

-- an end of a range cuts no word, or is the position itself
abbrev pub Uncut : Text → Position → Option ℕ → Place → Type 0
Uncut t p None c = Unit {0}
Uncut t p (Some s) c = BetweenWords t (span_at t s) c ⊎ ((s ≡ p.span) × (c ≡ p.place))

-- ranges of whole words, but for what stands before the position in its own word
abbrev pub WholeWords : Text → Position → List VlRange → Type 0
WholeWords t p [] = Unit {0}
WholeWords t p (r ∷ rs) = (Uncut t p r.span r.start × Uncut t p r.span r.end) × WholeWords t p rs

-- On an exact measure, a walk by any rule is as wide as its glyphs add up to
abbrev pub WidthLaw : {W : Type 0} → (W → ℕ) → (Glyph → ℕ) → Text → Lay W → Type 0
WidthLaw number glyph t l = number l.width ≡ adds_up glyph t (shown t l.ranges)

-- On an exact measure, a closing walk is flagged exactly if what is ahead adds up to more than the width, and hides something then. It never passes the
-- width, and one that shows a part of the word that overflowed leaves room for the ellipsis
pub record ClosingLaw {W : Type 0} (number : W → ℕ) (glyph : Glyph → ℕ) (t : Text) (p : Position) (width ellipsis : W) (l : Lay W) : Type 0 where
  pub flagged_when : l.flagged ≡ nat_lt (number width) (adds_up glyph t (ahead t p))
  pub width_is : WidthLaw number glyph t l
  pub width_most : number l.width ≤ number width
  pub cut : l.flagged ≡ true → l.laid < length (ahead t p)
  pub room : l.flagged ≡ true → (number l.width ≤ number width - number ellipsis) ⊎ WholeWords t p l.ranges

-- On any measure, a walk that takes a line shows a glyph if one is ahead
abbrev pub SomeTaken : {W : Type 0} → Text → Position → Lay W → Type 0
SomeTaken t p l = 0 < length (ahead t p) → 0 < l.laid

-- On an exact measure, a walk that takes a line is flagged exactly if what is ahead adds up to more than the width, and passes the width only by a single
-- glyph
pub record TakingLaw {W : Type 0} (number : W → ℕ) (glyph : Glyph → ℕ) (t : Text) (p : Position) (width : W) (l : Lay W) : Type 0 where
  pub flagged_when : l.flagged ≡ nat_lt (number width) (adds_up glyph t (ahead t p))
  pub width_is : WidthLaw number glyph t l
  pub width_most : (number l.width ≤ number width) ⊎ (l.laid ≡ 1)

module _ {S W : Type 0} (k : Ghosts S W) (m : S) where
  -- The laws of all walks on a measure, over sound tables and from a position that exists, in either direction
  abbrev pub EveryWalk : Type 0
  EveryWalk = (t : Text) (p : Position) (rule : Rule W) (way : LayoutDirection) → Sound t → exists t p ≡ true → WalkLaw t p way (lay k m t p rule way)

  abbrev pub EveryTake : Type 0
  EveryTake = (t : Text) (p : Position) (width : W) (way : LayoutDirection) → Sound t → exists t p ≡ true → SomeTaken t p (lay k m t p (Taking width) way)

  -- Those on an exact measure. 2097136 is what 16 of its widest glyphs add up to, so an ellipsis of up to 16 glyphs is one of these
  module _ (number : W → ℕ) (glyph : Glyph → ℕ) where
    abbrev pub EveryEllipsis : Type 0
    EveryEllipsis = (row : List Glyph) → length row ≤ 16 → number (row_width k m row) ≤ 2097136

    abbrev pub EveryWidth : Type 0
    EveryWidth = (t : Text) (p : Position) (rule : Rule W) (way : LayoutDirection) → Sound t → exists t p ≡ true → WidthLaw number glyph t (lay k m t p rule way)

    abbrev pub EveryClosing : Type 0
    EveryClosing =
        (t : Text) (p : Position) (width ellipsis : W) (way : LayoutDirection) → Sound t → exists t p ≡ true → number ellipsis ≤ 2097136 →
        ClosingLaw number glyph t p width ellipsis (lay k m t p (Closing width ellipsis) way)

    abbrev pub EveryTaking : Type 0
    EveryTaking = (t : Text) (p : Position) (width : W) (way : LayoutDirection) → Sound t → exists t p ≡ true → TakingLaw number glyph t p width (lay k m t p (Taking width) way)
