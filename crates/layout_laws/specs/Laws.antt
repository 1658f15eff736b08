-- What a closing line means, and a line that is taken
use Rattle.std.specs.Prelude.{◌≡◌, ℕ, ◌+◌, ◌^◌, ◌<◌, ◌≤◌, min, max, Bool, true, false, cond, ◌&&◌, List, [], ◌++◌, length, is_some, Some, None, count_by, Option, nat_eq, nat_lt}
use Rattle.glyph.specs.declared.glyph.Glyph.{Glyph}
use Rattle.layout.specs.Ellipsis.{last_of}
use Rattle.layout.specs.Lines.{Line, closing_line, ends_at, line_ranges}
use Rattle.layout.specs.declared.line.Ellipsize.{Ellipsize}
use Rattle.layout.specs.declared.line.Ellipsize.TheVariants as mode
use Rattle.measure.specs.declared.measure.Measure.{Ghosts}
use Rattle.paragraph.specs.Reading.{ahead, exists}
use Rattle.paragraph.specs.Text.{Sound, Text}
use Rattle.paragraph.specs.declared.place.Position.{Position}
use Rattle.walk.specs.Walk.{Lay, lay}
use Rattle.walk.specs.declared.line.LayoutDirection.TheVariants.{Forward}
use Rattle.walk.specs.declared.line.Rule.{Rule}
use Rattle.walk.specs.declared.line.Rule.TheVariants.{Taking}
use Rattle.walk.specs.declared.line.VlRange.{VlRange}
use Rattle.walk_laws.specs.Laws.{SpanBySpan}
use Rattle.walk_laws.specs.Shown.{adds_up, shown}

-- no glyph more than once, and only glyphs of the text
abbrev pub EachOnce : Text → List ℕ → Type 0
EachOnce t is = (i : ℕ) → count_by (nat_eq i) is ≤ cond (nat_lt i (length t.glyphs)) 1 0

-- On any measure: what is ahead is what stands before the ellipsis, then what is hidden, then what stands behind it, each part range by range in
-- reading order; no glyph shows twice; nothing is hidden where the ellipsis does not stand; the ranges before it are of the spans from the position's on
-- up to the span `meet`, those behind it of the spans from `meet` on, one at most for each span; so the line has two ranges at most more than the text
-- has spans
pub record LineLaw {W : Type 0} (t : Text) (p : Position) (l : Line W) : Type 0 where
  pub hidden : List ℕ
  pub parted : ahead t p ≡ shown t l.front ++ (hidden ++ shown t l.back)
  pub once : EachOnce t (shown t (line_ranges l))
  pub counted : l.laid ≡ length (shown t (line_ranges l))
  pub all_shown : l.ellipsis ≡ None → (hidden ≡ []) × (l.back ≡ [])
  pub meet : ℕ
  pub front_in : SpanBySpan t p.span (min (meet + 1) (length t.spans)) l.front
  pub back_in : SpanBySpan t (max meet p.span) (length t.spans) l.back
  pub few : length (line_ranges l) ≤ length t.spans + 2

-- On any measure: a line that is taken shows what comes next in reading order, range by range, no glyph twice, one range at most for each span; a glyph
-- or more if one is ahead; and all that is ahead unless a word overflowed
pub record TakeLaw {W : Type 0} (t : Text) (p : Position) (l : Lay W) : Type 0 where
  pub left : List ℕ
  pub parted : ahead t p ≡ shown t l.ranges ++ left
  pub once : EachOnce t (shown t l.ranges)
  pub counted : l.laid ≡ length (shown t l.ranges)
  pub one_shown : 0 < length (ahead t p) → 0 < l.laid
  pub all_shown : l.flagged ≡ false → left ≡ []
  pub ranges_in : SpanBySpan t p.span (length t.spans) l.ranges

-- A range ends, in reading order, at an existing position of the range's span, and `rest` is what is ahead of that
abbrev pub Ended : Text → VlRange → List ℕ → Type 0
Ended t r rest =
    (s : ℕ) × (r.span ≡ Some s) × (exists t (ends_at t r.span r) ≡ true) × (ahead t (ends_at t r.span r) ≡ rest)

-- On any measure, where a forward walk ends: its ranges show all that is ahead but `rest`, and that is what is ahead of the end of the last of them
pub record Ends (t : Text) (p : Position) (rs : List VlRange) (rest : List ℕ) : Type 0 where
  pub parted : ahead t p ≡ shown t rs ++ rest
  pub last_ends : (r : VlRange) → last_of rs ≡ Some r → Ended t r rest

-- On an exact measure, a line's width is what its glyphs add up to, the ellipsis included
abbrev pub LineWidth : {W : Type 0} → (W → ℕ) → (Glyph → ℕ) → Text → W → Line W → Type 0
LineWidth number glyph t ellipsis l =
    number l.width ≡ adds_up glyph t (shown t (line_ranges l)) + cond (is_some l.ellipsis) (number ellipsis) 0

-- On an exact measure, given a mode and a width: the ellipsis stands exactly if what is ahead adds up to more than the width, and the line passes the
-- width by at most the ellipsis
pub record FittingLaw {W : Type 0} (number : W → ℕ) (glyph : Glyph → ℕ) (t : Text) (p : Position) (width ellipsis : W) (l : Line W) : Type 0 where
  pub stands_when : is_some l.ellipsis ≡ nat_lt (number width) (adds_up glyph t (ahead t p))
  pub width_is : LineWidth number glyph t ellipsis l
  pub width_most : number l.width ≤ number width + number ellipsis

-- whether a mode has an ellipsis
abbrev pub elides : Ellipsize → Bool
elides mode.None = false
elides mode.Start = true
elides mode.Middle = true
elides mode.End = true

-- The laws of all lines that a measure makes, in sound texts from existing positions
module _ {S W : Type 0} (k : Ghosts S W) (m : S) where
  abbrev pub EveryLine : Type 0
  EveryLine =
      (t : Text) (p : Position) (ellipsize : Ellipsize) (width : Option W) (ellipsis : W) → Sound t → exists t p ≡ true →
      LineLaw t p (closing_line k m t p ellipsize width ellipsis)

  -- without a mode or a width the ellipsis does not stand
  abbrev pub EveryWholeLine : Type 0
  EveryWholeLine =
      (t : Text) (p : Position) (ellipsize : Ellipsize) (width : Option W) (ellipsis : W) → (elides ellipsize && is_some width) ≡ false →
      (closing_line k m t p ellipsize width ellipsis).ellipsis ≡ None

  abbrev pub EveryTakenLine : Type 0
  EveryTakenLine = (t : Text) (p : Position) (width : W) → Sound t → exists t p ≡ true → TakeLaw t p (lay k m t p (Taking width) Forward)

  abbrev pub EveryEnding : Type 0
  EveryEnding = (t : Text) (p : Position) (rule : Rule W) → Sound t → exists t p ≡ true → (rest : List ℕ) × Ends t p (lay k m t p rule Forward).ranges rest

  -- Those on an exact measure, with an ellipsis below 2^31
  module _ (number : W → ℕ) (glyph : Glyph → ℕ) where
    abbrev pub EveryLineWidth : Type 0
    EveryLineWidth =
        (t : Text) (p : Position) (ellipsize : Ellipsize) (width : Option W) (ellipsis : W) → Sound t → exists t p ≡ true → number ellipsis < 2 ^ 31 →
        LineWidth number glyph t ellipsis (closing_line k m t p ellipsize width ellipsis)

    abbrev pub EveryFittingLine : Type 0
    EveryFittingLine =
        (t : Text) (p : Position) (ellipsize : Ellipsize) (width ellipsis : W) → Sound t → exists t p ≡ true → number ellipsis < 2 ^ 31 → elides ellipsize ≡ true →
        FittingLaw number glyph t p width ellipsis (closing_line k m t p ellipsize (Some width) ellipsis)
