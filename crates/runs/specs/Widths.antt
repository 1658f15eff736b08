-- The law of a run on an exact measure: when a line holds the ellipsis, and how wide it is
use Rattle.std.specs.Prelude.{◌≡◌, ℕ, ◌+◌, ◌≤◌, Bool, true, false, cond, ◌&&◌, ◌⊎◌, List, [], length, Some, None, Option, nat_lt}
use Rattle.entry.specs.Steps.{Answer, laid, refused, counted, answers, begun, step}
use Rattle.entry.specs.declared.call.Call.{Call}
use Rattle.entry.specs.declared.call.Call.TheVariants.{Take, Close, Count}
use Rattle.entry.specs.declared.progress.Progress.{Progress}
use Rattle.glyph.specs.declared.glyph.Glyph.{Glyph}
use Rattle.layout.specs.declared.line.Ellipsize.{Ellipsize}
use Rattle.layout.specs.declared.line.VisualLine.{VisualLine}
use Rattle.layout_laws.specs.Laws.{elides}
use Rattle.measure.specs.RowNumbers.{row_number}
use Rattle.measure.specs.Rows.{row_width}
use Rattle.measure.specs.declared.measure.Measure.{Ghosts}
use Rattle.paragraph.specs.Text.{Sound, Text}
use Rattle.runs.specs.Laws.{Along}
use Rattle.runs.specs.Log.{Recorded, ahead_now, holds_ellipsis}
use Rattle.runs.specs.Standing.{Stands}
use Rattle.walk.specs.declared.line.VlRange.{VlRange}
use Rattle.walk_laws.specs.Shown.{adds_up, shown}

-- `number` tells what a width means, `glyph` what a glyph's width does
module _ {W : Type 0} (number : W → ℕ) (glyph : Glyph → ℕ) (t : Text) (ellipsis : List Glyph) where
  -- there is a mode and a width, and what is ahead adds up to more than that width
  abbrev pub too_wide : Ellipsize → Option W → ℕ → Bool
  too_wide ellipsize None all = false
  too_wide ellipsize (Some width) all = elides ellipsize && nat_lt (number width) all

  -- A closing line holds the ellipsis exactly if there is a mode and a width and what was ahead adds up to more than that width. It is as wide as its
  -- glyphs add up to, those of the ellipsis too. Given a mode and a width it passes that width by at most one ellipsis
  pub record ClosedWide (past : List (Recorded W)) (ellipsize : Ellipsize) (given : Option W) (rs : List VlRange) (told : VisualLine W) : Type 0 where
    pub ellipsis_when : holds_ellipsis rs ≡ too_wide ellipsize given (adds_up glyph t (ahead_now t past))
    pub width_is : number told.width ≡ adds_up glyph t (shown t rs) + cond (holds_ellipsis rs) (row_number glyph ellipsis) 0
    pub width_most : (width : W) → given ≡ Some width → elides ellipsize ≡ true → number told.width ≤ number width + row_number glyph ellipsis

  -- A line that was taken holds no ellipsis and is as wide as its glyphs add up to. It passes its width only by a single glyph
  pub record TakenWide (width : W) (rs : List VlRange) (told : VisualLine W) : Type 0 where
    pub no_ellipsis : holds_ellipsis rs ≡ false
    pub width_is : number told.width ≡ adds_up glyph t (shown t rs)
    pub width_most : (number told.width ≤ number width) ⊎ (length (shown t rs) ≡ 1)

  -- refusals and tallies have no width
  abbrev pub Measured : List (Recorded W) → Call W → Answer W → Type 0
  Measured past (Take width) (laid rs seen told) = TakenWide width rs told
  Measured past (Take width) (refused f) = Unit {0}
  Measured past (Take width) (counted n) = Unit {0}
  Measured past (Close ellipsize width) (laid rs seen told) = ClosedWide past ellipsize width rs told
  Measured past (Close ellipsize width) (refused f) = Unit {0}
  Measured past (Close ellipsize width) (counted n) = Unit {0}
  Measured past Count a = Unit {0}

  abbrev pub MeasuredRun : List (Call W) → List (Answer W) → Type 0
  MeasuredRun calls given = Along Measured [] calls given

module _ {S W : Type 0} (k : Ghosts S W) (m : S) (number : W → ℕ) (glyph : Glyph → ℕ) where
  -- every run on a newly opened entry obeys it, where the ellipsis has 16 glyphs at most
  abbrev pub EveryMeasuredRun : Type 0
  EveryMeasuredRun =
      (t : Text) (ellipsis : List Glyph) (ranges order : ℕ) (calls : List (Call W)) → Sound t → length ellipsis ≤ 16 →
      MeasuredRun number glyph t ellipsis calls (answers k m t (row_width k m ellipsis) ranges order (begun t) calls)

  -- and so does each call on an entry that stands where the log tells
  abbrev pub EveryMeasuredStep : Type 0
  EveryMeasuredStep =
      (t : Text) (ellipsis : List Glyph) (ranges order : ℕ) (past : List (Recorded W)) (q : Progress) (c : Call W) → Sound t → length ellipsis ≤ 16 → Stands t past q →
      Measured number glyph t ellipsis past c (step k m t (row_width k m ellipsis) ranges order q c).answer
