-- Every run on an exact measure: when a line holds the ellipsis, and how wide it is
use Rattle.std.proofs.Common.{◌≡◌, ℕ, ◌+◌, ◌^◌, ◌<◌, ◌≤◌, Bool, true, false, cond, ◌&&◌, List, [], length, is_some, Some, None, Option, sym, refl, ap, ◌∙◌, subst, inl, inr, ⊎_elim, arith}
use Rattle.entry.specs.Lines.{taken_line}
use Rattle.entry.specs.Steps.{begun, step}
use Rattle.entry.specs.declared.call.Call.{Call}
use Rattle.entry.specs.declared.call.Call.TheVariants.{Take, Close, Count}
use Rattle.entry.specs.declared.progress.Progress.{Progress}
use Rattle.glyph.specs.declared.glyph.Glyph.{Glyph}
use Rattle.layout.specs.Lines.{Line, closing_line, line_ranges, line_told, plain}
use Rattle.layout.specs.declared.line.Ellipsize.{Ellipsize}
use Rattle.layout.specs.declared.line.Ellipsize.TheVariants as mode
use Rattle.layout_laws.proofs.Every.{every_fitting_line, every_line, every_line_width, every_taken_line, every_whole_line}
use Rattle.layout_laws.specs.Laws.{TakeLaw, elides}
use Rattle.measure.proofs.RowNumbers.{glyphs_within, row_meant_few}
use Rattle.measure.specs.Exact.{Exact}
use Rattle.measure.specs.RowNumbers.{row_number}
use Rattle.measure.specs.Rows.{row_width}
use Rattle.measure.specs.declared.measure.Measure.{Ghosts}
use Rattle.paragraph.proofs.Fitting.{fits}
use Rattle.paragraph.specs.Reading.{ahead, exists}
use Rattle.paragraph.specs.Text.{Sound, Text}
use Rattle.runs.proofs.Ellipses.{held_when}
use Rattle.runs.proofs.Grants.{plain_shows}
use Rattle.runs.proofs.Refusals.{close_ways, take_ways}
use Rattle.runs.proofs.Runs.{along}
use Rattle.runs.proofs.Standing.{every_start, there, what_is_ahead}
use Rattle.runs.specs.Log.{Recorded, closed, holds_ellipsis}
use Rattle.runs.specs.Standing.{Stands}
use Rattle.runs.specs.Widths.{ClosedWide, EveryMeasuredRun, EveryMeasuredStep, Measured, TakenWide, too_wide}
use Rattle.walk.specs.Walk.{Lay, lay}
use Rattle.walk.specs.declared.line.LayoutDirection.TheVariants.{Forward}
use Rattle.walk.specs.declared.line.Rule.TheVariants.{Taking}
use Rattle.walk_laws.proofs.Every.{every_taking}
use Rattle.walk_laws.specs.Laws.{TakingLaw}
use Rattle.walk_laws.specs.Shown.{adds_up, shown}

module _ {S W : Type 0} (k : Ghosts S W) (m : S) (number : W → ℕ) (glyph : Glyph → ℕ) (from : ℕ → W) (exact : Exact k m number glyph from)
    (t : Text)
    (sound : Sound t)
    (ellipsis : List Glyph)
    (short : length ellipsis ≤ 16) where
  abbrev ellipsis_width : W
  ellipsis_width = row_width k m ellipsis

  ellipsis_meant : number ellipsis_width ≡ row_number glyph ellipsis
  ellipsis_meant = row_meant_few exact ellipsis (omega arith)

  ellipsis_small : number ellipsis_width < 2 ^ 31
  ellipsis_small = omega (arith, ellipsis_meant, glyphs_within exact ellipsis)

  module _ (past : List (Recorded W)) (q : Progress) (s : Stands t past q) (still : closed past ≡ false) where
    here : exists t q.position ≡ true
    here = there t (fits t sound) past q s still

    taken_wide : (width : W) → TakenWide number glyph t ellipsis width (line_ranges (taken_line k m t q.position width)) (line_told t 0 (taken_line k m t q.position width))
    taken_wide width =
        record {
          no_ellipsis = held_when t q.position.span (length t.spans) 0 0 (plain walk) takes.ranges_in tt;
          width_is = law.width_is ∙ ap (adds_up glyph t) (sym (plain_shows t walk));
          width_most = ⊎_elim (λ l. inl l) (λ e. inr (ap length (plain_shows t walk) ∙ sym takes.counted ∙ e)) law.width_most;
        }
      where
        walk : Lay W
        walk = lay k m t q.position (Taking width) Forward

        law : TakingLaw number glyph t q.position width walk
        law = every_taking k m number glyph from exact t q.position width Forward sound here

        takes : TakeLaw t q.position walk
        takes = every_taken_line k m t q.position width sound here

    module _ (ellipsize : Ellipsize) (given : Option W) where
      abbrev line : Line W
      line = closing_line k m t q.position ellipsize given ellipsis_width

      holds : holds_ellipsis (line_ranges line) ≡ is_some line.ellipsis
      holds =
          let law = every_line k m t q.position ellipsize given ellipsis_width sound here in
          held_when t _ _ _ _ line law.front_in law.back_in

    stands_when : (ellipsize : Ellipsize) (given : Option W) → is_some (line ellipsize given).ellipsis ≡ too_wide number glyph t ellipsis ellipsize given (adds_up glyph t (ahead t q.position))
    stands_when ellipsize None = ap is_some (every_whole_line k m t q.position ellipsize None ellipsis_width (and_none (elides ellipsize)))
      where
        and_none : (b : Bool) → (b && false) ≡ false
        and_none true = refl
        and_none false = refl
    stands_when mode.None (Some width) = ap is_some (every_whole_line k m t q.position mode.None (Some width) ellipsis_width refl)
    stands_when mode.Start (Some width) = (every_fitting_line k m number glyph from exact t q.position mode.Start width ellipsis_width sound here ellipsis_small refl).stands_when
    stands_when mode.Middle (Some width) = (every_fitting_line k m number glyph from exact t q.position mode.Middle width ellipsis_width sound here ellipsis_small refl).stands_when
    stands_when mode.End (Some width) = (every_fitting_line k m number glyph from exact t q.position mode.End width ellipsis_width sound here ellipsis_small refl).stands_when

    closed_wide : (ellipsize : Ellipsize) (given : Option W) → ClosedWide number glyph t ellipsis past ellipsize given (line_ranges (line ellipsize given)) (line_told t 0 (line ellipsize given))
    closed_wide ellipsize given =
        record {
          ellipsis_when =
              holds ellipsize given
              ∙ stands_when ellipsize given
              ∙ ap (λ (is : List ℕ). too_wide number glyph t ellipsis ellipsize given (adds_up glyph t is)) (what_is_ahead t (fits t sound) past q s still);
          width_is =
              every_line_width k m number glyph from exact t q.position ellipsize given ellipsis_width sound here ellipsis_small
              ∙ ap (λ (b : Bool). adds_up glyph t (shown t (line_ranges (line ellipsize given))) + cond b (number ellipsis_width) 0) (sym (holds ellipsize given))
              ∙ ap (λ (n : ℕ). adds_up glyph t (shown t (line_ranges (line ellipsize given))) + cond (holds_ellipsis (line_ranges (line ellipsize given))) n 0) ellipsis_meant;
          width_most = λ width is mode.
              subst (λ (o : Option W). number (line ellipsize o).width ≤ number width + row_number glyph ellipsis) (sym is)
              (omega (arith, ellipsis_meant, (every_fitting_line k m number glyph from exact t q.position ellipsize width ellipsis_width sound here ellipsis_small mode).width_most));
        }

  pub measured : (ranges order : ℕ) (past : List (Recorded W)) (q : Progress) → Stands t past q → (c : Call W) → Measured number glyph t ellipsis past c (step k m t ellipsis_width ranges order q c).answer
  measured ranges order past q s (Take width) =
      take_ways k m t (fits t sound) ellipsis_width ranges order past q s (λ o. Measured number glyph t ellipsis past (Take width) o.answer) width
      (λ f amiss. tt)
      (λ clear. taken_wide past q s clear.0.still width)
  measured ranges order past q s (Close ellipsize width) =
      close_ways k m t (fits t sound) ellipsis_width ranges order past q s (λ o. Measured number glyph t ellipsis past (Close ellipsize width) o.answer) ellipsize width
      (λ f amiss. tt)
      (λ clear. closed_wide past q s clear.0.still ellipsize width)
  measured ranges order past q s Count = tt

module _ {S W : Type 0} (k : Ghosts S W) (m : S) (number : W → ℕ) (glyph : Glyph → ℕ) (from : ℕ → W) (exact : Exact k m number glyph from) where
  pub every_measured_step : EveryMeasuredStep k m number glyph
  every_measured_step = λ t ellipsis ranges order past q c sound short s. measured k m number glyph from exact t sound ellipsis short ranges order past q s c

  pub every_measured_run : EveryMeasuredRun k m number glyph
  every_measured_run = λ t ellipsis ranges order calls sound short.
      along k m t sound ellipsis ranges order (Measured number glyph t ellipsis) (measured k m number glyph from exact t sound ellipsis short ranges order) [] (begun t) (every_start W t sound) calls
