-- The laws of all lines on a measure
use Rattle.std.proofs.Common.{◌≡◌, ℕ, ◌+◌, ◌^◌, ◌<◌, true, [], ◌++◌, Some, None, sym, refl, ap, ◌∙◌, subst, append-nil, arith}
use Rattle.glyph.specs.declared.glyph.Glyph.{Glyph}
use Rattle.layout.specs.declared.line.Ellipsize.TheVariants as mode
use Rattle.layout_laws.proofs.Endings.{walk_ends}
use Rattle.layout_laws.proofs.Fitting.{end_fits, middle_fits, start_fits, whole_width}
use Rattle.layout_laws.proofs.Lines.{end_law, middle_law, start_law, whole_law}
use Rattle.layout_laws.proofs.Once.{shown_once}
use Rattle.layout_laws.specs.Laws.{EachOnce, EveryEnding, EveryFittingLine, EveryLine, EveryLineWidth, EveryTakenLine, EveryWholeLine}
use Rattle.measure.specs.Exact.{Exact}
use Rattle.measure.specs.declared.measure.Measure.{Ghosts}
use Rattle.paragraph.specs.Reading.{ahead, exists}
use Rattle.paragraph.specs.Text.{Sound, Text}
use Rattle.paragraph.specs.declared.place.Position.{Position}
use Rattle.walk.specs.Walk.{lay}
use Rattle.walk.specs.declared.line.LayoutDirection.TheVariants.{Forward}
use Rattle.walk.specs.declared.line.Rule.TheVariants.{Taking}
use Rattle.walk_laws.proofs.Bounds.{ahead_small}
use Rattle.walk_laws.proofs.Takings.{some_taken}
use Rattle.walk_laws.proofs.Walks.{walk_law}
use Rattle.walk_laws.specs.Shown.{adds_up, shown}

module _ {S W : Type 0} (k : Ghosts S W) (m : S) where
  pub every_line : EveryLine k m
  every_line t p mode.None width ellipsis sound here = whole_law k m t p sound here
  every_line t p mode.Start None ellipsis sound here = whole_law k m t p sound here
  every_line t p mode.Start (Some width) ellipsis sound here = start_law k m t p sound here width ellipsis
  every_line t p mode.Middle None ellipsis sound here = whole_law k m t p sound here
  every_line t p mode.Middle (Some width) ellipsis sound here = middle_law k m t p sound here width ellipsis
  every_line t p mode.End None ellipsis sound here = whole_law k m t p sound here
  every_line t p mode.End (Some width) ellipsis sound here = end_law k m t p sound here width ellipsis

  pub every_whole_line : EveryWholeLine k m
  every_whole_line t p mode.None width ellipsis e = refl
  every_whole_line t p mode.Start None ellipsis e = refl
  every_whole_line t p mode.Start (Some width) ellipsis e = absurd cc
  every_whole_line t p mode.Middle None ellipsis e = refl
  every_whole_line t p mode.Middle (Some width) ellipsis e = absurd cc
  every_whole_line t p mode.End None ellipsis e = refl
  every_whole_line t p mode.End (Some width) ellipsis e = absurd cc

  pub every_taken_line : EveryTakenLine k m
  every_taken_line t p width sound here =
      let l = lay k m t p (Taking width) Forward in
      let law = walk_law k m t p (Taking width) sound here Forward in
      record {
        left = law.leaves;
        parted = law.parted;
        once = subst (EachOnce t) (append-nil (shown t l.ranges)) (shown_once t sound p here (shown t l.ranges) law.leaves [] (law.parted ∙ ap (λ i. shown t l.ranges ++ i) (sym (append-nil law.leaves))));
        counted = law.counted;
        one_shown = some_taken k m width t p sound here Forward;
        all_shown = law.all_shown;
        ranges_in = law.ranges_in;
      }

  pub every_ending : EveryEnding k m
  every_ending t p rule sound here = walk_ends k m t p rule sound here

  module _ (number : W → ℕ) (glyph : Glyph → ℕ) (from : ℕ → W) (exact : Exact k m number glyph from) where
    room : (t : Text) (p : Position) (ellipsis : W) → Sound t → exists t p ≡ true → number ellipsis < 2 ^ 31 → adds_up glyph t (ahead t p) + number ellipsis < 2 ^ 32
    room t p ellipsis sound here small = omega (arith, ahead_small k m number glyph from exact t sound p here)

    pub every_fitting_line : EveryFittingLine k m number glyph
    every_fitting_line t p mode.None width ellipsis sound here small e = absurd cc
    every_fitting_line t p mode.Start width ellipsis sound here small e = start_fits k m number glyph from exact t sound p here ellipsis (room t p ellipsis sound here small) width
    every_fitting_line t p mode.Middle width ellipsis sound here small e = middle_fits k m number glyph from exact t sound p here ellipsis (room t p ellipsis sound here small) width
    every_fitting_line t p mode.End width ellipsis sound here small e = end_fits k m number glyph from exact t sound p here ellipsis (room t p ellipsis sound here small) width

    pub every_line_width : EveryLineWidth k m number glyph
    every_line_width t p mode.None width ellipsis sound here small = whole_width k m number glyph from exact t sound p here ellipsis (room t p ellipsis sound here small)
    every_line_width t p mode.Start None ellipsis sound here small = whole_width k m number glyph from exact t sound p here ellipsis (room t p ellipsis sound here small)
    every_line_width t p mode.Start (Some width) ellipsis sound here small = (every_fitting_line t p mode.Start width ellipsis sound here small refl).width_is
    every_line_width t p mode.Middle None ellipsis sound here small = whole_width k m number glyph from exact t sound p here ellipsis (room t p ellipsis sound here small)
    every_line_width t p mode.Middle (Some width) ellipsis sound here small = (every_fitting_line t p mode.Middle width ellipsis sound here small refl).width_is
    every_line_width t p mode.End None ellipsis sound here small = whole_width k m number glyph from exact t sound p here ellipsis (room t p ellipsis sound here small)
    every_line_width t p mode.End (Some width) ellipsis sound here small = (every_fitting_line t p mode.End width ellipsis sound here small refl).width_is
