-- The parts of a line with the ellipsis in its middle
use Rattle.std.specs.Prelude.{Bool, cond, not, ◌&&◌}
use Rattle.layout.specs.Ellipsis.{last_of}
use Rattle.layout.specs.Lines.{Line, halves, plain}
use Rattle.measure.specs.declared.measure.Measure.{Ghosts}
use Rattle.paragraph.specs.Text.{Text}
use Rattle.paragraph.specs.declared.place.Position.{Position}
use Rattle.walk.specs.Walk.{Lay, lay}
use Rattle.walk.specs.declared.line.LayoutDirection.TheVariants.{Forward}
use Rattle.walk.specs.declared.line.Rule.TheVariants.{Closing}

module _ {S W : Type 0} (k : Ghosts S W) (m : S) (t : Text) (p : Position) (width : W) where
  -- End's walk, which is tried first, is kept: no word overflows, and it is not over the width
  abbrev pub end_fits : W → Bool
  end_fits ellipsis =
      let trial = lay k m t p (Closing width ellipsis) Forward in
      not trial.flagged && not (k.over_of m trial.width width)

  -- the first walk: forward on half the width, with no room for the ellipsis
  abbrev pub first_half : Lay W
  first_half = lay k m t p (Closing (k.half_of m width) (k.nil_of m)) Forward

  -- the line where that one overflows
  abbrev pub parted_line : W → Line W
  parted_line ellipsis = halves k m t p width ellipsis first_half (last_of first_half.ranges)

  -- the line of the first walk, and of the second where the first overflows
  abbrev pub halved_line : W → Line W
  halved_line ellipsis = cond first_half.flagged (parted_line ellipsis) (plain first_half)
