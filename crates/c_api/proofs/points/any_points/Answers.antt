use Rattle.std.proofs.Common.{◌≡◌, true, refl, ap, ◌∙◌, arith}
use lib.Ieee.{eq, le, lt}
use Rattle.glyph.proofs.Floats.{bits_0}
use Rattle.glyph.specs.Ranges.{float_0, size_in}
use Rattle.c_api.proofs.points.any_points.Goals as goal

nil_size : size_in float_0 ≡ true
unfolding le lt eq
nil_size = refl

pub unwrap-requires : goal.unwrap-requires
unwrap-requires c = let e = ap size_in bits_0 ∙ nil_size in grind (arith, e, c.new.ensures)
