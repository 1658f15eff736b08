use Rattle.std.proofs.Common.{arith}
use Rattle.walk.proofs.Fits.{taken_in}
use Rattle.walk.proofs.part.cut_part.Goals as goal

pub overflow_add-result : goal.overflow_add-result
overflow_add-result g c =
    let places = c.part-places.result in
    omega (arith, c.requires.small, c.up_to.ensures, c.part-places.ensures.small, taken_in g.M.Measure c.args.m.now _ places.up c.sum-before.result c.args.rule c.args.part.laid places.first places.count c.cut_word-cut.result c.cut_word-cut.ensures)
