use Rattle.std.proofs.Common.{true, false, ◌∙◌}
use Rattle.glyph.proofs.Floats.{by_low_test}
use Rattle.glyph.proofs.ranges.from_zero_to.Goals as goal

pub returns-then-x : goal.returns-then-x
returns-then-x c = by_low_test c.args.most c.args.x true c.if-x.true

pub returns-else-x : goal.returns-else-x
returns-else-x c = c.if-x.false ∙ by_low_test c.args.most c.args.x false c.if-x.false
