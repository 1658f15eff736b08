use Rattle.std.proofs.Common.{ap, ◌∙◌, set}
use Rattle.layout.proofs.Lists.{turned_last}
use Rattle.layout.proofs.closing.Closing.put_ellipsis.Goals as goal

pub returns-in-Forward-clause-written : goal.returns-in-Forward-clause-written
returns-in-Forward-clause-written g c =
    rw c.in-Forward.is
    (ap (set c.args.ranges.now c.args.n) c.ellipsis_between.ensures.range ∙ turned_last c.args.ranges.now c.args.n _ c.requires)
