use Rattle.walk_laws.proofs.Every.{every_walk, every_take}
use Rattle.walk_laws.proofs.walks_are_lawful.Goals as goal

pub returns : goal.returns
returns g c = record { shows = every_walk g.M.Measure c.args.m.now; takes = every_take g.M.Measure c.args.m.now }
