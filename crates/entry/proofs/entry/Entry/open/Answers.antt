use Rattle.std.proofs.Common.{refl, ap, ◌∙◌, rules}
use Rattle.entry.proofs.Continuing.{begins_on}
use Rattle.entry.specs.Steps.{begun}
use Rattle.entry.proofs.entry.Entry.open.Goals as goal

pub returns-clause-leaves : goal.returns-clause-leaves
returns-clause-leaves g c = (search rules, begins_on c.fill.new.self c.args.measure _ refl (c.begin-progress.ensures ∙ ap begun c.tables.ensures.holds))
