use Rattle.std.proofs.Common.{ap, ◌∙◌}
use Rattle.paragraph.specs.Aheads.{text_at}
use Rattle.layout.specs.Ellipsis.{ellipsis_range, last_of, level_between}
use Rattle.layout.proofs.Ends.{first_there, last_there}
use Rattle.layout.proofs.closing.Closing.ellipsis_between.Goals as goal

pub returns-clause-range : goal.returns-clause-range
returns-clause-range g c =
    let d = (text_at c.args.self.now.ahead).direction in
    let last_is = c.copied-last.ensures ∙ c.last.ensures.value ∙ last_there c.args.before.now in
    let first_is = c.copied-first.ensures ∙ c.first.ensures.value ∙ first_there c.args.behind.now in
    c.ellipsis_range.ensures
    ∙ ap ellipsis_range (c.ellipsis_level_between-level.ensures ∙ ap (λ o. level_between d o c.copied-first.result) last_is ∙ ap (level_between d (last_of c.args.before.now)) first_is)
