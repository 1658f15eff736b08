use Rattle.std.proofs.Common.{ap, ◌∙◌}
use Rattle.paragraph.specs.Holds.{text_of}
use Rattle.paragraph.specs.Ranks.{ahead_count}
use Rattle.paragraph.proofs.Fitting.{counted}
use Rattle.paragraph.proofs.paragraph.Paragraph.ahead_count.Goals as goal

pub returns : goal.returns
returns c =
    let e = c.ahead_count.ensures ∙ ap (λ t. ahead_count t c.args.position) c.tables.ensures.holds in
    record { exact = e; ranks_on = counted (text_of c.args.self.now) c.args.self.now.sound c.args.position c.ahead_count.result e }
