use Rattle.std.proofs.Common.{ap, arith}
use Rattle.entry.proofs.Continuing.{taken_some, taken_within}
use Rattle.entry.proofs.lines.lay_taken.Goals as goal
use Rattle.layout.proofs.Closings.{plain_line}
use Rattle.paragraph.specs.Aheads.{text_at}
use Rattle.std.proofs.lemmas.Grind.{common_steps}
use Rattle.walk.specs.Walk.{lay}
use Rattle.walk.specs.declared.line.LayoutDirection.TheVariants.{Forward}
use Rattle.walk.specs.declared.line.Rule.TheVariants.{Taking}

pub returns : goal.returns
returns g c =
    let a = c.args.ahead in
    let walked = c.layout_spans-walked in
    let l = lay g.M.Measure c.args.m.now (text_at a) a.position (Taking c.args.width) Forward in
    let written = walked.ensures.written (omega (arith, c.requires.ranges_fit)) in
    let both = plain_line (text_at a) 0 l walked.result c.from.result c.args.ranges.now walked.new.ranges walked.ensures.told c.from.ensures written in
    let told = both.0 in
    let there = both.1 in
    let laid = ap (λ v. v.laid) told in
    record {
      written = grind (arith, common_steps);
      some = λ more. omega (arith, laid, taken_some g.M.Measure c.args.m.now a c.args.width more);
      few = omega (arith, laid, taken_within g.M.Measure c.args.m.now a c.args.width);
    }
