use Rattle.std.proofs.Common.{ap, arith, length-take}
use Rattle.entry.proofs.Continuing.{closing_few, closing_within}
use Rattle.entry.proofs.lines.lay_closing.Goals as goal
use Rattle.measure.specs.Rows.{row_width}

pub write_order-requires : goal.write_order-requires
write_order-requires g c =
    let line = c.layout_line-line.result in
    let e = row_width g.M.Measure c.args.m.now c.args.ellipsis.now in
    let few = closing_few g.M.Measure c.args.m.now c.args.ahead c.args.ellipsize c.args.width e line c.layout_line-line.ensures.told in
    let long = length-take line.ranges c.layout_line-line.new.ranges in
    record { few = omega (arith, few, long, c.args.ahead.tables.sound.few_spans); room = omega (arith, few, long, c.requires.order_fit) }

pub returns-clause-few : goal.returns-clause-few
returns-clause-few g c =
    let e = row_width g.M.Measure c.args.m.now c.args.ellipsis.now in
    omega (arith, ap (λ v. v.laid) c.layout_line-line.ensures.told, closing_within g.M.Measure c.args.m.now c.args.ahead c.args.ellipsize c.args.width e)
