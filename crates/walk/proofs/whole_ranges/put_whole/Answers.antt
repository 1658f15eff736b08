use Rattle.std.proofs.Common.{arith}
use Rattle.paragraph.specs.Lent.{lent}
use Rattle.walk.proofs.Wholes.{none_put, one_put, all_put}
use Rattle.walk.proofs.whole_ranges.put_whole.Goals as goal

pub loop-s-init : goal.loop-s-init
loop-s-init c = none_put (lent c.args.tables.rows) c.args.position c.args.ranges.now

pub put-count-requires : goal.put-count-requires
put-count-requires c = omega (arith, c.loop-s.invariant.few, c.loop-s-test.true, c.args.tables.sound.few_spans)

pub loop-s-preserved : goal.loop-s-preserved
loop-s-preserved c = one_put (lent c.args.tables.rows) c.args.position c.loop-s.invariant c.loop-s-test.true c.span_at-span.ensures c.ahead_of-stretch.ensures c.put-count.ensures.count c.put-count.ensures.list

pub returns : goal.returns
returns c =
    let both = all_put (lent c.args.tables.rows) c.args.position c.loop-s.invariant c.loop-s-test.false in
    record { count = both.0; written = both.1 }
