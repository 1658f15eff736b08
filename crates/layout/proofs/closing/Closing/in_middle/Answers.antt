use Rattle.std.proofs.Common.{arith}
use Rattle.paragraph.specs.Aheads.{text_at}
use Rattle.layout.proofs.Middles.{kept_written}
use Rattle.layout.proofs.closing.Closing.in_middle.Goals as goal

pub returns-in-Some-clause-written : goal.returns-in-Some-clause-written
returns-in-Some-clause-written g c =
    let line = c.args.self.now in
    kept_written g.M.Measure line.m.now (text_at line.ahead) line.ahead.position c.args.width line.ellipsis c.in-Some.trial c.in-Some.ensures c.put_whole.result c.put_whole.ensures.count c.args.ranges.now c.put_whole.new.ranges (c.put_whole.ensures.written (omega (arith, c.requires.room))) c.from.result c.from.ensures
