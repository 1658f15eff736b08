use Rattle.std.proofs.Common.{arith}
use Rattle.paragraph.specs.Aheads.{text_at}
use Rattle.layout.proofs.Closings.{edge_told, edge_written}
use Rattle.layout.proofs.closing.Closing.at_edge.Goals as goal

pub returns : goal.returns
returns g c =
    let k = g.M.Measure in
    let line = c.args.self.now in
    let w = c.layout_spans-walked.result in
    let t = text_at line.ahead in
    let wr = c.layout_spans-walked.ensures.written (omega (arith, c.requires.room)) in
    record {
      told = edge_told k line.m.now t line.ahead.position c.args.width line.ellipsis c.args.way line.none_before w c.args.ranges.now c.layout_spans-walked.new.ranges c.layout_spans-walked.ensures.told wr c.if-not-walked.false c.put_ellipsis-elided.result c.sum.result c.from-2.result c.put_ellipsis-elided.ensures.bytes c.sum.ensures c.from-2.ensures;
      written = edge_written k line.m.now t line.ahead.position c.args.width line.ellipsis c.args.way line.none_before w c.args.ranges.now c.layout_spans-walked.new.ranges c.layout_spans-walked.ensures.told wr c.if-not-walked.false c.put_ellipsis-elided.new.ranges c.put_ellipsis-elided.ensures.written;
    }
