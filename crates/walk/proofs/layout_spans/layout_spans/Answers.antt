use Rattle.std.proofs.Common.{sym, ap, ◌∙◌, arith}
use Rattle.paragraph.specs.Aheads.{text_at}
use Rattle.walk.specs.Walk.{walked}
use Rattle.walk.specs.declared.line.Walked.{Walked}
use Rattle.walk.proofs.Puts.{in_order_long, turned_order}
use Rattle.walk.proofs.layout_spans.layout_spans.Goals as goal

pub returns-then-not-is_forward : goal.returns-then-not-is_forward
returns-then-not-is_forward g c =
    let way = c.args.direction in
    let all = walked g.M.Measure c.args.m.now (text_at c.args.ahead) c.args.ahead.position c.args.rule way in
    let line = c.walk_spans-line in
    let told_is = line.ensures.told in
    record {
      told = told_is ∙ ap (λ n. record { ranges = n; blanks = all.blanks; laid = all.laid; width = all.width; flagged = all.flagged }) (sym (in_order_long way all.ranges));
      few = line.ensures.few;
      written = λ h. turned_order way all.ranges c.args.ranges.now line.new.ranges c.turn.new.ranges line.result.ranges (sym c.if-not-is_forward.ensures) (ap (λ (l : Walked _). l.ranges) told_is) (line.ensures.written h) c.turn.ensures.turned;
      length = omega (arith, c.turn.auto.ranges, line.auto.ranges);
    }
