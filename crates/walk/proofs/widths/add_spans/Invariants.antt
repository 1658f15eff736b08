use Rattle.std.proofs.Common.{◌≡◌, ◌+◌, ◌-◌}
use Rattle.paragraph.specs.Aheads.{text_at}
use Rattle.walk.specs.Widths.{spans_width}
use Rattle.walk.proofs.widths.add_spans.Given as goal

abbrev pub invariant-loop-s : goal.invariant-loop-s
invariant-loop-s g l =
    spans_width g.M.Measure l.m (text_at l.ahead) l.ahead.position l.width l.s (l.fn.spans.first + l.fn.spans.count - l.s)
    ≡ spans_width g.M.Measure l.m (text_at l.ahead) l.ahead.position l.initial.width l.fn.spans.first l.fn.spans.count
