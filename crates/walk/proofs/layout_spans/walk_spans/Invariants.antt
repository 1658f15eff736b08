use Rattle.std.proofs.Common.{◌≡◌}
use Rattle.paragraph.specs.Aheads.{text_at}
use Rattle.walk.specs.Parts.{forward}
use Rattle.walk.proofs.Progress.{AtSpan}
use Rattle.walk.proofs.layout_spans.walk_spans.Given as goal

abbrev pub invariant-loop-s : goal.invariant-loop-s
invariant-loop-s g l = record {
  as_up : l.spans.up ≡ forward l.direction;
  here : AtSpan g.M.Measure l.m (text_at l.ahead) l.ahead.position l.rule l.direction l.initial.ranges l.ranges l.line l.spans.first l.spans.count;
}
