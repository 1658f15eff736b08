use Rattle.std.proofs.Common.{length, vec_items}
use Rattle.runs.proofs.Performances.{SoFar}
use Rattle.runs.proofs.performing.perform_all.Given as goal

abbrev pub invariant-loop-call : goal.invariant-loop-call
invariant-loop-call g l =
    SoFar g.M.Measure l.paragraph (length l.initial.ranges) (length l.initial.order) l.script l.initial.opened l.opened l.call-index (vec_items l.log)
