use Rattle.std.proofs.Common.{[], rules}
use Rattle.std.proofs.lemmas.Iterator.Consumers.{YieldsList-end}
use Rattle.std.proofs.lemmas.Iterator.Splits.{YieldsList-from_lines}
use Rattle.replay.proofs.Replayed.{judged_more}
use Rattle.replay.proofs.replaying.replay.Goals as goal

pub loop-line-init : goal.loop-line-init
loop-line-init g c = ([], tt, search rules, search rules)

pub loop-line-preserved-then-tally-eq1 : goal.loop-line-preserved-then-tally-eq1
loop-line-preserved-then-tally-eq1 g c = judged_more (λ heap line said. g.A.Fn.post c.args.agrees (heap, (line, tt)) said) _ _ c.in-Some.line c.in_ok-same.same c.alloc-in-loop-line.result c.loop-line.invariant c.in_ok-same.ensures c.with-tally.ensures.lines c.with-tally.ensures.differ

pub loop-line-preserved : goal.loop-line-preserved
loop-line-preserved g c = judged_more (λ heap line said. g.A.Fn.post c.args.agrees (heap, (line, tt)) said) _ _ c.in-Some.line c.in_ok-same.same c.alloc-in-loop-line.result c.loop-line.invariant c.in_ok-same.ensures c.with-tally.ensures.lines c.with-tally.ensures.differ

pub returns : goal.returns
returns g c =
    let end = YieldsList-end (YieldsList-from_lines c.deref.result.now cc) c.loop-line.yielded _ c.loop-line.yielded_by _ _ c.in-None.is c.next.ensures.steps in
    (c.deref.result.now, c.loop-line.yielded, end.0, c.loop-line.invariant)
