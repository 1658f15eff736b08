use Rattle.replay.specs.Replaying.{Judged}
use Rattle.replay.proofs.replaying.replay.Given as goal

abbrev pub invariant-loop-line : goal.invariant-loop-line
invariant-loop-line g l = Judged (λ heap line said. g.A.Fn.post l.agrees (heap, (line, tt)) said) 18446744073709551615 l.yielded l.tally.lines l.tally.differ
