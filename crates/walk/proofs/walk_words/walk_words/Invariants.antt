use Rattle.walk.proofs.Progress.{AtRest}
use Rattle.walk.proofs.walk_words.walk_words.Given as goal

abbrev pub invariant-loop-w : goal.invariant-loop-w
invariant-loop-w g l = AtRest g.M.Measure l.m l.rule l.own l.up l.line l.spans l.part l.words
