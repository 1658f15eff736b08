use Rattle.walk.specs.declared.line.Rule.TheVariants.{Never}
use Rattle.walk.proofs.Progress.{AtRest}
use Rattle.walk.proofs.walk_whole.walk_whole.Given as goal

abbrev pub invariant-loop-w : goal.invariant-loop-w
invariant-loop-w g l = AtRest g.M.Measure l.m Never l.own l.fn.up l.fn.line l.fn.spans l.part l.words
