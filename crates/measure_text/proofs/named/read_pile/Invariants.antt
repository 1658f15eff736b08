use Rattle.std.proofs.Common.{◌-◌, ◌≤◌}
use Rattle.measure_text.proofs.named.read_pile.Given as goal

abbrev pub invariant-loop-word : goal.invariant-loop-word
invariant-loop-word l = l.pile.used ≤ 8

abbrev pub decreases-loop-word : goal.decreases-loop-word
decreases-loop-word l = 8 - l.pile.used
