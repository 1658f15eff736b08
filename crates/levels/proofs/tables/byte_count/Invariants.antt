use Rattle.std.proofs.Common.{◌≡◌, ◌+◌, ◌≤◌, drop, sum}
use Rattle.levels.specs.Refusals.{one_to_four}
use Rattle.levels.proofs.tables.byte_count.Given as goal

abbrev pub invariant-loop-length : goal.invariant-loop-length
invariant-loop-length l =
    (l.total ≤ 65535)
    × (one_to_four (drop l.length-index l.lengths) ≡ one_to_four l.lengths)
    × (l.total + sum (drop l.length-index l.lengths) ≡ sum l.lengths)
