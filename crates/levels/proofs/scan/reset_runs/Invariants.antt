use Rattle.std.proofs.Common.{◌≡◌, ◌≤◌, length, take, drop, sum}
use Rattle.levels.specs.RuleL1.{adjusted, roles_of}
use Rattle.levels.specs.Runs.{start_of}
use Rattle.levels.proofs.Scanning.{pending}
use Rattle.levels.proofs.scan.reset_runs.Given as goal

abbrev pub invariant-loop-code : goal.invariant-loop-code
invariant-loop-code l =
    (l.at ≡ sum (take (length l.yielded) l.lengths))
    × (start_of l.run l.at ≤ l.at)
    × (pending l.paragraph_level l.run l.at (roles_of (drop (length l.yielded) l.classes)) (drop (length l.yielded) l.lengths) l.levels
    ≡ adjusted l.paragraph_level l.classes l.lengths l.initial.levels)
