use Rattle.std.proofs.Common.{◌≡◌, ℕ, ◌-◌, ◌≤◌, [], ◌++◌, map, length, get_or, take, drop}
use Rattle.visual_order.specs.VisualOrder.{high, turned}
use Rattle.visual_order.proofs.runs.reverse_runs.Given as goal

-- what is turned up to `start` and what is left make the whole round, and what is left is as it was
abbrev pub invariant-loop-start : goal.invariant-loop-start
invariant-loop-start g l =
    (take l.start l.line ++ turned (high (map g.E.Leveled.depth l.elements) l.level) [] (drop l.start l.line) ≡ turned (high (map g.E.Leveled.depth l.elements) l.level) [] l.initial.line)
    × ((p : ℕ) → l.start ≤ p → get_or l.line p 0 ≡ get_or l.initial.line p 0)

abbrev pub decreases-loop-start : goal.decreases-loop-start
decreases-loop-start g l = length l.initial.line - l.start
