use Rattle.std.proofs.Common.{◌≡◌, ℕ, ◌<◌, ◌≤◌, true, map}
use Rattle.visual_order.specs.VisualOrder.{high}
use Rattle.visual_order.proofs.runs.run_end.Given as goal

abbrev pub invariant-loop-end : goal.invariant-loop-end
invariant-loop-end g l = (p : ℕ) → l.start ≤ p → p < l.end → high (map g.E.Leveled.depth l.elements) l.level p ≡ true
