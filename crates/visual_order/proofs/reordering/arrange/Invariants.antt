use Rattle.std.proofs.Common.{◌≡◌, ◌+◌, ◌-◌, ◌≤◌, map, length}
use Rattle.std.specs.List.{range_with_len}
use Rattle.visual_order.specs.VisualOrder.{rounds}
use Rattle.visual_order.proofs.reordering.arrange.Given as goal

-- the rounds above the level are made
abbrev pub invariant-loop-level : goal.invariant-loop-level
invariant-loop-level g l =
    record {
      within : l.low ≤ l.level;
      above : l.line ≡ rounds (map g.E.Leveled.depth l.elements) (l.level + 1) (l.top - l.level) (range_with_len 0 (length l.elements));
    }
