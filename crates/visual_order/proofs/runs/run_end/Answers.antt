use Rattle.std.proofs.Common.{◌≡◌, ◌≤◌, true, map, below_more}
use Rattle.visual_order.specs.VisualOrder.{high}
use Rattle.visual_order.proofs.Levels.{is_high}
use Rattle.visual_order.proofs.runs.run_end.Goals as goal

pub loop-end-preserved : goal.loop-end-preserved
loop-end-preserved g c =
    let f = g.E.Leveled.depth in
    let here = is_high f c.args.elements.now c.args.level c.loop-end.end c.index-elements-end.result c.level.result c.loop-end-test.true c.index-elements-end.is c.level.ensures c.if-level.false in
    λ p lo hi. below_more (λ q. c.args.start ≤ q → high (map f c.args.elements.now) c.args.level q ≡ true) c.loop-end.end (λ q h s. c.loop-end.invariant q s h) (λ s. here) p hi lo
