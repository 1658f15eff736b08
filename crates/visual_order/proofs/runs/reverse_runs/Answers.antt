use Rattle.std.proofs.Common.{◌≡◌, ℕ, ◌-◌, ◌<◌, ◌≤◌, map, length, get_or, ap, ◌∙◌, arith}
use borrow.Rule.Slice.PartMut.{put_mid}
use Rattle.std.proofs.lemmas.List.Edits.{length-between}
use Rattle.visual_order.specs.VisualOrder.{high}
use Rattle.visual_order.proofs.Turned.{reversed_run, all_passed, put_mid_beyond}
use Rattle.visual_order.proofs.runs.reverse_runs.Goals as goal

pub loop-start-preserved : goal.loop-start-preserved
loop-start-preserved g c =
    let h = high (map g.E.Leveled.depth c.args.elements.now) c.args.level in
    let o = c.loop-start.line in
    let start = c.loop-start.start in
    let end = c.run_end-end.result in
    let run = c.run_end-end.ensures in
    let same : (p : ℕ) → start ≤ p → p < length o → h (get_or o p 0) ≡ h p = λ p lo hi. ap h (c.loop-start.invariant.1 p lo) ∙ c.requires.in_place p (omega arith) in (
      reversed_run h o (put_mid start (end - start) o c.reverse.new.self) start end run.after.0 (omega arith) (λ p lo hi. same p lo (omega arith) ∙ run.inside p lo hi) (λ l. same end run.after.0 l ∙ run.stops (omega arith)) (ap (put_mid start (end - start) o) c.reverse.ensures.after) ∙ c.loop-start.invariant.0,
      λ p lo. put_mid_beyond start (end - start) o c.reverse.new.self p (omega arith) (c.reverse.ensures.len ∙ length-between o start end (omega arith)) (omega arith) ∙ c.loop-start.invariant.1 p (omega arith),
    )

pub returns : goal.returns
returns g c = all_passed (high (map g.E.Leveled.depth c.args.elements.now) c.args.level) c.loop-start.line c.loop-start.start c.loop-start-test.false ∙ c.loop-start.invariant.0
