use Rattle.std.proofs.Common.{◌≡◌, ◌+◌, false, set, sym, ◌∙◌}
use Rattle.std.proofs.lemmas.List.{set_past}
use Rattle.std.proofs.lemmas.Bool.{cond-false}
use Rattle.walk.specs.Walk.{same_place}
use Rattle.walk.proofs.put.put.Goals as goal
use Rattle.walk.proofs.put.put.Goals.{then-count-ranges, else-count-ranges}

pub returns : goal.returns
returns c =
    let n = c.args.count in
    let r = c.args.range in
    let out = c.args.ranges.now in
    let differ : same_place r.start r.end ≡ false = sym c.if-eq.ensures in
    let list : c.if-count-ranges.ranges ≡ set out n r =
    elim c.if-count-ranges.branch [
      | then-count-ranges w ↦ w.ranges-is
      | else-count-ranges w ↦ w.ranges-is ∙ sym (set_past out n r w.if-count-ranges.false)
    ] in
    record { count = sym (cond-false (same_place r.start r.end) n (n + 1) differ); list = list ∙ sym (cond-false (same_place r.start r.end) out (set out n r) differ) }
