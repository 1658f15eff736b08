use Rattle.std.proofs.Common.{length, ◌∙◌, arith}
use Rattle.std.proofs.lemmas.List.{map-id}
use Rattle.std.proofs.lemmas.List.FromFn.{fill_by_all}
use Rattle.visual_order.proofs.reordering.number_places.Goals as goal

pub returns : goal.returns
returns c = fill_by_all (λ k. k) c.loop-i.line (length c.args.line.now) 0 (omega arith) (λ k h. c.loop-i.invariant k (omega arith)) ∙ map-id _
