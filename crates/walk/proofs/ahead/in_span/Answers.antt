use Rattle.std.proofs.Common.{refl}
use Rattle.paragraph.specs.Aheads.{text_at}
use Rattle.walk.proofs.Aheads.{ahead_inside}
use Rattle.walk.proofs.ahead.in_span.Goals as goal

pub invariant_of-result : goal.invariant_of-result
invariant_of-result c =
    let a = c.args.ahead in
    record { inside = ahead_inside (text_at a) a.position c.args.s a.tables.sound a.stands c.requires c.span_at-span.result c.span_at-span.ensures c.ahead_of-stretch.result c.ahead_of-stretch.ensures _ refl }
