use Rattle.std.proofs.Common.{◌-◌, length, sym, ap, ◌∙◌, arith}
use Rattle.paragraph.specs.Aheads.{text_at}
use Rattle.paragraph.proofs.Ranking.{rank_within, length_ahead}
use Rattle.paragraph.proofs.ahead.Ahead.count.Goals as goal

pub overflow_sub-result : goal.overflow_sub-result
overflow_sub-result c =
    let a = c.args.self in
    omega (arith, c.rank.ensures, rank_within (text_at a) a.tables.sound a.position a.stands)

pub returns : goal.returns
returns c =
    let a = c.args.self in
    ap (λ r. length (text_at a).glyphs - r) c.rank.ensures ∙ sym (length_ahead (text_at a) a.tables.sound a.position a.stands)
