use Rattle.std.proofs.Common.{◌∙◌}
use Rattle.paragraph.specs.Aheads.{text_at}
use Rattle.walk.proofs.Sums.{words_more}
use Rattle.walk.proofs.widths.add_words.Goals as goal

pub loop-w-preserved : goal.loop-w-preserved
loop-w-preserved g c =
    let own = c.args.own in
    words_more g.M.Measure c.args.m.now (text_at own.ahead) own.span own.stretch c.loop-w.width _ _ c.loop-w.w _ c.loop-w-test.true c.part_width.ensures c.sum-width.ensures
    ∙ c.loop-w.invariant
