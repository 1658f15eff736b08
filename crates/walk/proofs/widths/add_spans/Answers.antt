use Rattle.std.proofs.Common.{ap, ◌∙◌}
use Rattle.paragraph.specs.Aheads.{text_at}
use Rattle.paragraph.specs.declared.ahead.Ahead.{Ahead}
use Rattle.walk.specs.Widths.{words_width}
use Rattle.walk.proofs.Sums.{spans_more}
use Rattle.walk.proofs.widths.add_spans.Goals as goal

pub loop-s-preserved : goal.loop-s-preserved
loop-s-preserved g c =
    let k = g.M.Measure in
    let m = c.args.m.now in
    let own = c.in_span-own.result in
    let is = c.in_span-own.ensures in
    let words = c.words.result in
    let added = c.add_words-width.ensures ∙ ap (λ (a : Ahead). words_width k m (text_at a) own.span own.stretch c.loop-s.width words.first words.count) is.ahead in
    spans_more k m (text_at c.args.ahead) c.args.ahead.position c.loop-s.width _ own.span own.stretch c.loop-s.s _ words.first words.count c.loop-s-test.true is.span is.stretch c.words.ensures.first c.words.ensures.count added
    ∙ c.loop-s.invariant
