use Rattle.std.proofs.Common.{sym, ◌∙◌, arith}
use Rattle.std.proofs.lemmas.Bool.{false≢true}
use Rattle.paragraph.specs.Aheads.{text_at}
use Rattle.walk.proofs.Orders.{rest_reached, word_reached}
use Rattle.walk.proofs.Words.{all_walked, enters, word_cut, word_on}
use Rattle.walk.proofs.walk_words.walk_words.Goals as goal

pub loop-w-init : goal.loop-w-init
loop-w-init g c =
    let own = c.args.own in
    let words = c.words-words.ensures in
    enters g.M.Measure c.args.m.now (text_at own.ahead) own.ahead.position c.args.rule c.args.line.width own.span own.stretch c.args.up c.args.spans.first c.args.spans.count c.args.line.blanks c.args.line.laid words.up words.first words.count c.unwalked-part.ensures

pub part_width-x-requires : goal.part_width-x-requires
part_width-x-requires g c = word_reached c.in-Some.ensures.steps c.args.own.stretch c.loop-w.invariant.reaches

pub invariant_of-rest : goal.invariant_of-rest
invariant_of-rest g c = record { reaches = rest_reached c.in-Some.ensures.steps c.args.own.stretch c.loop-w.invariant.reaches; there = c.requires.there }

pub overflows-requires : goal.overflows-requires
overflows-requires g c = word_reached c.in-Some.ensures.steps c.args.own.stretch c.loop-w.invariant.reaches

pub cut_part-requires : goal.cut_part-requires
cut_part-requires g c =
    let own = c.args.own in
    record {
      reaches = word_reached c.in-Some.ensures.steps own.stretch c.loop-w.invariant.reaches;
      small = omega (arith, c.loop-w.invariant.laid, c.requires.small, own.inside.there, own.ahead.tables.sound.few_words);
    }

pub with_word-part-requires : goal.with_word-part-requires
with_word-part-requires g c =
    let own = c.args.own in
    let n = own.inside.there in
    let few = own.ahead.tables.sound.few_words in
    record {
      reaches = word_reached c.in-Some.ensures.steps own.stretch c.loop-w.invariant.reaches;
      few = omega (arith, c.loop-w.invariant.blanks, c.requires.few, n, few);
      small = omega (arith, c.loop-w.invariant.laid, c.requires.small, n, few);
    }

pub loop-w-preserved : goal.loop-w-preserved
loop-w-preserved g c =
    let own = c.args.own in
    word_on g.M.Measure c.args.m.now (text_at own.ahead) own.ahead.position c.args.rule c.loop-w.invariant c.in-Some.ensures.steps c.part_width-x.ensures c.sum-before.ensures own.ahead.tables.sound own.inside c.if-overflows.ensures c.with_word-part.ensures

pub returns-then-overflows : goal.returns-then-overflows
returns-then-overflows g c =
    let own = c.args.own in
    let flagged = c.cut_part.ensures.flagged in
    record {
      exact = word_cut g.M.Measure c.args.m.now (text_at own.ahead) own.ahead.position c.args.rule c.loop-w.invariant c.in-Some.ensures.steps c.part_width-x.ensures c.sum-before.ensures c.if-overflows.ensures c.cut_part.ensures.cut;
      few = λ e. absurd (false≢true (sym e ∙ flagged));
      small = λ e. absurd (false≢true (sym e ∙ flagged));
    }

pub returns : goal.returns
returns g c =
    let own = c.args.own in
    record {
      exact = all_walked g.M.Measure c.args.m.now (text_at own.ahead) own.ahead.position c.args.rule c.in_default.ensures.steps.0 c.loop-w.invariant;
      few = λ _. omega (arith, c.loop-w.invariant.blanks);
      small = λ _. omega (arith, c.loop-w.invariant.laid);
    }
