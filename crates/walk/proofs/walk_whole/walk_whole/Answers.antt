use Rattle.std.proofs.Common.{refl, arith}
use Rattle.paragraph.specs.Aheads.{text_at}
use Rattle.walk.specs.declared.line.Rule.TheVariants.{Never}
use Rattle.walk.proofs.Orders.{word_reached}
use Rattle.walk.proofs.Words.{all_walked, enters, word_on}
use Rattle.walk.proofs.walk_whole.walk_whole.Goals as goal

pub loop-w-init : goal.loop-w-init
loop-w-init g c =
    let own = c.args.own in
    let words = c.words-words.ensures in
    enters g.M.Measure c.args.m.now (text_at own.ahead) own.ahead.position Never c.args.line.width own.span own.stretch c.args.up c.args.spans.first c.args.spans.count c.args.line.blanks c.args.line.laid words.up words.first words.count c.unwalked-part.ensures

pub part_width-x-requires : goal.part_width-x-requires
part_width-x-requires g c = word_reached c.in-Some.ensures.steps c.args.own.stretch c.loop-w.invariant.reaches

pub with_word-part-requires : goal.with_word-part-requires
with_word-part-requires g c =
    let own = c.args.own in
    let n = own.inside.there in
    let few = own.ahead.tables.sound.few_words in
    record {
      reaches = word_reached c.in-Some.ensures.steps own.stretch c.loop-w.invariant.reaches;
      few = omega (arith, c.loop-w.invariant.blanks, c.requires.few, n, few);
      small = omega (arith, c.loop-w.invariant.laid, c.requires.small, n, few);
    }

pub loop-w-preserved : goal.loop-w-preserved
loop-w-preserved g c =
    let own = c.args.own in
    word_on g.M.Measure c.args.m.now (text_at own.ahead) own.ahead.position Never c.loop-w.invariant c.in-Some.ensures.steps c.part_width-x.ensures refl own.ahead.tables.sound own.inside refl c.with_word-part.ensures

pub returns : goal.returns
returns g c =
    let own = c.args.own in
    record {
      exact = all_walked g.M.Measure c.args.m.now (text_at own.ahead) own.ahead.position Never c.in_default.ensures.steps.0 c.loop-w.invariant;
      few = omega (arith, c.loop-w.invariant.blanks);
      small = omega (arith, c.loop-w.invariant.laid);
    }
