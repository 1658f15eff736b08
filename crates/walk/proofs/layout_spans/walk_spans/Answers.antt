use Rattle.std.proofs.Common.{◌≤◌, refl, ap, ◌∙◌, arith}
use Rattle.paragraph.specs.Aheads.{text_at}
use Rattle.paragraph.specs.declared.ahead.Ahead.{Ahead}
use Rattle.walk.specs.Parts.{words_in}
use Rattle.walk.proofs.Walks.{part_is, span_ended, span_through, starts, walked_through}
use Rattle.walk.proofs.layout_spans.walk_spans.Goals as goal

pub loop-s-init : goal.loop-s-init
loop-s-init g c =
    let a = c.args.ahead in
    let spans = c.spans_of-spans.ensures in
    record {
      as_up = spans.up ∙ c.is_forward.ensures;
      here = starts g.M.Measure c.args.m.now (text_at a) a.position c.args.rule c.args.direction a.tables.sound a.stands c.args.ranges.now c.nothing-line.result spans.first spans.count c.nothing-line.ensures;
    }

pub returns-then-part : goal.returns-then-part
returns-then-part g c =
    let k = g.M.Measure in
    let m = c.args.m.now in
    let a = c.args.ahead in
    let t = text_at a in
    let f = c.in-Some.ensures.steps in
    let own = c.in_span-own.ensures in
    let is = c.walk_span-part.ensures.exact
    ∙ part_is k m t a.position c.args.rule c.args.direction a.tables.sound a.stands c.loop-s.invariant.here f.counts c.loop-s.invariant.as_up f.place f.later_first own.span c.in_span-own.result c.next.new.self (ap text_at own.ahead) (ap (λ (x : Ahead). x.position) own.ahead) refl own.stretch c.goes_up-up.ensures refl refl in
    let all = span_ended k m t a.position c.args.rule c.args.direction a.tables.sound a.stands c.loop-s.invariant.here f.counts c.loop-s.invariant.as_up f.place f.later_first own.span is c.with_part-line.ensures.line c.with_part-line.ensures.list c.if-part.true in
    record { told = all.tells; few = all.few; written = all.written }

pub loop-s-preserved : goal.loop-s-preserved
loop-s-preserved g c =
    let k = g.M.Measure in
    let m = c.args.m.now in
    let a = c.args.ahead in
    let t = text_at a in
    let f = c.in-Some.ensures.steps in
    let own = c.in_span-own.ensures in
    let is = c.walk_span-part.ensures.exact
    ∙ part_is k m t a.position c.args.rule c.args.direction a.tables.sound a.stands c.loop-s.invariant.here f.counts c.loop-s.invariant.as_up f.place f.later_first own.span c.in_span-own.result c.next.new.self (ap text_at own.ahead) (ap (λ (x : Ahead). x.position) own.ahead) refl own.stretch c.goes_up-up.ensures refl refl in
    let n = words_in c.in_span-own.result.stretch in
    let few : n ≤ 4096 = omega (arith, c.in_span-own.result.inside.there, c.in_span-own.result.ahead.tables.sound.few_words) in
    record {
      as_up = f.as_up ∙ c.loop-s.invariant.as_up;
      here = span_through k m t a.position c.args.rule c.args.direction a.tables.sound a.stands c.loop-s.invariant.here f.counts c.loop-s.invariant.as_up f.place f.later_first own.span is c.with_part-line.ensures.line c.with_part-line.ensures.list n few c.if-part.false (c.walk_span-part.ensures.few c.if-part.false) (c.walk_span-part.ensures.small c.if-part.false);
    }

pub returns : goal.returns
returns g c =
    let a = c.args.ahead in
    let all = walked_through g.M.Measure c.args.m.now (text_at a) a.position c.args.rule c.args.direction a.tables.sound a.stands c.in_default.ensures.steps.0 c.loop-s.invariant.here in
    record { told = all.tells; few = all.few; written = all.written }
