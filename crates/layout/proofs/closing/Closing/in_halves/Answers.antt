use Rattle.std.proofs.Common.{rules, ap, ◌∙◌, arith}
use Rattle.paragraph.specs.Aheads.{text_at}
use Rattle.walk.specs.Walk.{lay}
use Rattle.walk.specs.declared.line.LayoutDirection.TheVariants.{Backward}
use Rattle.walk.specs.declared.line.Rule.TheVariants.{Closing}
use Rattle.layout.proofs.Closings.{blanks_is, laid_is}
use Rattle.layout.proofs.Laid.{lay_small}
use Rattle.layout.proofs.Middles.{first_walk, halved}
use Rattle.layout.proofs.closing.Closing.in_halves.Goals as goal

pub invariant_of-cut : goal.invariant_of-cut
invariant_of-cut g c =
    let line = c.args.self.now in
    let t = text_at line.ahead in
    let first = c.layout_spans-first in
    let here = first_walk g.M.Measure line.m.now t line.ahead.position c.args.width line.ahead.tables.sound line.ahead.stands c.half-half.ensures c.zero.ensures c.args.ranges.now first.ensures.told first.ensures.few (first.ensures.written (omega (arith, c.requires.room))) (c.in-Some.ensures ∙ c.last.ensures.value) c.ends_at.ensures in
    record { stands = here.there }

pub layout_behind-second-requires : goal.layout_behind-second-requires
layout_behind-second-requires g c =
    let line = c.args.self.now in
    let t = text_at line.ahead in
    let first = c.layout_spans-first in
    let here = first_walk g.M.Measure line.m.now t line.ahead.position c.args.width line.ahead.tables.sound line.ahead.stands c.half-half.ensures c.zero.ensures c.args.ranges.now first.ensures.told first.ensures.few (first.ensures.written (omega (arith, c.requires.room))) (c.in-Some.ensures ∙ c.last.ensures.value) c.ends_at.ensures in
    record { room = omega (arith, here.behind, c.requires.room, first.ensures.length) }

pub join_halves-requires : goal.join_halves-requires
join_halves-requires g c =
    let line = c.args.self.now in
    let t = text_at line.ahead in
    let first = c.layout_spans-first in
    let here = first_walk g.M.Measure line.m.now t line.ahead.position c.args.width line.ahead.tables.sound line.ahead.stands c.half-half.ensures c.zero.ensures c.args.ranges.now first.ensures.told first.ensures.few (first.ensures.written (omega (arith, c.requires.room))) (c.in-Some.ensures ∙ c.last.ensures.value) c.ends_at.ensures in
    let second = c.layout_behind-second in
    let left = Closing c.difference-2.result c.zero-2.result in
    let small = lay_small g.M.Measure line.m.now t c.ends_at.result left line.ahead.tables.sound here.there Backward in
    let back = lay g.M.Measure line.m.now t c.ends_at.result left Backward in
    record {
      room = search rules;
      blanks = omega (arith, here.few_blanks, small.0, blanks_is back second.result second.ensures.told);
      laid = omega (arith, here.few_glyphs, small.1, laid_is back second.result second.ensures.told);
    }

pub returns : goal.returns
returns g c =
    let line = c.args.self.now in
    let t = text_at line.ahead in
    let first = c.layout_spans-first in
    let here = first_walk g.M.Measure line.m.now t line.ahead.position c.args.width line.ahead.tables.sound line.ahead.stands c.half-half.ensures c.zero.ensures c.args.ranges.now first.ensures.told first.ensures.few (first.ensures.written (omega (arith, c.requires.room))) (c.in-Some.ensures ∙ c.last.ensures.value) c.ends_at.ensures in
    let second = c.layout_behind-second in
    let left_is = c.difference-2.ensures ∙ ap (λ x. g.M.Measure.difference_of line.m.now x line.ellipsis) c.difference.ensures in
    let both =
    halved g.M.Measure line.m.now t line.ahead.position c.args.width line.ellipsis line.none_before c.args.ranges.now first.new.ranges second.new.ranges here c.if-not-first.false (omega (arith, c.requires.room, here.few, first.ensures.length))
    left_is c.zero-2.ensures second.ensures.told second.ensures.written c.join_halves.result c.join_halves.new.ranges c.join_halves.ensures.told c.join_halves.ensures.written in
    record { told = both.0; written = both.1 }
