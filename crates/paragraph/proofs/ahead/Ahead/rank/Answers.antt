use Rattle.std.proofs.Common.{◌+◌, ap, ◌∙◌, arith}
use Rattle.paragraph.specs.declared.span.Span.{Span}
use Rattle.paragraph.specs.Lent.{lent}
use Rattle.paragraph.specs.Reading.{boundary}
use Rattle.paragraph.proofs.Growth.{starts_within}
use Rattle.paragraph.proofs.Ranking.{room}
use Rattle.paragraph.proofs.ahead.Ahead.rank.Goals as goal

pub boundary-at-requires : goal.boundary-at-requires
boundary-at-requires c =
    let r = room (lent c.args.self.tables.rows) c.args.self.tables.sound c.args.self.position c.args.self.stands in
    record {
      word = omega (arith, ap (λ (s : Span). s.offset) c.span_at-span.ensures, r.word);
      glyph = r.glyph;
    }

pub overflow_add-result : goal.overflow_add-result
overflow_add-result c =
    let t = lent c.args.self.tables.rows in
    omega (
      arith,
      c.start_of.ensures,
      c.start_of-else-is_congruent.ensures,
      starts_within t c.args.self.tables.sound c.args.self.position.span,
      starts_within t c.args.self.tables.sound (c.args.self.position.span + 1),
      c.args.self.tables.sound.few_glyphs,
    )

pub overflow_sub-result : goal.overflow_sub-result
overflow_sub-result c =
    let t = lent c.args.self.tables.rows in
    let r = room t c.args.self.tables.sound c.args.self.position c.args.self.stands in
    omega (
      arith,
      c.start_of.ensures,
      c.start_of-else-is_congruent.ensures,
      r.high,
      c.boundary-at.ensures ∙ ap (λ s. boundary t s c.args.self.position.place) c.span_at-span.ensures,
    )
