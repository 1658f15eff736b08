use Rattle.std.proofs.Common.{◌+◌, ap, arith}
use Rattle.paragraph.specs.declared.span.Span.{Span}
use Rattle.paragraph.specs.Lent.{lent}
use Rattle.paragraph.proofs.Growth.{span_ends_within}
use Rattle.paragraph.proofs.tables.SoundTables.exists.Goals as goal

pub place_in-requires : goal.place_in-requires
place_in-requires c =
    omega (
      arith,
      ap (λ (s : Span). s.offset + s.len) c.span_at.ensures,
      span_ends_within (lent c.args.self.rows) c.args.self.sound c.args.position.span,
      c.args.self.sound.few_words,
    )
