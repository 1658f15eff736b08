use Rattle.std.proofs.Common.{◌+◌, ap, arith}
use Rattle.paragraph.specs.declared.word.Word.{Word}
use Rattle.paragraph.specs.Lent.{lent}
use Rattle.paragraph.proofs.Growth.{words_within}
use Rattle.paragraph.proofs.tables.SoundTables.boundary.Goals as goal

pub overflow_add-result : goal.overflow_add-result
overflow_add-result c =
    omega (
      arith,
      ap (λ (w : Word). w.offset) c.word_at.ensures,
      words_within (lent c.args.self.rows) c.args.self.sound (c.args.span.offset + c.args.place.word),
      c.args.self.sound.few_glyphs,
      c.requires.glyph,
    )
