use Rattle.std.proofs.Common.{◌+◌, arith}
use Rattle.paragraph.specs.Lent.{lent}
use Rattle.paragraph.proofs.Growth.{starts_within}
use Rattle.paragraph.proofs.tables.SoundTables.glyph_with_rank.Goals as goal

pub overflow_add-result : goal.overflow_add-result
overflow_add-result c =
    let t = lent c.args.self.rows in
    omega (
      arith,
      c.start_of.ensures,
      c.start_of-else-is_congruent.ensures,
      starts_within t c.args.self.sound c.args.s,
      starts_within t c.args.self.sound (c.args.s + 1),
      c.args.self.sound.few_glyphs,
    )
