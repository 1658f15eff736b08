use Rattle.std.proofs.Common.{◌+◌, ap, arith}
use Rattle.paragraph.specs.declared.span.Span.{Span}
use Rattle.paragraph.specs.declared.word.Word.{Word}
use Rattle.paragraph.specs.Lent.{lent}
use Rattle.paragraph.proofs.Growth.{span_ends_within, starts_within}
use Rattle.paragraph.proofs.Befores.{its_word_read}
use Rattle.paragraph.proofs.tables.SoundTables.before_glyph.Goals as goal

pub word_around-index-requires : goal.word_around-index-requires
word_around-index-requires c =
    omega (
      arith,
      ap (λ (s : Span). s.offset + s.len) c.span_at-span.ensures,
      span_ends_within (lent c.args.self.rows) c.args.self.sound c.args.s,
      c.args.self.sound.few_words,
    )

pub overflow_add-span : goal.overflow_add-span
overflow_add-span c =
    let t = lent c.args.self.rows in
    let w = its_word_read t c.args.self.sound c.args.s c.args.glyph c.span_at-span.result c.word_around-index.result
    c.span_at-span.ensures c.word_around-index.ensures c.requires.low c.requires.high in
    omega (
      arith,
      w.in_span,
      ap (λ (s : Span). s.offset + s.len) c.span_at-span.ensures,
      span_ends_within t c.args.self.sound c.args.s,
      c.args.self.sound.few_words,
    )

pub overflow_sub-in_word : goal.overflow_sub-in_word
overflow_sub-in_word c =
    let w = its_word_read (lent c.args.self.rows) c.args.self.sound c.args.s c.args.glyph c.span_at-span.result c.word_around-index.result
    c.span_at-span.ensures c.word_around-index.ensures c.requires.low c.requires.high in
    omega (arith, w.low, ap (λ (w : Word). w.offset) c.word_at-word.ensures)

pub behind-place-requires : goal.behind-place-requires
behind-place-requires c =
    let t = lent c.args.self.rows in
    let w = its_word_read t c.args.self.sound c.args.s c.args.glyph c.span_at-span.result c.word_around-index.result
    c.span_at-span.ensures c.word_around-index.ensures c.requires.low c.requires.high in
    record {
      word = omega (
        arith,
        w.in_span,
        ap (λ (s : Span). s.offset + s.len) c.span_at-span.ensures,
        span_ends_within t c.args.self.sound c.args.s,
        c.args.self.sound.few_words,
      );
      glyph = omega (arith, c.requires.high, starts_within t c.args.self.sound (c.args.s + 1), c.args.self.sound.few_glyphs);
    }
