use Rattle.std.proofs.Common.{◌+◌, ◌<◌, ◌≤◌, length, sym, subst, arith}
use Rattle.paragraph.specs.Before.{JustBefore}
use Rattle.paragraph.specs.Lent.{lent}
use Rattle.paragraph.specs.Ranks.{start_of, is_congruent}
use Rattle.paragraph.proofs.Around.{Around}
use Rattle.paragraph.proofs.Befores.{just_before, span_found, mirror_in, is_before, is_end}
use Rattle.paragraph.proofs.tables.SoundTables.position_before.Goals as goal

pub glyph_with_rank-requires : goal.glyph_with_rank-requires
glyph_with_rank-requires c =
    let t = lent c.args.self.rows in
    let f = subst (Around (start_of t) c.args.rank 0 (length t.spans)) (sym c.span_around-s.ensures) (span_found t c.args.self.sound c.args.rank c.if-rank-self.true) in
    record { span = omega (arith, f.in_rows, c.args.self.sound.few_spans); low = f.low; high = f.high }

pub before_glyph-requires : goal.before_glyph-requires
before_glyph-requires c =
    let t = lent c.args.self.rows in
    let s = c.span_around-s.result in
    let f = subst (Around (start_of t) c.args.rank 0 (length t.spans)) (sym c.span_around-s.ensures) (span_found t c.args.self.sound c.args.rank c.if-rank-self.true) in
    let m = mirror_in t c.args.self.sound (is_congruent t s) (start_of t s) c.args.rank (start_of t (s + 1)) f.low f.high in
    record {
      low = subst (λ i. start_of t s ≤ i) (sym c.glyph_with_rank.ensures) m.0;
      high = subst (λ i. i < start_of t (s + 1)) (sym c.glyph_with_rank.ensures) m.1;
    }

pub returns-then-rank-self : goal.returns-then-rank-self
returns-then-rank-self c =
    let t = lent c.args.self.rows in
    let r = c.args.rank in
    let e = is_before t c.args.self.sound r c.span_around-s.result c.glyph_with_rank.result c.before_glyph.result
    c.if-rank-self.true c.span_around-s.ensures c.glyph_with_rank.ensures c.before_glyph.ensures in
    record { exact = e; before = subst (JustBefore t r) (sym e) (just_before t c.args.self.sound r) }

pub returns-else-rank-self : goal.returns-else-rank-self
returns-else-rank-self c =
    let t = lent c.args.self.rows in
    let r = c.args.rank in
    let e = is_end t c.args.self.sound r c.at_end.result c.if-rank-self.false c.at_end.ensures in
    record { exact = e; before = subst (JustBefore t r) (sym e) (just_before t c.args.self.sound r) }
