use Rattle.std.proofs.Common.{arith}
use Rattle.walk.proofs.span_ahead.SpanAhead.part.Goals as goal

pub returns-clause-small : goal.returns-clause-small
returns-clause-small c =
    let own = c.args.self in
    omega (arith, c.reach-part.ensures.in_word, own.inside.within c.args.w c.requires.0 c.requires.1, own.ahead.tables.sound.few_glyphs)
