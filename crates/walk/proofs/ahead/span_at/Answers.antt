use Rattle.std.proofs.lemmas.List.{get_or_default}
use Rattle.walk.proofs.ahead.span_at.Goals as goal

pub returns : goal.returns
returns c = get_or_default c.args.tables.spans.now c.args.s _ _ c.requires
