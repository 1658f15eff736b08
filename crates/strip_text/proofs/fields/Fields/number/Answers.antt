use Rattle.std.proofs.Common.{sym, ◌∙◌, ap, is_err}
use Rattle.std.proofs.Common.{rules}
use Rattle.strip_text.specs.Fields.{Writes}
use Rattle.strip_text.proofs.Narrowing.{also_says, said_none, said_number}
use Rattle.strip_text.proofs.fields.Fields.number.Goals as goal

pub returns-in_err-number : goal.returns-in_err-number
returns-in_err-number g c = said_none _ g.met.N.Whole.converts.0 _ _ _ _ _ (also_says _ (Writes 18446744073709551615) _ _ _ _ c.read.ensures (λ fails. fails) (λ f p. search rules)) (ap is_err c.in_err-number.was) c.from_residual.ensures.0

pub returns : goal.returns
returns g c = said_number _ g.met.N.Whole.converts.0 _ _ _ _ _ _ _ (also_says _ (Writes 18446744073709551615) _ _ _ _ c.read.ensures (λ fails. fails) (λ f p. search rules)) c.in_ok-number.was (g.met.N.Whole.converts.1 _ _ c.try_from.ensures) (sym c.ok_or.ensures.ok_part ∙ c.ok.ensures.value)
