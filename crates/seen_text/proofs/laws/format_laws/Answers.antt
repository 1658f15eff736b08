use Rattle.std.proofs.Common.{ℕ, List, ◌++◌, codes, refl, ap, arith}
use lib.Utf8.{encode}
use Rattle.std.proofs.lemmas.Fmt.{decimal_digit}
use Rattle.seen_text.proofs.Asked.{one_reading}
use Rattle.seen_text.proofs.Relevel.{resets_by_rule}
use Rattle.seen_text.proofs.laws.format_laws.Goals as goal

pub returns : goal.returns
unfolding encode
returns c = record { reading = one_reading; rule = resets_by_rule; example = (refl, refl); resets = (ap (λ (d : List ℕ). d ++ codes " L L WS WS") (decimal_digit 0 (omega arith)), refl, refl) }
