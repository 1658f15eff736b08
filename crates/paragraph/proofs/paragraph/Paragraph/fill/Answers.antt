use Rattle.std.proofs.Common.{◌≡◌, vec_items, rules}
use Rattle.paragraph.specs.Lent.{text_in}
use Rattle.paragraph.specs.Verdict.{verdict}
use Rattle.paragraph.proofs.Verdicts.{refused}
use Rattle.paragraph.proofs.paragraph.Paragraph.fill.Goals as goal

pub returns-in_err-check-clause-refused : goal.returns-in_err-check-clause-refused
returns-in_err-check-clause-refused c =
    let e : c.from_residual.result ≡ verdict (text_in c.args.tables) (vec_items c.args.tables.ellipsis) = search rules in
    refused _ _ _ e
