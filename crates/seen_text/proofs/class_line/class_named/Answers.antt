use Rattle.std.proofs.Common.{sym, ◌∙◌}
use Rattle.seen_text.proofs.ClassWords.{name_utf8}
use Rattle.seen_text.proofs.Readable.{no_ok}
use Rattle.seen_text.proofs.class_line.class_named.Goals as goal

pub returns-in_err-ok : goal.returns-in_err-ok
returns-in_err-ok c = rw c.from_residual.ensures (λ class is. (no_ok c.from_utf8.result _ _ c.from_utf8.ensures.cases (sym c.ok.ensures.value ∙ c.in_err-ok.was)).1.0 (name_utf8 _ class is))
