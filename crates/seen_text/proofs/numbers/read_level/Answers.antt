use Rattle.std.proofs.Common.{◌≡◌, None, sym, ap, ◌∙◌, arith}
use Rattle.std.specs.Result.{result_ok}
use Rattle.seen_text.proofs.Lines.{read_back, written_so, no_leading_zero, level_utf8, same_level}
use Rattle.seen_text.proofs.Readable.{no_ok, ok_is, one_ok}
use Rattle.seen_text.proofs.numbers.read_level.Goals as goal
use Rattle.seen_text.proofs.numbers.read_level.Goals.{else-word-gt1-via-then-word-gt1+else-word-le48, else-word-gt1-via-else-word-gt1}

pub returns-in_err-ok : goal.returns-in_err-ok
returns-in_err-ok c = rw c.from_residual.ensures (λ level small is. (no_ok c.from_utf8.result _ _ c.from_utf8.ensures.cases (sym c.ok.ensures.value ∙ c.in_err-ok.was)).1.0 (level_utf8 _ level small is))

pub returns-in_err-level : goal.returns-in_err-level
returns-in_err-level c = rw c.from_residual-in_err-level.ensures (λ level small is.
    let text = one_ok c.from_utf8.result _ _ _ c.from_utf8.ensures.cases (sym c.ok.ensures.value ∙ c.in_ok-ok.was) in
    let none : result_ok c.parse.result ≡ None = sym c.ok-2.ensures.value ∙ c.in_err-level.was in
    let back = read_back _ _ _ text.0 c.parse.ensures.value.0 level small is in
    absurd (cc (none, ap result_ok back)))

pub returns-then-level-gt-HIGHEST_LEVEL : goal.returns-then-level-gt-HIGHEST_LEVEL
returns-then-level-gt-HIGHEST_LEVEL c = λ level small is.
    let text = one_ok c.from_utf8.result _ _ _ c.from_utf8.ensures.cases (sym c.ok.ensures.value ∙ c.in_ok-ok.was) in
    let read = ok_is c.parse.result _ (sym c.ok-2.ensures.value ∙ c.in_ok-level.was) in
    omega (arith, c.if-level-gt-HIGHEST_LEVEL.true, same_level _ _ _ read (read_back _ _ _ text.0 c.parse.ensures.value.0 level small is))

pub returns-then-word-le48 : goal.returns-then-word-le48
returns-then-word-le48 c = λ level small is. omega (arith, c.if-word-le48.true, no_leading_zero _ level small is c.if-word-gt1.true)

pub returns : goal.returns
returns c =
    let text = one_ok c.from_utf8.result _ _ _ c.from_utf8.ensures.cases (sym c.ok.ensures.value ∙ c.in_ok-ok.was) in
    let read = ok_is c.parse.result _ (sym c.ok-2.ensures.value ∙ c.in_ok-level.was) in
    (c.if-level-gt-HIGHEST_LEVEL.false, written_so _ _ _ text.0 c.parse.ensures.value.0 _ read (λ long. elim c.else-word-gt1.branch [ else-word-gt1-via-then-word-gt1+else-word-le48 w ↦ w.if-word-le48.false | else-word-gt1-via-else-word-gt1 w ↦ absurd (omega (arith, w.if-word-gt1.false)) ]))
