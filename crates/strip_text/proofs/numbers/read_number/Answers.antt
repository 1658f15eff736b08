use Rattle.std.proofs.Common.{ℕ, ◌<◌, List, length, get_or, ◌∙◌, subst, arith}
use Rattle.strip_text.proofs.Decimals.{fits, kept, read_back, written_so, no_leading_zero, was_read}
use Rattle.strip_text.proofs.numbers.read_number.Goals as goal
use Rattle.strip_text.proofs.numbers.read_number.Goals.{else-bytes-gt1-via-then-bytes-gt1+else-bytes-le48, else-bytes-gt1-via-else-bytes-gt1}

pub returns-in_err-number : goal.returns-in_err-number
returns-in_err-number c = rw c.from_residual.ensures (λ n small is. cc (kept _ _ n c.ok.ensures.value (read_back c.args.field.now _ c.parse.ensures.value.0 n (omega arith) is), c.in_err-number.was))

pub returns-then-bytes-le48 : goal.returns-then-bytes-le48
returns-then-bytes-le48 c = λ n small is. omega (arith, c.if-bytes-le48.true, no_leading_zero c.as_bytes-bytes.result.now n (omega arith) (c.as_bytes-bytes.ensures.value ∙ is) c.if-bytes-gt1.true)

pub returns : goal.returns
returns c =
    let Plain : List ℕ → Type 0 = λ t. 1 < length t → 48 < get_or t 0 0 in
    let plain : Plain c.as_bytes-bytes.result.now = λ long. elim c.else-bytes-gt1.branch [ else-bytes-gt1-via-then-bytes-gt1+else-bytes-le48 w ↦ w.if-bytes-le48.false | else-bytes-gt1-via-else-bytes-gt1 w ↦ absurd (omega (arith, w.if-bytes-gt1.false)) ] in
    let read = was_read _ _ _ c.ok.ensures.value c.in_ok-number.was in
    (fits c.args.field.now _ c.parse.ensures.value.0 _ read, written_so c.args.field.now _ c.parse.ensures.value.0 _ read (subst Plain c.as_bytes-bytes.ensures.value plain))
