use Rattle.std.proofs.Common.{sym, ◌∙◌, arith}
use Rattle.paragraph.proofs.Around.{around_here, around_on}
use Rattle.paragraph.proofs.before.row_around.Goals as goal

pub returns-then-at-begins : goal.returns-then-at-begins
returns-then-at-begins g c = λ f told.
    let r = told _ _ (omega (arith, c.loop-i-test.true)) c.begins.ensures in
    sym (around_here f _ _ _ c.loop-i-test.true (omega (arith, r, c.if-at-begins.true))) ∙ c.loop-i.invariant f told

pub loop-i-preserved : goal.loop-i-preserved
loop-i-preserved g c = λ f told.
    let r = told _ _ (omega (arith, c.loop-i-test.true)) c.begins.ensures in
    sym (around_on f _ _ _ c.loop-i-test.true (omega (arith, r, c.if-at-begins.false))) ∙ c.loop-i.invariant f told
