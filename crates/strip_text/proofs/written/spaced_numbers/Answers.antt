use Rattle.std.proofs.Common.{◌++◌, sym, ap, ◌∙◌, ap₂, refl}
use Rattle.std.proofs.lemmas.List.{take_all}
use Rattle.std.specs.List.{flat_map}
use Rattle.strip_text.specs.Printed.{spaced}
use Rattle.strip_text.proofs.JoinedRows.{joined_one_more}
use Rattle.strip_text.proofs.written.spaced_numbers.Goals as goal

pub loop-number-preserved : goal.loop-number-preserved
loop-number-preserved c =
    c.in_ok-write.ensures.bytes
    ∙ ap₂ ◌++◌ c.loop-number.invariant refl
    ∙ sym (joined_one_more spaced c.args.numbers.now c.loop-number.number-index 0 c.loop-number-test.true)

pub returns : goal.returns
returns c = c.loop-number.invariant ∙ ap (flat_map spaced) (take_all c.loop-number.number-index c.args.numbers.now c.loop-number-test.false)
