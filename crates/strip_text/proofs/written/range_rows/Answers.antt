use Rattle.std.proofs.Common.{◌++◌, sym, ap, ◌∙◌, ap₂}
use Rattle.std.proofs.lemmas.List.{take_all}
use Rattle.std.specs.List.{flat_map}
use Rattle.paragraph.specs.Lent.{lent}
use Rattle.strip_text.specs.Printed.{range_row}
use Rattle.strip_text.proofs.JoinedRows.{joined_one_more}
use Rattle.strip_text.proofs.written.range_rows.Goals as goal

pub loop-range-preserved : goal.loop-range-preserved
loop-range-preserved c =
    c.in_ok-push_str.ensures.bytes
    ∙ ap₂ ◌++◌ c.loop-range.invariant (c.as_str.ensures.value ∙ c.in_ok-range_row.ensures)
    ∙ sym (joined_one_more (range_row (lent c.args.tables)) c.args.ranges.now c.loop-range.range-index _ c.loop-range-test.true)

pub returns : goal.returns
returns c = c.loop-range.invariant ∙ ap (flat_map (range_row (lent c.args.tables))) (take_all c.loop-range.range-index c.args.ranges.now c.loop-range-test.false)
