use Rattle.std.proofs.Common.{◌≡◌, take, string_bytes}
use Rattle.std.specs.List.{flat_map}
use Rattle.strip_text.specs.Printed.{range_row}
use Rattle.paragraph.specs.Lent.{lent}
use Rattle.strip_text.proofs.written.range_rows.Given as goal

abbrev pub invariant-loop-range : goal.invariant-loop-range
invariant-loop-range l = string_bytes l.rows ≡ flat_map (range_row (lent l.tables)) (take l.range-index l.ranges)
