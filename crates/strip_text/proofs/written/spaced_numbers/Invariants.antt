use Rattle.std.proofs.Common.{◌≡◌, take, string_bytes}
use Rattle.std.specs.List.{flat_map}
use Rattle.strip_text.specs.Printed.{spaced}
use Rattle.strip_text.proofs.written.spaced_numbers.Given as goal

abbrev pub invariant-loop-number : goal.invariant-loop-number
invariant-loop-number l = string_bytes l.spaced ≡ flat_map spaced (take l.number-index l.numbers)
