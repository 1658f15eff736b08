use Rattle.std.proofs.Common.{◌≡◌, ◌++◌, take, string_bytes, decimal, get_or}
use Rattle.std.specs.List.{flat_map}
use Rattle.seen_text.specs.Numbers.{spaced}
use Rattle.seen_text.proofs.numbers.spell.Given as goal

abbrev pub invariant-loop-number : goal.invariant-loop-number
invariant-loop-number l = string_bytes l.line ≡ decimal (get_or l.fn.numbers 0 0) ++ flat_map spaced (take l.number-index l.rest)
