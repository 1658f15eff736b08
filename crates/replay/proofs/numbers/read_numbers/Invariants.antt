use Rattle.std.proofs.Common.{vec_items}
use Rattle.replay.specs.Numbers.{Reads}
use Rattle.replay.proofs.numbers.read_numbers.Given as goal

abbrev pub invariant-loop-word : goal.invariant-loop-word
invariant-loop-word g l = Reads g.N.FromStr.from_str_gives l.yielded (vec_items l.numbers)
