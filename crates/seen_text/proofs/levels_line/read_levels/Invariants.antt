use Rattle.std.proofs.Common.{[], vec_items, decimal}
use Rattle.seen_text.proofs.LevelWords.{Small}
use Rattle.seen_text.proofs.Parts.{Read, left}
use Rattle.seen_text.proofs.levels_line.read_levels.Given as goal

abbrev pub invariant-loop-word : goal.invariant-loop-word
invariant-loop-word l = Read 32 decimal Small [] l.line (vec_items l.levels) (left 32 l.word-iterator)
