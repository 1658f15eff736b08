use Rattle.std.proofs.Common.{[], ◌∷◌, vec_items, decimal}
use Rattle.levels.specs.Classes.{name_of}
use Rattle.seen_text.proofs.ClassWords.{Any}
use Rattle.seen_text.proofs.Parts.{Read, left}
use Rattle.seen_text.proofs.class_line.read_class_line.Given as goal

abbrev pub invariant-loop-word : goal.invariant-loop-word
invariant-loop-word l = Read 32 name_of Any (decimal l.paragraph ∷ []) l.line (vec_items l.classes) (left 32 l.word-iterator)
