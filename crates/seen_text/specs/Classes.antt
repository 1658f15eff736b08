-- The third line of an input, which asks for the level resets of rule L1 of the bidirectional algorithm
use Rattle.std.specs.Prelude.{◌≡◌, ℕ, ◌≤◌, List, ◌∷◌, ◌++◌, Some, None, vec_items, decimal, Option, Result, ◌≢◌}
use Rattle.std.specs.List.{flat_map}
use Rattle.levels.specs.Classes.{name_of}
use Rattle.levels.specs.declared.classes.BidiClass.{BidiClass}
use Rattle.seen_text.specs.declared.class_line.ClassLine.{ClassLine}
use Rattle.program.specs.declared.fault.InputFault.{InputFault}
use Rattle.seen_text.specs.declared.format_fault.FormatFault.{FormatFault}
use Rattle.program.specs.Fault.{MatchInput}

-- what the resets go by: the level of the paragraph, and the bidi class of each character
pub record Resets : Type 0 where
  pub paragraph : ℕ
  pub classes : List BidiClass

-- a paragraph has level 0 or 1
abbrev pub Lawful : Resets → Type 0
Lawful resets = resets.paragraph ≤ 1

-- a space and the name of a class
abbrev pub spaced_name : BidiClass → List ℕ
spaced_name class = 32 ∷ name_of class

-- the line: the paragraph's level, and behind it the name of each class with a space before it
abbrev pub resets_line : Resets → List ℕ
resets_line resets = decimal resets.paragraph ++ flat_map spaced_name resets.classes

abbrev pub resets_of : ClassLine → Resets
resets_of line = record { paragraph = line.paragraph; classes = vec_items line.classes }

-- what the reader of a name answers: the class with this name, or none where no class has it
abbrev pub Named : List ℕ → Option BidiClass → Type 0
Named word None = (class : BidiClass) → word ≢ name_of class
Named word (Some class) = word ≡ name_of class

-- What the reader of the line answers: what it says, or a fault exactly where it says nothing. Only memory may always be wanting
abbrev pub ReadsClasses : List ℕ → Result ClassLine (InputFault FormatFault) → Type 0
ReadsClasses line read = MatchInput read (λ r. Lawful (resets_of r) × (line ≡ resets_line (resets_of r))) ((resets : Resets) → Lawful resets → line ≢ resets_line resets)
