-- What the reader of a whole input answers
use Rattle.std.specs.Prelude.{ℕ, List, vec_items, Option, Result}
use Rattle.std.specs.Option.{option_map}
use Rattle.seen_text.specs.Classes.{Resets, resets_of}
use Rattle.seen_text.specs.Format.{Says}
use Rattle.program.specs.declared.fault.InputFault.{InputFault}
use Rattle.seen_text.specs.declared.format_fault.FormatFault.{FormatFault}
use Rattle.program.specs.Fault.{MatchInput}
use Rattle.seen_text.specs.declared.input.Input.{Input}

-- what the lines say, or a fault exactly where they say nothing. Only memory may always be wanting
abbrev pub ReadsInput : List ℕ → Result Input (InputFault FormatFault) → Type 0
ReadsInput bytes read =
    MatchInput read (λ input. Says bytes input.text.now (vec_items input.levels) (option_map resets_of input.classes))
    ((text levels : List ℕ) (resets : Option Resets) → Says bytes text levels resets → ⊥)
