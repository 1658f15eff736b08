-- What the readers of an input answer: what it says, or a fault exactly where it says nothing. Only memory may always be wanting
use Rattle.std.specs.Prelude.{◌≡◌, ℕ, List, vec_items, Result, Vec, ◌≢◌}
use Rattle.std.specs.declared.alloc.Global.{Global}
use Rattle.seen_text.specs.Format.{Levels}
use Rattle.seen_text.specs.Numbers.{spelled}
use Rattle.program.specs.declared.fault.InputFault.{InputFault}
use Rattle.seen_text.specs.declared.format_fault.FormatFault.{FormatFault}
use Rattle.program.specs.Fault.{MatchInput}

-- of a line of levels
abbrev pub ReadsLevels : List ℕ → Result (Vec ℕ Global) (InputFault FormatFault) → Type 0
ReadsLevels line read = MatchInput read (λ levels. Levels (vec_items levels) × (line ≡ spelled (vec_items levels))) ((levels : List ℕ) → Levels levels → line ≢ spelled levels)
