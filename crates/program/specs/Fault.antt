-- Why an input gets no answer, as it is printed, and the status that a program ends with
use Rattle.std.specs.Prelude.{ℕ, List, codes, Some, Ok, Err, Option, Result}
use Rattle.program.specs.declared.fault.InputFault.{InputFault}
use Rattle.program.specs.declared.fault.InputFault.TheVariants.{Format, Memory}

-- a fault of the format as itself, where it is known how it is printed
abbrev pub fault_bytes : {F : Type 0} → (F → Option (List ℕ)) → InputFault F → Option (List ℕ)
fault_bytes printed (Format fault) = printed fault
fault_bytes printed Memory = Some (codes "no memory")

-- 0 where there is an answer, and else 1
abbrev pub status_of : {T E : Type 0} → Result T E → ℕ
status_of (Ok _) = 0
status_of (Err _) = 1

-- What an input is answered, or what holds exactly where it gets no answer. Only memory may always be wanting
abbrev pub MatchInput : {T F : Type 0} → Result T (InputFault F) → (T → Type 0) → Type 0 → Type 0
MatchInput (Ok answer) Says Nothing = Says answer
MatchInput (Err (Format _)) Says Nothing = Nothing
MatchInput (Err Memory) Says Nothing = Unit {0}
