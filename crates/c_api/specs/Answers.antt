-- What a caller in C is answered: 0 where the call is granted, else the number of the cause
use Rattle.std.specs.Prelude.{◌≡◌, ℕ, Ok, Err, Result}
use Rattle.c_api.specs.declared.status.Refused.{Refused}
use Rattle.refusals.specs.declared.fault.Fault.{Fault}

abbrev pub status_of : {C T : Type 0} → (C → ℕ) → Result (Unit {0}) (Fault C T) → ℕ
status_of number_of (Ok _) = 0
status_of number_of (Err fault) = number_of fault.cause

-- the same, where it is told of each refusal what crosses of it
abbrev pub StatusOf : {E : Type 0} → (E → Refused → Type 0) → Result (Unit {0}) E → ℕ → Type 0
StatusOf crosses (Ok _) status = status ≡ 0
StatusOf crosses (Err e) status = (r : Refused) × crosses e r × (status ≡ r.0)
