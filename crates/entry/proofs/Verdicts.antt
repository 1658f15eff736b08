-- What a verdict says of a call
use Rattle.std.proofs.Common.{◌≡◌, ℕ, Bool, true, is_err, Some, None, Result, arith}
use Rattle.entry.specs.Faults.{CallFault}
use Rattle.entry.specs.Granted.{GrantedExactly, MayTake}
use Rattle.entry.specs.Verdict.{take_verdict}
use Rattle.entry.specs.declared.progress.Progress.{Progress}
use Rattle.paragraph.specs.Text.{Text}
use Rattle.std.proofs.lemmas.Grind.{common_steps}

-- where every test comes out well there is no fault
no_take_fault : (t : Text) (q : Progress) (lawful : Bool) (ranges order : ℕ) → MayTake t q lawful ranges order → take_verdict t q lawful ranges order ≡ None
no_take_fault t q lawful ranges order may = grind (arith, common_steps)

-- so a take with a fault is one that may not be granted
pub take_refused : {X Y : Type 0} (t : Text) (q : Progress) (lawful : Bool) (ranges order : ℕ) (f : CallFault) (r : Result X Y) → is_err r ≡ true →
    take_verdict t q lawful ranges order ≡ Some f → GrantedExactly (MayTake t q lawful ranges order) r
take_refused t q lawful ranges order f r err fault =
    let none = no_take_fault t q lawful ranges order in
    grind (arith, common_steps)
