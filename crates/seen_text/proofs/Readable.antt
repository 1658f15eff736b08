-- What `ok` says of what it was taken of
use Rattle.std.proofs.Common.{◌≡◌, Some, None, Ok, Err, Result, MatchResult, ap, subst}
use Rattle.std.specs.Result.{result_ok}

-- nothing is left of an error
pub no_ok : {T E : Type 0} (r : Result T E) (Yes : T → Type 0) (No : E → Type 0) → MatchResult r Yes No → result_ok r ≡ None → (e : E) × No e
no_ok (Ok x) Yes No cases none = absurd cc
no_ok (Err e) Yes No cases none = (e, cases)

-- what is left is the value
pub ok_is : {T E : Type 0} (r : Result T E) (x : T) → result_ok r ≡ Some x → r ≡ Ok x
ok_is (Ok y) x e = ap Ok cc
ok_is (Err e) x none = absurd cc

pub one_ok : {T E : Type 0} (r : Result T E) (Yes : T → Type 0) (No : E → Type 0) (x : T) → MatchResult r Yes No → result_ok r ≡ Some x → Yes x
one_ok (Ok y) Yes No x cases e = let same : y ≡ x = cc in subst Yes same cases
one_ok (Err e) Yes No x cases none = absurd cc
