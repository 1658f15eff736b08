-- What the next field says, read as something else
use Rattle.std.proofs.Common.{◌≡◌, ℕ, ◌+◌, ◌^◌, ◌<◌, List, Some, None, Ok, Err, decimal, Option, Result, IsErr, is_err, refl, MatchOption, sym, ap, subst, ◌∙◌, arith}
use Rattle.std.specs.Option.{option_map}
use Rattle.std.specs.Result.{result_ok}
use Rattle.std.proofs.lemmas.Fmt.{decimal_injective}
use Rattle.strip_text.specs.Fields.{IsConverted, NextSays, Writes}

-- where what a field says in one way it says in another
module _ {T U D F : Type 0} (Says : List ℕ → Option T → Type 0) (Also : List ℕ → Option U → Type 0) (before after : Option (List ℕ)) (r : Result T D) (s : Result U F) where
  at_field : (field : Option (List ℕ)) → (IsErr r → IsErr s) → ((f : List ℕ) → Says f (result_ok r) → Also f (result_ok s)) → MatchOption field (IsErr r) (λ f. Says f (result_ok r)) → MatchOption field (IsErr s) (λ f. Also f (result_ok s))
  at_field None fails also said = fails said
  at_field (Some f) fails also said = also f said

  pub also_says : NextSays Says before r after → (IsErr r → IsErr s) → ((f : List ℕ) → Says f (result_ok r) → Also f (result_ok s)) → NextSays Also before s after
  also_says says fails also = record { field = says.field; cut = says.cut; said = at_field says.field fails also says.said }

no_value : {T E : Type 0} (s : Result T E) → IsErr s → result_ok s ≡ None
no_value (Ok x) fails = cc
no_value (Err e) fails = refl

module _ {N E : Type 0} (most : ℕ) (small : most < 2 ^ 64) (number_of : N → ℕ) where
  narrowed : (f : List ℕ) (n : ℕ) (t : Result N E) → Writes 18446744073709551615 f (Some n) → IsConverted (most + 1) number_of n t → Writes most f (option_map number_of (result_ok t))
  narrowed f n (Ok x) says is = (omega (arith, is.0, is.1), says.1 ∙ ap decimal (sym is.0))
  narrowed f n (Err e) says is = λ k within writes. is (omega (arith, decimal_injective n k (omega (arith, says.0)) (omega arith) (sym says.1 ∙ writes)))

  -- a field that says n says the number of the type that n is converted to
  pub said_number : {D F : Type 0} (before after : Option (List ℕ)) (r : Result ℕ D) (s : Result N F) (n : ℕ) (t : Result N E) → NextSays (Writes 18446744073709551615) before r after → r ≡ Ok n
      → IsConverted (most + 1) number_of n t → result_ok s ≡ result_ok t → NextSays (λ f x. Writes most f (option_map number_of x)) before s after
  said_number {D} before after r s n t says is converted same =
      also_says _ _ _ _ r s says
      (λ fails. absurd (cc (fails, ap is_err is)))
      (λ f said. rw same (narrowed f n t (subst (λ (x : Result ℕ D). Writes 18446744073709551615 f (result_ok x)) is said) converted))

-- and what says no number says none of the type
pub said_none : {N D F : Type 0} (most : ℕ) (small : most < 2 ^ 64) (number_of : N → ℕ) (before after : Option (List ℕ)) (r : Result ℕ D) (s : Result N F) → NextSays (Writes 18446744073709551615) before r after → IsErr r → IsErr s
    → NextSays (λ f x. Writes most f (option_map number_of x)) before s after
said_none most small number_of before after r s says fails fails' =
    also_says _ _ _ _ r s says
    (λ _. fails')
    (λ f said. rw (no_value s fails') (λ k within. (rw (no_value r fails) at said) k (omega arith)))
