use Rattle.std.proofs.Common.{ℕ, List, Some, None, Option, sym, refl, subst, lit<, Bor}
use Rattle.std.specs.Option.{option_map}
use Rattle.std.proofs.lemmas.Str.Pattern.{split_parts}
use Rattle.strip_text.specs.Fields.{FirstField}
use Rattle.strip_text.proofs.fields.Fields.next_field.Goals as goal

pub returns-in-Some : goal.returns-in-Some
returns-in-Some c =
    let P : Option (Bor (List ℕ)) → Type 0 = λ held. FirstField (option_map (λ x. x.now) held) (Some c.in-Some.field.now) (Some c.in-Some.rest.now) in
    subst P (sym c.in_ok-left.was) (split_parts 32 c.in_ok-left.left.now (Some (c.in-Some.field, c.in-Some.rest)) c.in-Some.ensures.cases (lit< tt))

pub returns-in-None : goal.returns-in-None
returns-in-None c =
    let P : Option (Bor (List ℕ)) → Type 0 = λ held. FirstField (option_map (λ x. x.now) held) (Some c.in_ok-left.left.now) None in
    subst P (sym c.in_ok-left.was) (refl, split_parts 32 c.in_ok-left.left.now None c.in-None.ensures.cases (lit< tt))
