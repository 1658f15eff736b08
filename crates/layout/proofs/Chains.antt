-- What the first item of a chain answers that answers anything
use Rattle.std.proofs.Common.{◌≡◌, ℕ, zero, suc, ◌+◌, ◌<◌, List, [], ◌∷◌, map, length, take, Some, None, Option, IfSome, MatchOption, IsTrue, sym, refl, ap, ◌∙◌, subst, arith}
use Rattle.std.proofs.lemmas.Iterator.{YieldsList}
use Rattle.std.proofs.lemmas.Iterator.Consumers.{YieldsList-so_far, YieldsList-end}
use Rattle.std.proofs.lemmas.Option.{IfSome_then}
use Rattle.std.specs.Fn.{Called}
use Rattle.std.specs.Iterator.{Yields}
use Rattle.std.specs.Iterator.Runs.{SomeRun, YieldsRun, AllItemsGive, IsFirstToGive}
use Rattle.std.specs.List.{slice_get}
use Rattle.std.specs.Option.{IsSomeAnd, option_or}
use denote.Param.Members.{Mut}

abbrev pub first_some : {X C : Type 0} → (X → Option C) → List X → Option C
first_some h [] = None
first_some h (x ∷ xs) = option_or (h x) (first_some h xs)

some_then : {X : Type 0} (r : Option X) {P Q : X → Type 0} → IsSomeAnd r P → ((x : X) → P x → Q x) → IsSomeAnd r Q
some_then None e f = e
some_then (Some x) e f = f x e

module _ {X C : Type 0} (h : X → Option C) where
  none_first : (xs : List X) → ((k : ℕ) → IfSome (slice_get xs k) (λ x. h x ≡ None)) → first_some h xs ≡ None
  none_first [] e = refl
  none_first (x ∷ xs) e = ap (λ (o : Option C). option_or o (first_some h xs)) (e 0) ∙ none_first xs (λ k. e (suc k))

  some_first : (xs : List X) (i : ℕ) (y : C) → IsSomeAnd (slice_get xs i) (λ x. h x ≡ Some y) → ((k : ℕ) → k < i → IsSomeAnd (slice_get xs k) (λ x. h x ≡ None)) → first_some h xs ≡ Some y
  some_first [] i y e f = absurd e
  some_first (x ∷ xs) zero y e f = ap (λ (o : Option C). option_or o (first_some h xs)) e
  some_first (x ∷ xs) (suc i) y e f = ap (λ (o : Option C). option_or o (first_some h xs)) (f 0 (omega arith)) ∙ some_first xs i y e (λ k l. f (suc k) (omega arith))

  or_on : (o a b : Option C) (y : C) → (a ≡ Some y → b ≡ Some y) → option_or o a ≡ Some y → option_or o b ≡ Some y
  or_on None a b y f e = f e
  or_on (Some x) a b y f e = e

  -- an answer in the first part of a list
  first_taken : (n : ℕ) (xs : List X) (y : C) → first_some h (take n xs) ≡ Some y → first_some h xs ≡ Some y
  first_taken zero xs y e = cc
  first_taken (suc n) [] y e = e
  first_taken (suc n) (x ∷ xs) y e = or_on (h x) (first_some h (take n xs)) (first_some h xs) y (first_taken n xs y) e

  first_mapped : {A : Type 0} (v : A → X) (xs : List A) → first_some (λ x. h (v x)) xs ≡ first_some h (map v xs)
  first_mapped v [] = refl
  first_mapped v (x ∷ xs) = ap (option_or (h (v x))) (first_mapped v xs)

-- the clause `runs` of `find_map`, at a closure that computes h
module _ {S A B F C : Type 0} {steps : S → Option A → S → Type 0} {v : A → B} {s : S} {all : List B} {g : Mut F (A × Unit {0}) (Option C)} (h : B → Option C) (f : F) where
  pub first_from_find_map : (r : Option C) → SomeRun steps s (λ p. MatchOption r (IsTrue p.whole × AllItemsGive p g f None) (λ y. (i : ℕ) × (i < p.len) × (p.len ≡ i + 1) × IsFirstToGive p g f (Some y) None i)) → YieldsList steps v s all →
      ((x : A) (o : Option C) (q : F) → Called g f (x, tt) o q → (q ≡ f) × (o ≡ h (v x))) → r ≡ first_some h all
  unfolding YieldsRun
  first_from_find_map None run list acts =
      let p = run.0 in
      let calls = subst (λ u. Yields steps u p.items p.gave.0.0) run.1 p.gave.0.1 in
      let ended = p.gave.0.2 run.2.0 in
      let all_is = (YieldsList-end list p.items p.gave.0.0 calls None ended.0 refl ended.1).0 in
      let none : first_some (λ x. h (v x)) p.items ≡ None =
      none_first (λ x. h (v x)) p.items (λ k. subst (λ (o : Option A). IfSome o (λ x. h (v x) ≡ None)) (p.gave.1 k) (IfSome_then (p.at k) (run.2.1 (λ a r q c. (acts a.0 r q c).0) k) (λ x c. sym (acts x None f c).1))) in
      sym (ap (first_some h) (sym all_is) ∙ sym (first_mapped h v p.items) ∙ none)
  first_from_find_map (Some y) run list acts =
      let p = run.0 in
      let calls = subst (λ u. Yields steps u p.items p.gave.0.0) run.1 p.gave.0.1 in
      let front = YieldsList-so_far list p.items p.gave.0.0 calls in
      let i = run.2.0 in
      let met = run.2.3 (λ a r q c. (acts a.0 r q c).0) in
      let some : first_some (λ x. h (v x)) p.items ≡ Some y =
      some_first (λ x. h (v x)) p.items i y (subst (λ (o : Option A). IsSomeAnd o (λ x. h (v x) ≡ Some y)) (p.gave.1 i) (some_then (p.at i) met.0 (λ x c. sym (acts x (Some y) f c).1)))
      (λ k l. subst (λ (o : Option A). IsSomeAnd o (λ x. h (v x) ≡ None)) (p.gave.1 k) (some_then (p.at k) (met.1 k l) (λ x c. sym (acts x None f c).1))) in
      sym (first_taken h (length p.items) all y (ap (first_some h) (sym front) ∙ sym (first_mapped h v p.items) ∙ some))
