-- The lines of an input are the parts between its line feeds, but for one at the end
use Rattle.std.proofs.Common.{◌≡◌, ℕ, zero, suc, ◌+◌, ◌-◌, ◌<◌, Bool, true, false, cond, eqb, ◌⊎◌, inl, inr, List, [], ◌∷◌, ◌++◌, length, get_or, take, drop, Some, None, Option, Bor, MatchOption, unwrap_or, option_to_list, sym, refl, ap, ◌∙◌, subst, append_assoc, arith, length-append}
use Rattle.std.specs.List.{AllByRecursion, join_with_byte, onto_first}
use Rattle.std.proofs.lemmas.Bool.{eqb-false}
use Rattle.std.proofs.lemmas.Bool.Decides.{Decides-eqb}
use Rattle.std.proofs.lemmas.List.{append_cancel_right, drop_at, get_or-append-add, get_or_at, take-append-drop}
use Rattle.std.proofs.lemmas.List.Splits.{join_with_byte-slice_split, slice_split_at, slice_split_none}
use Rattle.std.proofs.lemmas.Slice.Eq.{slice_eq-Decides}
use lib.Pointwise.{pointwise}
use Rattle.seen_text.specs.Format.{Lacks, Lines, ThreeLines}
use Rattle.seen_text.proofs.Parts.{lacking, parts}

-- the bytes without a line feed at their end, if one stands there
abbrev pub Body : List ℕ → List ℕ → Type 0
Body bytes body = (bytes ≡ body ++ (10 ∷ [])) ⊎ ((bytes ≡ body) × ((front : List ℕ) → bytes ≡ front ++ (10 ∷ []) → ⊥))

pub body_is : (bytes : List ℕ) (r : Option (Bor (List ℕ))) (d : Bor (List ℕ)) → d.now ≡ bytes → MatchOption r (pointwise eqb (drop (length bytes - 1) bytes) (10 ∷ []) ≡ false) (λ x. (pointwise eqb (drop (length bytes - 1) bytes) (10 ∷ []) ≡ true) × (x.now ≡ take (length bytes - 1) bytes) × (length x.now + 1 ≡ length bytes)) → Body bytes (unwrap_or r d).now
body_is bytes None d same other =
    inr (
      sym same,
      λ front is.
          let last : drop (length bytes - 1) bytes ≡ 10 ∷ [] = ap (λ (t : List ℕ). drop (length t - 1) t) is ∙ drop_at front (10 ∷ []) (length (front ++ (10 ∷ [])) - 1) (omega (arith, length-append front (10 ∷ []))) in
          let both : true ≡ false = sym (ap (λ (t : List ℕ). pointwise eqb t (10 ∷ [])) last) ∙ other in
          absurd cc,
    )
body_is bytes (Some x) d same (is, front, long) =
    let n = length bytes - 1 in
    inl (sym (take-append-drop n bytes) ∙ ap (λ (t : List ℕ). t ++ drop n bytes) (sym front) ∙ ap (λ (t : List ℕ). x.now ++ t) ((slice_eq-Decides Decides-eqb (drop n bytes) (10 ∷ []) (pointwise eqb (drop n bytes) (10 ∷ [])) refl).0 is))

-- a last line with no line feed behind it
no_feed : (front second other : List ℕ) → Lacks 10 second → 0 < length second → front ++ (10 ∷ second) ≡ other ++ (10 ∷ []) → ⊥
no_feed front second other lacks some e =
    let k = length second - 1 in
    let place : length other ≡ length front + suc k = omega (arith, ap length e, length-append front (10 ∷ second), length-append other (10 ∷ [])) in
    let below : k < length second = omega arith in
    lacks k below (sym (get_or-append-add front (10 ∷ second) (suc k) 0) ∙ ap (λ (p : ℕ). get_or (front ++ (10 ∷ second)) p 0) (sym place) ∙ ap (λ (t : List ℕ). get_or t (length other) 0) e ∙ get_or_at other 10 [] 0 (length other) refl)

-- what stands behind the last line feed but for one at the end
abbrev Ends : List ℕ → List ℕ → List ℕ → Type 0
Ends bytes front second = ((0 < length second) × (bytes ≡ front ++ (10 ∷ second))) ⊎ (bytes ≡ front ++ (10 ∷ (second ++ (10 ∷ []))))

body_of : (bytes front second : List ℕ) → Lacks 10 second → Ends bytes front second → Body bytes (front ++ (10 ∷ second))
body_of bytes front second lacks (inl (some, e)) = inr (e, λ other is. no_feed front second other lacks some (sym e ∙ is))
body_of bytes front second lacks (inr e) = inl (e ∙ sym (append_assoc front (10 ∷ second) (10 ∷ [])))

ends_so : (bytes front second : List ℕ) → Body bytes (front ++ (10 ∷ second)) → Ends bytes front second
ends_so bytes front second (inl e) = inr (e ∙ append_assoc front (10 ∷ second) (10 ∷ []))
ends_so bytes front [] (inr (e, none)) = absurd (none front e)
ends_so bytes front (b ∷ second) (inr (e, none)) = inl (omega arith, e)

one_body : (bytes one other : List ℕ) → Body bytes one → Body bytes other → one ≡ other
one_body bytes one other (inl d) (inl e) = append_cancel_right one other (10 ∷ []) (sym d ∙ e)
one_body bytes one other (inl d) (inr (_, none)) = absurd (none one d)
one_body bytes one other (inr (_, none)) (inl e) = absurd (none other e)
one_body bytes one other (inr (d, _)) (inr (e, _)) = sym d ∙ e

-- no part has a line feed
lacks_more : (b : ℕ) (part : List ℕ) → eqb b 10 ≡ false → Lacks 10 part → Lacks 10 (b ∷ part)
lacks_more b part other lacks zero l e = eqb-false b 10 other e
lacks_more b part other lacks (suc p) l e = lacks p (omega arith) e

onto_lacks : (b : ℕ) (ps : List (List ℕ)) → eqb b 10 ≡ false → AllByRecursion (Lacks 10) ps → AllByRecursion (Lacks 10) (onto_first b ps)
onto_lacks b [] other all = (lacks_more b [] other (λ p l. absurd (omega arith)), tt)
onto_lacks b (part ∷ ps) other all = (lacks_more b part other all.0, all.1)

cut_lacks : (b : ℕ) (ps : List (List ℕ)) (is : Bool) → eqb b 10 ≡ is → AllByRecursion (Lacks 10) ps → AllByRecursion (Lacks 10) (cond is ([] ∷ ps) (onto_first b ps))
cut_lacks b ps true e all = (λ p l. absurd (omega arith), all)
cut_lacks b ps false e all = onto_lacks b ps e all

parts_lack : (bytes : List ℕ) → AllByRecursion (Lacks 10) (parts 10 bytes)
parts_lack [] = (λ p l. absurd (omega arith), tt)
parts_lack (b ∷ bytes) = cut_lacks b (parts 10 bytes) (eqb b 10) refl (parts_lack bytes)

-- the lines are the parts
abbrev pub Parted : List ℕ → List ℕ → List ℕ → Option (List ℕ) → Type 0
Parted body first second third = parts 10 body ≡ first ∷ second ∷ option_to_list third

pub told : {bytes first second : List ℕ} (third : Option (List ℕ)) → Lines bytes first second third → (body : List ℕ) × Body bytes body × Parted body first second third
told {bytes} {first} {second} None two = (
  first ++ (10 ∷ second),
  body_of bytes first second two.second_line two.lines,
  slice_split_at (λ b. eqb b 10) first 10 second (lacking 10 first two.first_line) refl ∙ ap (λ (ps : List (List ℕ)). first ∷ ps) (slice_split_none (λ b. eqb b 10) second (lacking 10 second two.second_line)),
)
told {bytes} {first} {second} (Some third) three =
    let assoc : (t : List ℕ) → three.rest ≡ second ++ (10 ∷ t) → bytes ≡ (first ++ (10 ∷ second)) ++ (10 ∷ t) = λ t e. three.begins ∙ ap (λ (r : List ℕ). first ++ (10 ∷ r)) e ∙ sym (append_assoc first (10 ∷ second) (10 ∷ t)) in
    let ends : Ends bytes (first ++ (10 ∷ second)) third = elim three.others.lines [ inl s ↦ inl (s.0, assoc third s.1) | inr e ↦ inr (assoc (third ++ (10 ∷ [])) e) ] in (
      (first ++ (10 ∷ second)) ++ (10 ∷ third),
      body_of bytes (first ++ (10 ∷ second)) third three.others.second_line ends,
      ap (parts 10) (append_assoc first (10 ∷ second) (10 ∷ third))
          ∙ slice_split_at (λ b. eqb b 10) first 10 (second ++ (10 ∷ third)) (lacking 10 first three.first_line) refl
          ∙ ap (λ (ps : List (List ℕ)). first ∷ ps) (slice_split_at (λ b. eqb b 10) second 10 third (lacking 10 second three.others.first_line) refl ∙ ap (λ (ps : List (List ℕ)). second ∷ ps) (slice_split_none (λ b. eqb b 10) third (lacking 10 third three.others.second_line))),
    )

pub lined : (bytes body first second : List ℕ) (third : Option (List ℕ)) → Body bytes body → Parted body first second third → Lines bytes first second third
lined bytes body first second None is parted =
    let joins : body ≡ first ++ (10 ∷ second) = sym (join_with_byte-slice_split 10 body) ∙ ap (join_with_byte 10) parted in
    let lack = subst (AllByRecursion (Lacks 10)) parted (parts_lack body) in
    record { first_line = lack.0; second_line = lack.1.0; lines = ends_so bytes first second (subst (Body bytes) joins is) }
lined bytes body first second (Some third) is parted = by (ends_so bytes (first ++ (10 ∷ second)) third (subst (Body bytes) joins is))
  where
    joins : body ≡ (first ++ (10 ∷ second)) ++ (10 ∷ third)
    joins = sym (join_with_byte-slice_split 10 body) ∙ ap (join_with_byte 10) parted ∙ sym (append_assoc first (10 ∷ second) (10 ∷ third))

    lack : AllByRecursion (Lacks 10) (first ∷ second ∷ third ∷ [])
    lack = subst (AllByRecursion (Lacks 10)) parted (parts_lack body)

    by : Ends bytes (first ++ (10 ∷ second)) third → ThreeLines bytes first second third
    by (inl (some, e)) = record { rest = second ++ (10 ∷ third); first_line = lack.0; begins = e ∙ append_assoc first (10 ∷ second) (10 ∷ third); others = record { first_line = lack.1.0; second_line = lack.1.1.0; lines = inl (some, refl) } }
    by (inr e) = record { rest = second ++ (10 ∷ (third ++ (10 ∷ []))); first_line = lack.0; begins = e ∙ append_assoc first (10 ∷ second) (10 ∷ (third ++ (10 ∷ []))); others = record { first_line = lack.1.0; second_line = lack.1.1.0; lines = inr refl } }

-- the parts of any lines that the bytes are
pub parted : (bytes body first second : List ℕ) (third : Option (List ℕ)) → Body bytes body → Lines bytes first second third → Parted body first second third
parted bytes body first second third is lines = let (own, own_is, so) = told third lines in ap (parts 10) (one_body bytes body own is own_is) ∙ so

-- too few parts, and too many
pub not_lines : (bytes body : List ℕ) → Body bytes body → (length (parts 10 body) < 2) ⊎ (3 < length (parts 10 body)) → (first second : List ℕ) (third : Option (List ℕ)) → Lines bytes first second third → ⊥
not_lines bytes body is (inl few) first second third lines = omega (arith, few, ap length (parted bytes body first second third is lines))
not_lines bytes body is (inr many) first second None lines = omega (arith, many, ap length (parted bytes body first second None is lines))
not_lines bytes body is (inr many) first second (Some third) lines = omega (arith, many, ap length (parted bytes body first second (Some third) is lines))

-- bytes are lines in one way
pub one_way : (bytes first second other others : List ℕ) (third more : Option (List ℕ)) → Lines bytes first second third → Lines bytes other others more → (first ≡ other) × (second ≡ others) × (third ≡ more)
one_way bytes first second other others third more one two = by (told third one)
  where
    same : (o p : Option (List ℕ)) → option_to_list o ≡ option_to_list p → o ≡ p
    same None None e = refl
    same None (Some p) e = absurd (omega (arith, ap length e))
    same (Some o) None e = absurd (omega (arith, ap length e))
    same (Some o) (Some p) e = let heads : o ≡ p = cc in ap Some heads

    by : (body : List ℕ) × Body bytes body × Parted body first second third → (first ≡ other) × (second ≡ others) × (third ≡ more)
    by (body, is, so) =
        let both : first ∷ second ∷ option_to_list third ≡ other ∷ others ∷ option_to_list more = sym so ∙ parted bytes body other others more is two in
        let firsts : first ≡ other = cc in
        let seconds : second ≡ others = cc in
        let rests : option_to_list third ≡ option_to_list more = cc in
        (firsts, seconds, same third more rests)
