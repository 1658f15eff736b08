-- One range more in the list
use Rattle.std.proofs.Common.{◌≡◌, ℕ, ◌+◌, ◌<◌, ◌≤◌, true, false, cond, List, [], ◌∷◌, ◌++◌, reverse, length, get_or, take, drop, set, sym, refl, ap, ◌∙◌, append_assoc, arith, length-append, take_at, drop_at}
use lib.ListN.{length-reverse}
use Rattle.std.proofs.lemmas.List.{drop_more, set_at}
use Rattle.std.proofs.lemmas.Bool.{false≢true}
use Rattle.walk.specs.Parts.{forward}
use Rattle.walk.specs.Steps.{counted, put_at}
use Rattle.walk.specs.Walk.{in_order, kept, same_place}
use Rattle.walk.specs.declared.line.LayoutDirection.{LayoutDirection}
use Rattle.walk.specs.declared.line.LayoutDirection.TheVariants.{Forward, Backward}
use Rattle.walk.specs.declared.line.VlRange.{VlRange}

pub counted_kept : (rs : List VlRange) (n : ℕ) (r : VlRange) → length rs ≡ n → length (kept rs r) ≡ counted n r
counted_kept rs n r e =
    elim (same_place r.start r.end) as (λ v. length (cond v rs (rs ++ r ∷ [])) ≡ cond v n (n + 1)) [ true ↦ e | false ↦ length-append rs (r ∷ []) ∙ ap (λ i. i + 1) e ]

pub counted_le : (n : ℕ) (r : VlRange) → counted n r ≤ n + 1
counted_le n r = elim (same_place r.start r.end) as (λ v. cond v n (n + 1) ≤ n + 1) [ true ↦ omega arith | false ↦ omega arith ]

pub put_kept : (rs before after : List VlRange) (n : ℕ) (r : VlRange) → length rs ≡ n → n < length before → after ≡ rs ++ drop n before → put_at after n r ≡ kept rs r ++ drop (counted n r) before
put_kept rs before after n r long room is =
    let one : set after n r ≡ (rs ++ r ∷ []) ++ drop (n + 1) before =
    ap (λ (xs : List VlRange). set xs n r) (is ∙ ap (λ (ys : List VlRange). rs ++ ys) (drop_more before n r room))
    ∙ set_at rs (get_or before n r) (drop (n + 1) before) r n long
    ∙ sym (append_assoc rs (r ∷ []) (drop (n + 1) before)) in
    elim (same_place r.start r.end) as (λ v. cond v after (set after n r) ≡ cond v rs (rs ++ r ∷ []) ++ drop (cond v n (n + 1)) before) [ true ↦ is | false ↦ one ]

-- the ranges in reading order
pub in_order_long : (way : LayoutDirection) (rs : List VlRange) → length (in_order way rs) ≡ length rs
in_order_long Forward rs = refl
in_order_long Backward rs = length-reverse rs

-- the ranges of a backward walk, turned around in the list
pub turned_order : (way : LayoutDirection) (rs before after out : List VlRange) (n : ℕ) → forward way ≡ false → n ≡ length rs → after ≡ rs ++ drop n before → (n ≤ length after → out ≡ reverse (take n after) ++ drop n after) → out ≡ in_order way rs ++ drop n before
turned_order Forward rs before after out n e long is turns = absurd (false≢true (sym e))
turned_order Backward rs before after out n e long is turns =
    let fits : n ≤ length after = omega (arith, ap length is, length-append rs (drop n before)) in
    turns fits
    ∙ ap (λ (xs : List VlRange). reverse (take n xs) ++ drop n xs) is
    ∙ ap (λ (xs : List VlRange). reverse xs ++ drop n (rs ++ drop n before)) (take_at rs (drop n before) n (sym long))
    ∙ ap (λ (xs : List VlRange). reverse rs ++ xs) (drop_at rs (drop n before) n (sym long))
