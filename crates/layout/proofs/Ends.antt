-- The first and the last range of a list
use Rattle.std.proofs.Common.{◌≡◌, ℕ, ◌-◌, ◌<◌, List, [], ◌∷◌, ◌++◌, reverse, length, get_or, Some, sym, refl, ap, ◌∙◌, arith}
use Rattle.std.proofs.lemmas.List.{get_or-reverse, length-reverse, reverse-append}
use Rattle.std.proofs.lemmas.Option.{slice_get-get_or}
use Rattle.std.specs.List.{slice_get}
use Rattle.layout.specs.Ellipsis.{first_of, last_of}
use Rattle.walk.specs.declared.line.VlRange.{VlRange}

first_is : (rs : List VlRange) (d : VlRange) → 0 < length rs → first_of rs ≡ Some (get_or rs 0 d)
first_is [] d h = absurd (omega arith)
first_is (r ∷ rs) d h = refl

pub last_is : (rs : List VlRange) (d : VlRange) → 0 < length rs → last_of rs ≡ Some (get_or rs (length rs - 1) d)
last_is rs d h =
    let e : length rs - 1 - 0 ≡ length rs - 1 = omega arith in
    first_is (reverse rs) d (omega (arith, length-reverse rs)) ∙ ap Some (get_or-reverse rs 0 d h ∙ ap (λ (i : ℕ). get_or rs i d) e)

pub first_there : (rs : List VlRange) → slice_get rs 0 ≡ first_of rs
first_there [] = refl
first_there (r ∷ rs) = refl

pub last_there : (rs : List VlRange) → slice_get rs (length rs - 1) ≡ last_of rs
last_there [] = refl
last_there (r ∷ rs) = slice_get-get_or (r ∷ rs) (length (r ∷ rs) - 1) r (omega arith) ∙ sym (last_is (r ∷ rs) r (omega arith))

pub last_push : (rs : List VlRange) (r : VlRange) → last_of (rs ++ r ∷ []) ≡ Some r
last_push rs r = ap first_of (reverse-append rs (r ∷ []))
