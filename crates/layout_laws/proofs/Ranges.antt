-- Lists of ranges: what they show, how many they are, which spans they are of
use Rattle.std.proofs.Common.{◌≡◌, ℕ, suc, ◌+◌, ◌-◌, ◌<◌, ◌≤◌, List, [], ◌∷◌, ◌++◌, length, get_or, Some, None, Option, sym, refl, ap, ◌∙◌, append_assoc, arith, length-append}
use Rattle.layout.proofs.Ends.{last_is}
use Rattle.layout.specs.Ellipsis.{last_of}
use Rattle.layout.specs.Lines.{Line, ellipsis_ranges, line_ranges}
use Rattle.paragraph.specs.Text.{Text}
use Rattle.walk.specs.declared.line.VlRange.{VlRange}
use Rattle.walk_laws.specs.Laws.{SpanBySpan}
use Rattle.walk_laws.specs.Shown.{shown, shown_by}

shown_append : (t : Text) (xs bs : List VlRange) → shown t (xs ++ bs) ≡ shown t xs ++ shown t bs
shown_append t [] bs = refl
shown_append t (a ∷ xs) bs = ap (λ (is : List ℕ). shown_by t a ++ is) (shown_append t xs bs) ∙ sym (append_assoc (shown_by t a) (shown t xs) (shown t bs))

ellipsis_shows : (t : Text) (e : Option ℕ) (bs : List VlRange) → shown t (ellipsis_ranges e ++ bs) ≡ shown t bs
ellipsis_shows t None bs = refl
ellipsis_shows t (Some level) bs = refl

-- a line shows what stands before the ellipsis and what stands behind it
pub line_shows : {W : Type 0} (t : Text) (l : Line W) → shown t (line_ranges l) ≡ shown t l.front ++ shown t l.back
line_shows t l =
    shown_append t l.front (ellipsis_ranges l.ellipsis ++ l.back)
    ∙ ap (λ (is : List ℕ). shown t l.front ++ is) (ellipsis_shows t l.ellipsis l.back)

ellipsis_most : (e : Option ℕ) → length (ellipsis_ranges e) ≤ 1
ellipsis_most None = omega arith
ellipsis_most (Some level) = omega arith

pub line_most : {W : Type 0} (l : Line W) → length (line_ranges l) ≤ length l.front + length l.back + 1
line_most l =
    omega (arith, length-append l.front (ellipsis_ranges l.ellipsis ++ l.back), length-append (ellipsis_ranges l.ellipsis) l.back, ellipsis_most l.ellipsis)

-- the last of two or more
last_cons : (a b : VlRange) (rs : List VlRange) → last_of (a ∷ b ∷ rs) ≡ last_of (b ∷ rs)
last_cons a b rs =
    let e : length (a ∷ b ∷ rs) - 1 ≡ suc (length (b ∷ rs) - 1) = omega arith in
    last_is (a ∷ b ∷ rs) a (omega arith) ∙ ap (λ (i : ℕ). Some (get_or (a ∷ b ∷ rs) i a)) e ∙ sym (last_is (b ∷ rs) a (omega arith))

module _ (t : Text) where
  pub ranges_most : (low high : ℕ) (rs : List VlRange) → low ≤ high → SpanBySpan t low high rs → length rs + low ≤ high
  ranges_most low high [] i h = omega arith
  ranges_most low high (r ∷ rs) i (s, l, j, own, rest) = omega (arith, ranges_most (s + 1) high rs (omega arith) rest)

  pub ranges_in : (low high low' high' : ℕ) (rs : List VlRange) → low' ≤ low → high ≤ high' → SpanBySpan t low high rs → SpanBySpan t low' high' rs
  ranges_in low high low' high' [] i j h = tt
  ranges_in low high low' high' (r ∷ rs) i j (s, l, k, own, rest) = (s, omega arith, omega arith, own, ranges_in (s + 1) high (s + 1) high' rs (omega arith) j rest)

  -- the last range's span is the last of all
  pub last_reaches : (low high s : ℕ) (rs : List VlRange) (r : VlRange) → last_of rs ≡ Some r → r.span ≡ Some s → SpanBySpan t low high rs → (low ≤ s) × (s < high) × SpanBySpan t low (s + 1) rs
  last_reaches low high s [] r e f h = absurd cc
  last_reaches low high s (a ∷ []) r e f (v, l, k, own, rest) =
      let same : v ≡ s = one in
      (omega arith, omega arith, (v, l, omega arith, own, tt))
    where
      one : v ≡ s
      one = let g = own.span_is in cc
  last_reaches low high s (a ∷ b ∷ rs) r e f (v, l, k, own, rest) =
      let (i, j, more) = last_reaches (v + 1) high s (b ∷ rs) r (sym (last_cons a b rs) ∙ e) f rest in
      (omega arith, j, (v, l, omega arith, own, more))
