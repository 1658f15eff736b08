-- Which lines hold the ellipsis
use Rattle.std.proofs.Common.{◌≡◌, ℕ, ◌+◌, Bool, true, false, not, ◌||◌, List, [], ◌∷◌, ◌++◌, is_some, Some, None, Option, refl, ap, ◌∙◌, true≢false}
use Rattle.layout.specs.Lines.{Line, ellipsis_ranges, line_ranges}
use Rattle.paragraph.specs.Text.{Text}
use Rattle.runs.specs.Log.{holds_ellipsis}
use Rattle.walk.specs.declared.line.VlRange.{VlRange}
use Rattle.walk_laws.specs.Laws.{SpanBySpan}

-- ranges of spans hold none
none_held : (t : Text) (low high : ℕ) (rs : List VlRange) → SpanBySpan t low high rs → holds_ellipsis rs ≡ false
none_held t low high [] h = refl
none_held t low high (r ∷ rs) (s, l, k, own, rest) =
    ap (λ (o : Option ℕ). not (is_some o) || holds_ellipsis rs) own.span_is ∙ none_held t (s + 1) high rs rest

held_behind : (xs ys : List VlRange) → holds_ellipsis xs ≡ false → holds_ellipsis (xs ++ ys) ≡ holds_ellipsis ys
held_behind [] ys e = refl
held_behind (r ∷ xs) ys e = by (held_behind xs ys) (not (is_some r.span)) e
  where
    by : (holds_ellipsis xs ≡ false → holds_ellipsis (xs ++ ys) ≡ holds_ellipsis ys) → (b : Bool) → (b || holds_ellipsis xs) ≡ false → (b || holds_ellipsis (xs ++ ys)) ≡ holds_ellipsis ys
    by more true e = absurd (true≢false e)
    by more false e = more e

-- a line of spans' ranges around the ellipsis holds it if it stands
pub held_when : {W : Type 0} (t : Text) (low high from to : ℕ) (l : Line W) → SpanBySpan t low high l.front → SpanBySpan t from to l.back → holds_ellipsis (line_ranges l) ≡ is_some l.ellipsis
held_when t low high from to l front back =
    held_behind l.front (ellipsis_ranges l.ellipsis ++ l.back) (none_held t low high l.front front) ∙ by l.ellipsis
  where
    by : (e : Option ℕ) → holds_ellipsis (ellipsis_ranges e ++ l.back) ≡ is_some e
    by None = none_held t from to l.back back
    by (Some level) = refl

pub none_since : {A : Type 0} (o : Option A) → is_some o ≡ false → o ≡ None
none_since None e = refl
none_since (Some x) e = absurd (true≢false e)
