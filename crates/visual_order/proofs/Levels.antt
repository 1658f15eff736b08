-- What is read of the levels of elements, at a function f from an element to its level
use Rattle.std.proofs.Common.{◌≡◌, ℕ, ◌<◌, ◌≤◌, true, leb, List, map, length, get_or, sym, ap, ◌∙◌}
use Rattle.std.proofs.lemmas.List.{get_or-map}
use Rattle.std.proofs.lemmas.Bool.{le-leb}
use Rattle.visual_order.specs.VisualOrder.{high}

module _ {X : Type 0} (f : X → ℕ) (xs : List X) where
  pub level_at : (i : ℕ) (x : X) → i < length xs → x ≡ get_or xs i x → get_or (map f xs) i 0 ≡ f x
  level_at i x l e = get_or-map f xs i x 0 l ∙ ap f (sym e)

  pub is_high : (k i : ℕ) (x : X) (n : ℕ) → i < length xs → x ≡ get_or xs i x → n ≡ f x → k ≤ n → high (map f xs) k i ≡ true
  is_high k i x n l e n_is h = ap (leb k) (level_at i x l e ∙ sym n_is) ∙ le-leb k n h
