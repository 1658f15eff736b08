-- The glyphs of ranges, and the steps of the loops over them
use Rattle.std.proofs.Common.{◌≡◌, ℕ, max, min, List, [], ◌∷◌, map, Some, None, Option, MatchOption, sym, refl, ap, ◌∙◌, arith}
use Rattle.std.proofs.lemmas.List.Folds.{fold-map}
use Rattle.std.specs.List.{fold, reduce}
use Rattle.std.specs.Option.{option_or, unwrap_or}
use Rattle.layout.proofs.Chains.{first_some}
use Rattle.glyph.specs.declared.glyph.Glyph.{Glyph}
use Rattle.layout.specs.Elided.{if_any, largest_end, nearest, or_else, or_later, range_glyphs, smallest_start}
use Rattle.paragraph.specs.Text.{Text}
use Rattle.walk.specs.declared.line.VlRange.{VlRange}

-- the nearest glyphs' answer is the first that a range's glyphs give
module _ (t : Text) (none : ℕ) (answer : List Glyph → ℕ) where
  answers : (gs later : List Glyph) (o : Option ℕ) → unwrap_or o none ≡ or_else none answer later → unwrap_or (option_or (if_any answer gs) o) none ≡ or_else none answer (or_later gs later)
  answers [] later o e = e
  answers (g ∷ gs) later o e = refl

  pub nearest_answers : (rs : List VlRange) → unwrap_or (first_some (λ r. if_any answer (range_glyphs t r)) rs) none ≡ or_else none answer (nearest t rs)
  nearest_answers [] = refl
  nearest_answers (r ∷ rs) = answers (range_glyphs t r) (nearest t rs) _ (nearest_answers rs)

pub or_answer : {P : Type 0} (o : Option ℕ) (n none : ℕ) → (P → n ≡ none) → MatchOption o P (λ x. n ≡ x) → n ≡ unwrap_or o none
or_answer None n none f e = f e
or_answer (Some x) n none f e = e

-- For proofs of callers, no step of one here: 0 stands where there is no end, and the options are what an iterator's `max` and `min` give
pub any_end : (gs : List Glyph) → unwrap_or (if_any largest_end gs) 0 ≡ largest_end gs
any_end [] = refl
any_end (g ∷ gs) = refl

pub max_end : (gs : List Glyph) → reduce max (map (λ g. g.end) gs) ≡ if_any largest_end gs
max_end [] = refl
max_end (g ∷ gs) =
    let e : max 0 g.end ≡ g.end = omega arith in
    ap Some (fold-map max (λ (x : Glyph). x.end) g.end gs ∙ ap (λ (n : ℕ). fold (λ m (x : Glyph). max m x.end) n gs) (sym e))

pub min_start : (gs : List Glyph) → reduce min (map (λ g. g.start) gs) ≡ if_any smallest_start gs
min_start [] = refl
min_start (g ∷ gs) =
    let e : min 65535 g.start ≡ g.start = omega (arith, g.fits.0) in
    ap Some (fold-map min (λ (x : Glyph). x.start) g.start gs ∙ ap (λ (n : ℕ). fold (λ m (x : Glyph). min m x.start) n gs) (sym e))
