-- No glyph is ahead twice, so none shows twice
use Rattle.std.proofs.Common.{◌≡◌, ℕ, zero, suc, ◌+◌, ◌-◌, ◌≤◌, true, false, cond, eqb, ltb, List, ◌++◌, length, sum_by, ap, ◌∙◌, ⊎_elim, arith}
use Rattle.layout_laws.specs.Laws.{EachOnce}
use Rattle.paragraph.specs.Reading.{ahead, ahead_from, boundary, exists, held}
use Rattle.paragraph.specs.Text.{Sound, Text, congruent, span_at, word_at}
use Rattle.paragraph.specs.declared.place.Place.{Place}
use Rattle.paragraph.specs.declared.place.Position.{Position}
use Rattle.paragraph.specs.declared.span.Span.{Span}
use Rattle.paragraph.specs.declared.word.Word.{Word}
use Rattle.std.proofs.lemmas.List.{get_or_past}
use Rattle.std.proofs.lemmas.List.Sums.{sum_by-append}
use Rattle.std.proofs.lemmas.Bool.{cases_lt}
use Rattle.std.proofs.lemmas.Bool.Decides.{nat_tests}
use Rattle.walk.specs.Widths.{ahead_of}
use Rattle.walk_laws.proofs.Bounds.{ahead_once}
use Rattle.walk_laws.proofs.Intervals.{below}
use Rattle.walk_laws.proofs.Joins.{ends_in_order, rises}
use Rattle.walk_laws.proofs.Places.{Inside, ahead_part, first_next, first_of, existing}

-- below n an index stands once, if at all
below_once : (i n : ℕ) → below (λ (j : ℕ). cond (eqb i j) 1 0) n ≡ cond (ltb i n) 1 0
below_once i zero = grind (arith, nat_tests)
below_once i (suc n) = let e = below_once i n in grind (arith, nat_tests)

-- of what is ahead two parts
pub shown_once : (t : Text) → Sound t → (p : Position) → exists t p ≡ true → (front hidden back : List ℕ) → ahead t p ≡ front ++ (hidden ++ back) → EachOnce t (front ++ back)
shown_once t sound p here front hidden back e i =
    let f : ℕ → ℕ = λ j. cond (eqb i j) 1 0 in
    omega (arith, sum_by-append f front back, sum_by-append f front (hidden ++ back), sum_by-append f hidden back, ap (sum_by f) e, ahead_once t sound p here f, below_once i (length t.glyphs))
