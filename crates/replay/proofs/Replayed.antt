-- Lists that are paired with what is said of them, one more after another, and counts of verdicts
use Rattle.std.proofs.Common.{ℕ, ◌≡◌, ◌+◌, min, List, [], ◌∷◌, ◌++◌, Bool, true, false, Ok, Result, length-append, arith, refl, if◌then◌else◌}
use Rattle.std.specs.Borrow.{Bor}
use Rattle.std.specs.List.{AllZip}
use Rattle.replay.specs.Replaying.{Judged, differing}

pub one_more : {A B : Type 0} (Of : A → B → Type 0) (items : List A) (said : List B) (item : A) (s : B) → AllZip Of items said → Of item s → AllZip Of (items ++ (item ∷ [])) (said ++ (s ∷ []))
one_more Of [] [] item s so is = (is, tt)
one_more Of [] (m ∷ said) item s so is = absurd so
one_more Of (w ∷ items) [] item s so is = absurd so
one_more Of (w ∷ items) (m ∷ said) item s so is = (so.0, one_more Of items said item s so.1 is)

agreeing_more : (verdicts : List Bool) → differing (verdicts ++ (true ∷ [])) ≡ differing verdicts
agreeing_more [] = refl
agreeing_more (true ∷ verdicts) = omega (arith, agreeing_more verdicts)
agreeing_more (false ∷ verdicts) = omega (arith, agreeing_more verdicts)

differing_more : (verdicts : List Bool) → differing (verdicts ++ (false ∷ [])) ≡ differing verdicts + 1
differing_more [] = refl
differing_more (true ∷ verdicts) = omega (arith, differing_more verdicts)
differing_more (false ∷ verdicts) = omega (arith, differing_more verdicts)

-- one line more, counted as `Tally::with` counts it
pub judged_more : {H E : Type 0} (says : H → Bor (List ℕ) → Result Bool E → Type 0) (most : ℕ) (asked : List (Bor (List ℕ))) {count differ : ℕ} (line : Bor (List ℕ)) (agrees : Bool) (heap : H) {count_now differ_now : ℕ} → Judged says most asked count differ → says heap line (Ok agrees) → count_now ≡ min (count + 1) most → differ_now ≡ (if agrees then differ else min (differ + 1) most) → Judged says most (asked ++ (line ∷ [])) count_now differ_now
judged_more says most asked line true heap so said c d = (so.0 ++ (true ∷ []), one_more _ _ so.0 line true so.1 (heap, said), omega (arith, so.2, c, length-append so.0 (true ∷ [])), omega (arith, so.3, d, agreeing_more so.0))
judged_more says most asked line false heap so said c d = (so.0 ++ (false ∷ []), one_more _ _ so.0 line false so.1 (heap, said), omega (arith, so.2, c, length-append so.0 (false ∷ [])), omega (arith, so.3, d, differing_more so.0))
