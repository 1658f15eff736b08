-- A round moves elements only inside of its runs, so a lower level is still reached at the places where it was
use Rattle.std.proofs.Common.{◌≡◌, ℕ, zero, suc, ◌<◌, ◌≤◌, Bool, true, false, List, [], ◌∷◌, ◌++◌, map, length, get_or, sym, refl, ap, ◌∙◌, append-nil, arith}
use Rattle.std.specs.List.{range_with_len, AllByRecursion as All}
use Rattle.std.proofs.lemmas.List.FromFn.{length-range_with_len, get_or-range_with_len}
use Rattle.std.proofs.lemmas.List.{get_or-map, map-append}
use Rattle.std.proofs.lemmas.List.Sorted.{length_permutation}
use Rattle.std.proofs.lemmas.Bool.{leb-true, le-leb}
use Rattle.visual_order.specs.VisualOrder.{turned, rounds, high}
use Rattle.visual_order.proofs.Shuffles.{rounds_shuffled}

-- g is a test that all pass that pass h
module _ (h g : ℕ → Bool) (wider : (x : ℕ) → h x ≡ true → g x ≡ true) where
  -- in a run an element can stand first or last, as far as g can tell
  slides : (x : ℕ) (run xs : List ℕ) → g x ≡ true → All (λ y. g y ≡ true) run → map g (x ∷ (run ++ xs)) ≡ map g (run ++ (x ∷ xs))
  slides x [] xs e all = refl
  slides x (y ∷ run) xs e all =
      ap (λ (b : Bool). b ∷ (g y ∷ map g (run ++ xs))) (e ∙ sym all.0)
      ∙ ap (λ (b : Bool). g y ∷ (b ∷ map g (run ++ xs))) (all.0 ∙ sym e)
      ∙ ap (λ (bs : List Bool). g y ∷ bs) (slides x run xs e all.1)

  step : (x : ℕ) (run xs : List ℕ) (k : Bool) → h x ≡ k → All (λ y. g y ≡ true) run → (g x ≡ true → map g (turned h (x ∷ run) xs) ≡ map g (x ∷ (run ++ xs))) → map g (turned h [] xs) ≡ map g xs → map g (turned h run (x ∷ xs)) ≡ map g (run ++ (x ∷ xs))
  step x run xs true e all in_run after = rw (e, turned) (in_run (wider x e) ∙ slides x run xs (wider x e) all)
  step x run xs false e all in_run after =
      rw (e, turned) (map-append g run (x ∷ turned h [] xs) ∙ ap (λ (bs : List Bool). map g run ++ (g x ∷ bs)) after ∙ sym (map-append g run (x ∷ xs)))

  turned_in_place : (run xs : List ℕ) → All (λ y. g y ≡ true) run → map g (turned h run xs) ≡ map g (run ++ xs)
  turned_in_place run [] all = ap (map g) (sym (append-nil run))
  turned_in_place run (x ∷ xs) all = step x run xs (h x) refl all (λ e. turned_in_place (x ∷ run) xs (e, all)) (turned_in_place [] xs tt)

module _ (levels : List ℕ) (k : ℕ) where
  wider_high : (low : ℕ) → k ≤ low → (x : ℕ) → high levels low x ≡ true → high levels k x ≡ true
  wider_high low l x e = le-leb k (get_or levels x 0) (omega (arith, leb-true low (get_or levels x 0) e))

  rounds_in_place : (low count : ℕ) (line : List ℕ) → k ≤ low → map (high levels k) (rounds levels low count line) ≡ map (high levels k) line
  rounds_in_place low zero line l = refl
  rounds_in_place low (suc count) line l =
      turned_in_place (high levels low) (high levels k) (wider_high low l) [] (rounds levels (suc low) count line) tt
      ∙ rounds_in_place (suc low) count line (omega arith)

  -- after the rounds from low on, the places at the level k or higher are those of the elements
  pub high_in_place : (low count n : ℕ) (line : List ℕ) → k ≤ low → line ≡ rounds levels low count (range_with_len 0 n) → (p : ℕ) → p < length line → high levels k (get_or line p 0) ≡ high levels k p
  high_in_place low count n line l is p pl =
      let long : length line ≡ n = ap length is ∙ length_permutation (range_with_len 0 n) (rounds levels low count (range_with_len 0 n)) (rounds_shuffled levels low count (range_with_len 0 n)) ∙ length-range_with_len 0 n in
      let pn : p < n = omega arith in
      let pc : p < length (range_with_len 0 n) = omega (arith, length-range_with_len 0 n) in
      sym (get_or-map (high levels k) line p 0 false pl)
      ∙ ap (λ (bs : List Bool). get_or bs p false) (ap (map (high levels k)) is ∙ rounds_in_place low count (range_with_len 0 n) l)
      ∙ get_or-map (high levels k) (range_with_len 0 n) p 0 false pc
      ∙ ap (high levels k) (get_or-range_with_len 0 n p 0 pn ∙ omega arith)
