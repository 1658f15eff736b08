-- What reversing each longest run does, place by place
use Rattle.std.proofs.Common.{◌≡◌, ℕ, zero, suc, ◌+◌, ◌-◌, ◌<◌, ◌≤◌, Bool, true, false, List, [], ◌∷◌, ◌++◌, reverse, length, get_or, take, drop, sym, refl, ap, ◌∙◌, append_assoc, arith, length-drop}
use lib.ListN.{length-reverse}
use Rattle.std.specs.List.{between, AllByRecursion as All}
use Rattle.std.proofs.lemmas.List.Edits.{split_between, length-between, get_or-between}
use Rattle.std.proofs.ByRecursion.{All-from_get_or}
use Rattle.std.proofs.lemmas.List.{take_more, drop_more, take-append-drop, get_or-drop, get_or_append_left, get_or-append_right, get_or-reverse, get_or_at, length-take-le}
use Rattle.std.proofs.lemmas.List.Sorted.{length_permutation}
use Rattle.visual_order.specs.VisualOrder.{turned}
use Rattle.visual_order.specs.Laws.{Longest, RunLaw}
use Rattle.visual_order.proofs.Shuffles.{turned_shuffled}
use Rattle.visual_order.proofs.Turned.{Stops, turned_run, turned_stops, turned_split}

module _ (h : ℕ → Bool) where
  turned_length : (xs : List ℕ) → length (turned h [] xs) ≡ length xs
  turned_length xs = length_permutation xs (turned h [] xs) (turned_shuffled h [] xs)

  -- what stands before a place where a run begins, if it is not the first, ends with an element outside of any run
  turned_front : (line rest : List ℕ) (a : ℕ) → a ≤ length line → (0 < a → h (get_or line (a - 1) 0) ≡ false) → turned h [] (take a line ++ rest) ≡ turned h [] (take a line) ++ turned h [] rest
  turned_front line rest zero l e = refl
  turned_front line rest (suc a) l e =
      let w = get_or line a 0 in
      let last : a ≡ suc a - 1 = omega arith in
      let low : h w ≡ false = ap (λ (n : ℕ). h (get_or line n 0)) last ∙ e (omega arith) in
      let next : suc a ≡ a + 1 = omega arith in
      let is : take (suc a) line ≡ take a line ++ (w ∷ []) = ap (λ (n : ℕ). take n line) next ∙ take_more line a 0 (omega arith) in
      let whole : turned h [] (take (suc a) line ++ rest) ≡ turned h [] (take a line) ++ (w ∷ turned h [] rest) = ap (λ (t : List ℕ). turned h [] (t ++ rest)) is ∙ ap (turned h []) (append_assoc (take a line) (w ∷ []) rest) ∙ turned_split h (take a line) [] rest w low in
      let front : turned h [] (take (suc a) line) ≡ turned h [] (take a line) ++ (w ∷ []) = ap (turned h []) is ∙ turned_split h (take a line) [] [] w low in
      whole ∙ sym (append_assoc (turned h [] (take a line)) (w ∷ []) (turned h [] rest)) ∙ ap (λ (t : List ℕ). t ++ turned h [] rest) (sym front)

  module _ (line : List ℕ) where
    kept : (p : ℕ) → p < length line → h (get_or line p 0) ≡ false → get_or (turned h [] line) p 0 ≡ get_or line p 0
    kept p l e =
        let x = get_or line p 0 in
        let is : turned h [] line ≡ turned h [] (take p line) ++ (x ∷ turned h [] (drop (p + 1) line)) = ap (turned h []) (sym (take-append-drop p line) ∙ ap (λ (t : List ℕ). take p line ++ t) (drop_more line p 0 l)) ∙ turned_split h (take p line) [] (drop (p + 1) line) x e in
        ap (λ (t : List ℕ). get_or t p 0) is ∙ get_or_at (turned h [] (take p line)) x (turned h [] (drop (p + 1) line)) 0 p (turned_length (take p line) ∙ length-take-le p line (omega arith))

    mirrored : (a b p : ℕ) → Longest h line a b → a ≤ p → p < b → get_or (turned h [] line) p 0 ≡ get_or line (a + b - 1 - p) 0
    mirrored a b p (ab, bl, inside, before, behind) ap' pb =
        let front = take a line in
        let s = between a b line in
        let z = drop b line in
        let run : All (λ x. h x ≡ true) s = All-from_get_or (λ x. h x ≡ true) s 0 (λ i l. let n : a + i < b = omega (arith, length-between line a b bl) in ap h (get_or-between line a b i 0 n) ∙ inside (a + i) (omega arith) n) in
        let zs : Stops h z = λ l. ap h (get_or-drop b line 0 0 ∙ ap (λ (k : ℕ). get_or line k 0) (omega arith)) ∙ behind (omega (arith, length-drop b line)) in
        let is : turned h [] line ≡ turned h [] front ++ (reverse s ++ turned h [] z) = ap (turned h []) (split_between line a b (omega arith)) ∙ turned_front line (s ++ z) a (omega arith) before ∙ ap (λ (t : List ℕ). turned h [] front ++ t) (turned_run h s [] z run ∙ turned_stops h (reverse s) z zs) in
        let front_is : length (turned h [] front) ≡ a = turned_length front ∙ length-take-le a line (omega arith) in
        let s_is : length s ≡ b - a = length-between line a b bl in
        ap (λ (t : List ℕ). get_or t p 0) is
        ∙ get_or-append_right (turned h [] front) (reverse s ++ turned h [] z) a p 0 front_is ap'
        ∙ get_or_append_left (reverse s) (turned h [] z) 0 (p - a) (omega (arith, length-reverse s))
        ∙ get_or-reverse s (p - a) 0 (omega arith)
        ∙ get_or-between line a b (length s - 1 - (p - a)) 0 (omega arith)
        ∙ ap (λ (k : ℕ). get_or line k 0) (omega arith)

pub run_law : RunLaw
run_law = λ high line. (turned_length high line, mirrored high line, kept high line)
