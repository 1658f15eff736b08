-- What `turned` does to a run, and to what stands before and behind an element outside of any run
use Rattle.std.proofs.Common.{◌≡◌, ℕ, ◌+◌, ◌-◌, ◌<◌, ◌≤◌, Bool, true, false, List, [], ◌∷◌, ◌++◌, reverse, length, get_or, take, drop, sym, refl, ap, ◌∙◌, append_assoc, append-nil, arith, length-append, length-drop, length-take}
use mathlib.Core.List.{reverse_aux}
use borrow.Rule.Slice.PartMut.{put_mid}
use lib.ListN.{length-reverse}
use Rattle.std.specs.List.{between, AllByRecursion as All}
use Rattle.std.proofs.lemmas.List.{take_at, drop_at, take_all, drop_all, drop-drop, take-append-drop, get_or-drop}
use Rattle.std.proofs.lemmas.List.Edits.{length-between, get_or-between}
use Rattle.std.proofs.ByRecursion.{All-from_get_or}
use Rattle.std.proofs.lemmas.Slice.{drop-put_mid}
use Rattle.visual_order.specs.VisualOrder.{turned}

-- the list is empty, or its first element is outside of any run
abbrev pub Stops : (ℕ → Bool) → List ℕ → Type 0
Stops h ys = 0 < length ys → h (get_or ys 0 0) ≡ false

module _ (h : ℕ → Bool) where
  turned_true : (x : ℕ) (run xs : List ℕ) → h x ≡ true → turned h run (x ∷ xs) ≡ turned h (x ∷ run) xs
  turned_true x run xs e = rw (e, turned)

  turned_false : (x : ℕ) (run xs : List ℕ) → h x ≡ false → turned h run (x ∷ xs) ≡ run ++ (x ∷ turned h [] xs)
  turned_false x run xs e = rw (e, turned)

  pub turned_run : (s run ys : List ℕ) → All (λ x. h x ≡ true) s → turned h run (s ++ ys) ≡ turned h (reverse_aux s run) ys
  turned_run [] run ys a = refl
  turned_run (x ∷ s) run ys a = turned_true x run (s ++ ys) a.0 ∙ turned_run s (x ∷ run) ys a.1

  -- a list that is one run is reversed
  pub turned_all : (s : List ℕ) → All (λ x. h x ≡ true) s → turned h [] s ≡ reverse s
  turned_all s a = ap (turned h []) (sym (append-nil s)) ∙ turned_run s [] [] a

  pub turned_stops : (run ys : List ℕ) → Stops h ys → turned h run ys ≡ run ++ turned h [] ys
  turned_stops run [] e = sym (append-nil run)
  turned_stops run (x ∷ xs) e =
      let low : h x ≡ false = e (omega arith) in
      turned_false x run xs low ∙ ap (λ (t : List ℕ). run ++ t) (sym (turned_false x [] xs low))

  split_step : (x z : ℕ) (run a b : List ℕ) → (k : Bool) → h x ≡ k → turned h (x ∷ run) (a ++ (z ∷ b)) ≡ turned h (x ∷ run) a ++ (z ∷ turned h [] b) → turned h [] (a ++ (z ∷ b)) ≡ turned h [] a ++ (z ∷ turned h [] b) → turned h run (x ∷ (a ++ (z ∷ b))) ≡ turned h run (x ∷ a) ++ (z ∷ turned h [] b)
  split_step x z run a b true e in_run after =
      turned_true x run (a ++ (z ∷ b)) e ∙ in_run ∙ ap (λ (t : List ℕ). t ++ (z ∷ turned h [] b)) (sym (turned_true x run a e))
  split_step x z run a b false e in_run after =
      turned_false x run (a ++ (z ∷ b)) e
      ∙ ap (λ (t : List ℕ). run ++ (x ∷ t)) after
      ∙ sym (append_assoc run (x ∷ turned h [] a) (z ∷ turned h [] b))
      ∙ ap (λ (t : List ℕ). t ++ (z ∷ turned h [] b)) (sym (turned_false x run a e))

  -- what stands before an element outside of any run, and what stands behind it, are turned each by itself
  pub turned_split : (a run b : List ℕ) (z : ℕ) → h z ≡ false → turned h run (a ++ (z ∷ b)) ≡ turned h run a ++ (z ∷ turned h [] b)
  turned_split [] run b z e = turned_false z run b e
  turned_split (x ∷ a) run b z e = split_step x z run a b (h x) refl (turned_split a (x ∷ run) b z e) (turned_split a [] b z e)

  -- the part up to n, and the element behind it, which is outside of any run, are done
  passed : (p z : List ℕ) (n : ℕ) → length p ≡ n → Stops h z → take (n + 1) (p ++ z) ++ turned h [] (drop (n + 1) (p ++ z)) ≡ p ++ turned h [] z
  passed p [] n e s =
      let l : length p ≤ n + 1 = omega arith in
      rw append-nil (rw (take_all (n + 1) p l, drop_all (n + 1) p l) (append-nil p))
  passed p (x ∷ z) n e s =
      let l : length (p ++ (x ∷ [])) ≡ n + 1 = simp length-append (omega arith) in
      let low : h x ≡ false = s (omega arith) in
      rw (← append_assoc p (x ∷ []) z) (rw (take_at (p ++ (x ∷ [])) z (n + 1) l, drop_at (p ++ (x ∷ [])) z (n + 1) l, append_assoc p (x ∷ []) (turned h [] z)) (ap (λ (t : List ℕ). p ++ t) (sym (turned_false x [] z low))))

  -- a turn of the loop that reverses the runs one after another, at a run from `start` to `end`
  pub reversed_run : (o after : List ℕ) (start end : ℕ) → start ≤ end → end ≤ length o → ((p : ℕ) → start ≤ p → p < end → h (get_or o p 0) ≡ true) → (end < length o → h (get_or o end 0) ≡ false) → after ≡ put_mid start (end - start) o (reverse (between start end o)) → take (end + 1) after ++ turned h [] (drop (end + 1) after) ≡ take start o ++ turned h [] (drop start o)
  reversed_run o after start end se el inside stops is =
      let a = take start o in
      let s = between start end o in
      let z = drop end o in
      let rest_is : drop start o ≡ s ++ z = sym (take-append-drop (end - start) (drop start o)) ∙ ap (λ (t : List ℕ). s ++ t) (drop-drop (end - start) start o ∙ ap (λ (k : ℕ). drop k o) (omega arith)) in
      let post_is : drop (end - start) (drop start o) ≡ z = drop-drop (end - start) start o ∙ ap (λ (k : ℕ). drop k o) (omega arith) in
      let after_is : after ≡ (a ++ reverse s) ++ z = is ∙ ap (λ (t : List ℕ). a ++ (reverse s ++ t)) post_is ∙ sym (append_assoc a (reverse s) z) in
      let run : All (λ x. h x ≡ true) s = All-from_get_or (λ x. h x ≡ true) s 0 (λ i l. let b : start + i < end = omega (arith, length-between o start end el) in ap h (get_or-between o start end i 0 b) ∙ inside (start + i) (omega arith) b) in
      let zs : Stops h z = λ l. ap h (get_or-drop end o 0 0 ∙ ap (λ (k : ℕ). get_or o k 0) (omega arith)) ∙ stops (omega (arith, length-drop end o)) in
      let len : length (a ++ reverse s) ≡ end = omega (arith, length-append a (reverse s), length-reverse s, length-take start o, length-between o start end el) in
      let left : take (end + 1) after ++ turned h [] (drop (end + 1) after) ≡ (a ++ reverse s) ++ turned h [] z = ap (λ (t : List ℕ). take (end + 1) t ++ turned h [] (drop (end + 1) t)) after_is ∙ passed (a ++ reverse s) z end len zs in
      let right : turned h [] (drop start o) ≡ reverse s ++ turned h [] z = ap (turned h []) rest_is ∙ turned_run s [] z run ∙ turned_stops (reverse s) z zs in
      left ∙ append_assoc a (reverse s) (turned h [] z) ∙ ap (λ (t : List ℕ). a ++ t) (sym right)

  pub all_passed : (o : List ℕ) (n : ℕ) → length o ≤ n → o ≡ take n o ++ turned h [] (drop n o)
  all_passed o n l = rw (take_all n o l, drop_all n o l) (sym (append-nil o))

-- a write to the places from a to a + k leaves those beyond as they were
pub put_mid_beyond : (a k : ℕ) (xs ys : List ℕ) (p : ℕ) → a ≤ length xs → length ys ≡ k → a + k ≤ p → get_or (put_mid a k xs ys) p 0 ≡ get_or xs p 0
put_mid_beyond a k xs ys p al len h =
    ap (λ (n : ℕ). get_or (put_mid a k xs ys) n 0) (omega arith)
    ∙ sym (get_or-drop p (put_mid a k xs ys) 0 0)
    ∙ ap (λ (l : List ℕ). get_or l 0 0) (drop-put_mid a k xs ys p h al len)
    ∙ get_or-drop p xs 0 0
    ∙ ap (λ (n : ℕ). get_or xs n 0) (omega arith)
