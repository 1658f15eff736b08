-- The pair law: the lowest level between two elements says which stands first
use Rattle.std.proofs.Common.{◌≡◌, ℕ, zero, suc, ◌+◌, ◌-◌, ◌%◌, ◌<◌, ◌≤◌, Bool, true, false, ◌⊎◌, List, [], ◌∷◌, ◌++◌, reverse, length, get_or, take, drop, sym, refl, ap, ◌∙◌, subst, inl, inr, arith, length-drop, length-take}
use Rattle.std.specs.List.{ContainsAt as Has, AllByRecursion as All}
use Rattle.std.proofs.lemmas.List.{take-append-drop, drop_more, get_or-drop, get_or-take}
use Rattle.std.proofs.ByRecursion.{All-get_or, has_get_or, all_shuffled, has_shuffled}
use Rattle.std.proofs.lemmas.Bool.{lt-leb, leb-true, leb-false, cases_lt, cases_order}
use Rattle.visual_order.specs.VisualOrder.{turned, rounds, high}
use Rattle.visual_order.specs.Laws.{Before}
use Rattle.visual_order.proofs.Befores.{before_left, before_right, before_cons, before_across, before_first, before_reverse, has_cons, has_first}
use Rattle.visual_order.proofs.Shuffles.{rounds_shuffled}
use Rattle.visual_order.proofs.Turned.{turned_all, turned_split}

pub find_low : (h : ℕ → Bool) (line : List ℕ) → All (λ x. h x ≡ true) line ⊎ ((c : ℕ) × (c < length line) × (h (get_or line c 0) ≡ false))
find_low h [] = inl tt
find_low h (x ∷ line) = go (h x) refl (find_low h line)
  where
    go : (k : Bool) → h x ≡ k → All (λ x. h x ≡ true) line ⊎ ((c : ℕ) × (c < length line) × (h (get_or line c 0) ≡ false)) → All (λ x. h x ≡ true) (x ∷ line) ⊎ ((c : ℕ) × (c < length (x ∷ line)) × (h (get_or (x ∷ line) c 0) ≡ false))
    go true e (inl all) = inl (e, all)
    go true e (inr (c, l, f)) = inr (suc c, omega arith, f)
    go false e (inl all) = inr (0, omega arith, e)
    go false e (inr r) = inr (0, omega arith, e)

module _ (levels : List ℕ) where
  rounds_split : (low n : ℕ) (a b : List ℕ) (z : ℕ) → get_or levels z 0 < low → rounds levels low n (a ++ (z ∷ b)) ≡ rounds levels low n a ++ (z ∷ rounds levels low n b)
  rounds_split low zero a b z l = refl
  rounds_split low (suc n) a b z l =
      ap (turned (high levels low) []) (rounds_split (suc low) n a b z (omega arith))
      ∙ turned_split (high levels low) (rounds levels (suc low) n a) [] (rounds levels (suc low) n b) z (lt-leb low (get_or levels z 0) l)

  -- an element below the level low parts the line
  rounds_at : (low n : ℕ) (line : List ℕ) (c : ℕ) → c < length line → get_or levels (get_or line c 0) 0 < low → rounds levels low n line ≡ rounds levels low n (take c line) ++ (get_or line c 0 ∷ rounds levels low n (drop (c + 1) line))
  rounds_at low n line c cl l =
      ap (rounds levels low n) (sym (take-append-drop c line) ∙ ap (λ (t : List ℕ). take c line ++ t) (drop_more line c 0 cl))
      ∙ rounds_split low n (take c line) (drop (c + 1) line) (get_or line c 0) l

  -- i and j stand in the line, in this order, and m is the lowest level from the one to the other
  pub record Segment (i j m : ℕ) (line : List ℕ) : Type 0 where
    pub from : ℕ
    pub to : ℕ
    pub at : ℕ
    pub order : from < to
    pub within : to < length line
    pub from_is : get_or line from 0 ≡ i
    pub to_is : get_or line to 0 ≡ j
    pub least : (k : ℕ) → from ≤ k → k ≤ to → m ≤ get_or levels (get_or line k 0) 0
    pub at_from : from ≤ at
    pub at_to : at ≤ to
    pub at_is : get_or levels (get_or line at 0) 0 ≡ m

-- what t tells of the order
abbrev pub Told : ℕ → ℕ → ℕ → List ℕ → Type 0
Told i j t order = (t % 2 ≡ 0 → Before order i j) × (t % 2 ≡ 1 → Before order j i)

module _ (levels : List ℕ) (i j m : ℕ) where
  segment_drop : (line : List ℕ) (c : ℕ) (s : Segment levels i j m line) → c < s.from → Segment levels i j m (drop (c + 1) line)
  segment_drop line c s l =
      let back : (k : ℕ) → s.from ≤ k → get_or (drop (c + 1) line) (k - (c + 1)) 0 ≡ get_or line k 0 = λ k h. get_or-drop (c + 1) line (k - (c + 1)) 0 ∙ ap (λ (n : ℕ). get_or line n 0) (omega arith) in
      record {
        from = s.from - (c + 1);
        to = s.to - (c + 1);
        at = s.at - (c + 1);
        order = omega arith;
        within = omega (arith, length-drop (c + 1) line);
        from_is = back s.from (omega arith) ∙ s.from_is;
        to_is = back s.to (omega arith) ∙ s.to_is;
        least = λ k lo hi. subst (λ (x : ℕ). m ≤ get_or levels x 0) (sym (get_or-drop (c + 1) line k 0)) (s.least (c + 1 + k) (omega arith) (omega arith));
        at_from = omega arith;
        at_to = omega arith;
        at_is = ap (λ (x : ℕ). get_or levels x 0) (back s.at s.at_from) ∙ s.at_is;
      }

  segment_take : (line : List ℕ) (c : ℕ) (s : Segment levels i j m line) → s.to < c → Segment levels i j m (take c line)
  segment_take line c s l =
      let same : (k : ℕ) → k ≤ s.to → get_or (take c line) k 0 ≡ get_or line k 0 = λ k h. get_or-take c line k 0 (omega arith) in
      record {
        from = s.from;
        to = s.to;
        at = s.at;
        order = s.order;
        within = omega (arith, length-take c line);
        from_is = same s.from (omega arith) ∙ s.from_is;
        to_is = same s.to (omega arith) ∙ s.to_is;
        least = λ k lo hi. subst (λ (x : ℕ). m ≤ get_or levels x 0) (sym (same k hi)) (s.least k lo hi);
        at_from = s.at_from;
        at_to = s.at_to;
        at_is = ap (λ (x : ℕ). get_or levels x 0) (same s.at s.at_to) ∙ s.at_is;
      }

  told_left : (t : ℕ) (xs ys : List ℕ) → Told i j t xs → Told i j t (xs ++ ys)
  told_left t xs ys (e, o) = (λ h. before_left xs ys i j (e h), λ h. before_left xs ys j i (o h))

  told_right : (t z : ℕ) (xs ys : List ℕ) → Told i j t ys → Told i j t (xs ++ (z ∷ ys))
  told_right t z xs ys (e, o) =
      (λ h. before_right xs (z ∷ ys) i j (before_cons z ys i j (e h)), λ h. before_right xs (z ∷ ys) j i (before_cons z ys j i (o h)))

  -- a whole line at the level low or higher is reversed
  told_reversed : (low : ℕ) (xs : List ℕ) → low ≤ m → Told i j (suc m - suc low) xs → Told i j (suc m - low) (reverse xs)
  told_reversed low xs l (e, o) =
      (λ h. before_reverse xs j i (o (omega arith)), λ h. before_reverse xs i j (e (omega arith)))

  module _ (low count : ℕ) where
    -- z, at the place c, lies between i and j, or is one of them
    told_parted : (line : List ℕ) (c : ℕ) (s : Segment levels i j m line) → s.from ≤ c → c ≤ s.to → get_or levels (get_or line c 0) 0 < low → Before (rounds levels low count line) i j
    told_parted line c s fc ct l = subst (λ (o : List ℕ). Before o i j) (sym (rounds_at levels low count line c (omega arith) l)) (by (cases_order s.from c) (cases_order c s.to))
      where
        xs : List ℕ
        xs = rounds levels low count (take c line)

        ys : List ℕ
        ys = rounds levels low count (drop (c + 1) line)

        z : ℕ
        z = get_or line c 0

        has_i : s.from < c → Has xs i
        has_i h = has_shuffled (take c line) xs i (rounds_shuffled levels low count (take c line)) (subst (λ (x : ℕ). Has (take c line) x) (get_or-take c line s.from 0 h ∙ s.from_is) (has_get_or (take c line) s.from 0 (omega (arith, length-take c line))))

        has_j : c < s.to → Has ys j
        has_j h = has_shuffled (drop (c + 1) line) ys j (rounds_shuffled levels low count (drop (c + 1) line)) (subst (λ (x : ℕ). Has (drop (c + 1) line) x) (get_or-drop (c + 1) line (s.to - (c + 1)) 0 ∙ ap (λ (k : ℕ). get_or line k 0) (omega arith) ∙ s.to_is) (has_get_or (drop (c + 1) line) (s.to - (c + 1)) 0 (omega (arith, length-drop (c + 1) line))))

        by : (s.from ≡ c) ⊎ ((s.from < c) ⊎ (c < s.from)) → (c ≡ s.to) ⊎ ((c < s.to) ⊎ (s.to < c)) → Before (xs ++ (z ∷ ys)) i j
        by (inl e) (inl f) = absurd (omega arith)
        by (inl e) (inr (inl f)) = before_right xs (z ∷ ys) i j (subst (λ (x : ℕ). Before (z ∷ ys) x j) (ap (λ (k : ℕ). get_or line k 0) (sym e) ∙ s.from_is) (before_first z ys j (has_j f)))
        by (inl e) (inr (inr f)) = absurd (omega arith)
        by (inr (inl e)) (inl f) = before_across xs (z ∷ ys) i j (has_i e) (subst (λ (x : ℕ). Has (z ∷ ys) x) (ap (λ (k : ℕ). get_or line k 0) f ∙ s.to_is) (has_first z ys))
        by (inr (inl e)) (inr (inl f)) = before_across xs (z ∷ ys) i j (has_i e) (has_cons z ys j (has_j f))
        by (inr (inl e)) (inr (inr f)) = absurd (omega arith)
        by (inr (inr e)) q = absurd (omega arith)

  module _ (low count : ℕ) (higher : (line : List ℕ) → Segment levels i j m line → Told i j (suc m - suc low) (rounds levels (suc low) count line)) where
    told_high : (line : List ℕ) → Segment levels i j m line → All (λ x. high levels low x ≡ true) line → Told i j (suc m - low) (rounds levels low (suc count) line)
    told_high line s all =
        let inner = rounds levels (suc low) count line in
        let still = all_shuffled (λ x. high levels low x ≡ true) line inner (rounds_shuffled levels (suc low) count line) all in
        let at_low = leb-true low (get_or levels (get_or line s.at 0) 0) (All-get_or (λ x. high levels low x ≡ true) line s.at 0 (omega (arith, s.within, s.at_to)) all) in
        subst (λ (o : List ℕ). Told i j (suc m - low) o) (sym (turned_all (high levels low) inner still)) (told_reversed low inner (omega (arith, s.at_is)) (higher line s))

    -- shorter lines are known
    told_low : (f : ℕ) → ((line : List ℕ) → length line ≤ f → Segment levels i j m line → Told i j (suc m - low) (rounds levels low (suc count) line)) → (line : List ℕ) → length line ≤ suc f → (s : Segment levels i j m line) → (c : ℕ) → c < length line → get_or levels (get_or line c 0) 0 < low → (c < s.from) ⊎ (s.from ≤ c) → (s.to < c) ⊎ (c ≤ s.to) → Told i j (suc m - low) (rounds levels low (suc count) line)
    told_low f shorter line len s c cl l (inl h) q =
        subst (λ (o : List ℕ). Told i j (suc m - low) o) (sym (rounds_at levels low (suc count) line c cl l)) (told_right (suc m - low) (get_or line c 0) (rounds levels low (suc count) (take c line)) (rounds levels low (suc count) (drop (c + 1) line)) (shorter (drop (c + 1) line) (omega (arith, length-drop (c + 1) line)) (segment_drop line c s h)))
    told_low f shorter line len s c cl l (inr g) (inl h) =
        subst (λ (o : List ℕ). Told i j (suc m - low) o) (sym (rounds_at levels low (suc count) line c cl l)) (told_left (suc m - low) (rounds levels low (suc count) (take c line)) (get_or line c 0 ∷ rounds levels low (suc count) (drop (c + 1) line)) (shorter (take c line) (omega (arith, length-take c line)) (segment_take line c s h)))
    told_low f shorter line len s c cl l (inr g) (inr h) =
        (λ e. told_parted low (suc count) line c s g h l, λ e. absurd (omega (arith, s.least c g h)))

    told_by : (f : ℕ) → ((line : List ℕ) → length line ≤ f → Segment levels i j m line → Told i j (suc m - low) (rounds levels low (suc count) line)) → (line : List ℕ) → length line ≤ suc f → Segment levels i j m line → All (λ x. high levels low x ≡ true) line ⊎ ((c : ℕ) × (c < length line) × (high levels low (get_or line c 0) ≡ false)) → Told i j (suc m - low) (rounds levels low (suc count) line)
    told_by f shorter line len s (inl all) = told_high line s all
    told_by f shorter line len s (inr (c, cl, e)) = told_low f shorter line len s c cl (leb-false low (get_or levels (get_or line c 0) 0) e) (cases_lt c s.from) (cases_lt s.to c)

    told_fuel : (f : ℕ) (line : List ℕ) → length line ≤ f → Segment levels i j m line → Told i j (suc m - low) (rounds levels low (suc count) line)
    told_fuel zero line len s = absurd (omega (arith, s.within))
    told_fuel (suc f) line len s = told_by f (told_fuel f) line len s (find_low (high levels low) line)

  pub told : (count low : ℕ) → m < low + count → (line : List ℕ) → Segment levels i j m line → Told i j (suc m - low) (rounds levels low count line)
  told zero low lt line s = (λ e. (s.from, s.to, s.order, s.within, s.from_is, s.to_is), λ e. absurd (omega arith))
  told (suc count) low lt line s = told_fuel low count (told count (suc low) (omega arith)) (length line) line (omega arith) s
