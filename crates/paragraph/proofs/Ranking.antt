-- Reading order and what is ahead, by ranks
use Rattle.std.proofs.Common.{◌≡◌, ℕ, zero, suc, ◌+◌, ◌-◌, ◌<◌, ◌≤◌, Bool, true, false, cond, ◌&&◌, eqb, ltb, leb, ◌⊎◌, List, [], ◌++◌, reverse, length, get_or, take, drop, sym, refl, ap, ◌∙◌, subst, inl, inr, add-zero, zero-add, arith}
use Rattle.std.specs.List.{range_with_len}
use Rattle.std.specs.List.Sorted.{IsPermutation}
use Rattle.std.proofs.lemmas.List.FromFn.{length-range_with_len, get_or-range_with_len}
use Rattle.std.proofs.lemmas.List.{append_assoc, length-append, length-reverse, get_or_append_left, get_or-append_right, get_or-reverse, drop-append-le, drop-drop, drop_at, drop_all, length-drop}
use Rattle.std.proofs.lemmas.List.Sorted.{IsPermutation-refl}
use Rattle.std.proofs.lemmas.Bool.{and_parts, cases_lt, eq-eqb, ne_eqb, eqb-true, lt-ltb, le-ltb, ltb-true, leb-true}
use Rattle.paragraph.specs.declared.place.Place.{Place}
use Rattle.paragraph.specs.declared.place.Position.{Position}
use Rattle.paragraph.specs.declared.direction.Direction.{Direction}
use Rattle.paragraph.specs.declared.span.Span.{Span}
use Rattle.paragraph.specs.Text.{Text, Sound, span_at, congruent}
use Rattle.paragraph.specs.Reading.{edge, between, whole, glyphs_of_word, place_in, exists, ahead_in, boundary, in_reading, held, reading_from, reading, ahead_from, ahead}
use Rattle.paragraph.specs.Ranks.{start_of, is_congruent, glyph_rank, rank}
use Rattle.paragraph.proofs.Growth.{spans_within, span_ends_within, starts_upto, starts_first, starts_end, starts_within, low_edge, high_edge, place_low, place_high}
use Rattle.paragraph.proofs.Countings.{drop_counting, take_counting, counting_more, drop_reverse, shuffled_append, shuffled_reverse}

pub length_in_reading : (d : Direction) (sp : Span) (is : List ℕ) → length (in_reading d sp is) ≡ length is
length_in_reading d sp is =
    elim (congruent d sp.level) as (λ b. length (cond b is (reverse is)) ≡ length is) [ true ↦ refl | false ↦ length-reverse is ]

-- what is ahead of the boundary x in an interval [a, e) that is read up or down
rest : (up : Bool) (a x e : ℕ) → a ≤ x → x ≤ e → cond up (range_with_len x (e - x)) (reverse (range_with_len a (x - a))) ≡ drop (cond up x (a + e - x) - a) (cond up (range_with_len a (e - a)) (reverse (range_with_len a (e - a))))
rest true a x e h k =
    let f : a + (x - a) ≡ x = omega arith in
    let g : e - a - (x - a) ≡ e - x = omega arith in
    sym (drop_counting (x - a) a (e - a) ∙ ap (λ b. range_with_len b (e - a - (x - a))) f ∙ ap (range_with_len x) g)
rest false a x e h k =
    let row = range_with_len a (e - a) in
    let long : length row ≡ e - a = length-range_with_len a (e - a) in
    let left : length row - (a + e - x - a) ≡ x - a = omega arith in
    sym (drop_reverse (a + e - x - a) row (omega arith)
    ∙ ap (λ k. reverse (take k row)) left
    ∙ ap reverse (take_counting (x - a) a (e - a) (omega arith)))

within : (up : Bool) (a x e : ℕ) → a ≤ x → x ≤ e → (a ≤ cond up x (a + e - x)) × (cond up x (a + e - x) ≤ e)
within true a x e h k = (h, k)
within false a x e h k = (omega arith, omega arith)

-- the glyph i stands at its rank
placed : (up : Bool) (a i e : ℕ) → a ≤ i → i < e → get_or (cond up (range_with_len a (e - a)) (reverse (range_with_len a (e - a)))) (cond up i (a + e - 1 - i) - a) 0 ≡ i
placed true a i e h k = get_or-range_with_len a (e - a) (i - a) 0 (omega arith) ∙ omega arith
placed false a i e h k =
    let row = range_with_len a (e - a) in
    let long : length row ≡ e - a = length-range_with_len a (e - a) in
    let at : length row - 1 - (a + e - 1 - i - a) ≡ i - a = omega arith in
    get_or-reverse row (a + e - 1 - i - a) 0 (omega arith)
    ∙ ap (λ k. get_or row k 0) at
    ∙ get_or-range_with_len a (e - a) (i - a) 0 (omega arith)
    ∙ omega arith

module _ (t : Text) (sound : Sound t) where
  -- the span s whole
  pub held_whole : (s : ℕ) → held t (span_at t s) (whole (span_at t s)) ≡ in_reading t.direction (span_at t s) (range_with_len (start_of t s) (start_of t (s + 1) - start_of t s))
  held_whole s =
      let low = low_edge t sound s in
      let high = high_edge t sound s in
      ap (λ a. in_reading t.direction (span_at t s) (range_with_len a (boundary t (span_at t s) (edge (span_at t s).len) - a))) low
      ∙ ap (λ b. in_reading t.direction (span_at t s) (range_with_len (start_of t s) (b - start_of t s))) high

  pub length_whole : (s : ℕ) → length (held t (span_at t s) (whole (span_at t s))) + start_of t s ≡ start_of t (s + 1)
  length_whole s =
      omega (
        arith,
        ap length (held_whole s),
        length_in_reading t.direction (span_at t s) (range_with_len (start_of t s) (start_of t (s + 1) - start_of t s)),
        length-range_with_len (start_of t s) (start_of t (s + 1) - start_of t s),
        starts_upto t sound s (s + 1) (omega arith),
      )

  pub length_reading_from : (s n : ℕ) → length (reading_from t s n) + start_of t s ≡ start_of t (s + n)
  length_reading_from s zero = omega (arith, ap (start_of t) (add-zero s))
  length_reading_from s (suc n) =
      let e : s + 1 + n ≡ s + suc n = omega arith in
      omega (
        arith,
        length-append (held t (span_at t s) (whole (span_at t s))) (reading_from t (s + 1) n),
        length_whole s,
        length_reading_from (s + 1) n,
        ap (start_of t) e,
      )

  pub length_reading : length (reading t) ≡ length t.glyphs
  length_reading =
      omega (arith, length_reading_from 0 (length t.spans), starts_first t sound, starts_end t sound (0 + length t.spans) (omega arith))

  reading_more : (s m n : ℕ) → reading_from t s (m + n) ≡ reading_from t s m ++ reading_from t (s + m) n
  reading_more s zero n =
      ap (reading_from t s) (zero-add n) ∙ ap (λ i. reading_from t i n) (sym (add-zero s))
  reading_more s (suc m) n =
      let e : suc m + n ≡ suc (m + n) = omega arith in
      let f : s + 1 + m ≡ s + suc m = omega arith in
      ap (reading_from t s) e
      ∙ ap (λ l. held t (span_at t s) (whole (span_at t s)) ++ l) (reading_more (s + 1) m n ∙ ap (λ i. reading_from t (s + 1) m ++ reading_from t i n) f)
      ∙ sym (append_assoc (held t (span_at t s) (whole (span_at t s))) (reading_from t (s + 1) m) (reading_from t (s + suc m) n))

  -- each glyph once
  pub reading_from_shuffled : (s n : ℕ) → IsPermutation (range_with_len (start_of t s) (start_of t (s + n) - start_of t s)) (reading_from t s n)
  reading_from_shuffled s zero =
      let e : 0 ≡ start_of t (s + 0) - start_of t s = omega (arith, ap (start_of t) (add-zero s)) in
      subst (λ k. IsPermutation (range_with_len (start_of t s) k) []) e (IsPermutation-refl [])
  reading_from_shuffled s (suc n) =
      let e : s + 1 + n ≡ s + suc n = omega arith in
      let a = start_of t s in
      let m = start_of t (s + 1) - a in
      let k = start_of t (s + 1 + n) - start_of t (s + 1) in
      let up = starts_upto t sound s (s + 1) (omega arith) in
      let up2 = starts_upto t sound (s + 1) (s + 1 + n) (omega arith) in
      let f : m + k ≡ start_of t (s + suc n) - a = omega (arith, ap (start_of t) e) in
      let g : start_of t (s + 1) ≡ a + m = omega arith in
      let parts : range_with_len a m ++ range_with_len (start_of t (s + 1)) k ≡ range_with_len a (start_of t (s + suc n) - a) =
      ap (λ b. range_with_len a m ++ range_with_len b k) g ∙ sym (counting_more a m k) ∙ ap (range_with_len a) f in
      subst (λ l. IsPermutation l (reading_from t s (suc n))) parts
      (shuffled_append (range_with_len a m) (held t (span_at t s) (whole (span_at t s))) (range_with_len (start_of t (s + 1)) k) (reading_from t (s + 1) n)
      (subst (IsPermutation (range_with_len a m)) (sym (held_whole s)) (in_reading_shuffled (range_with_len a m)))
      (reading_from_shuffled (s + 1) n))
    where
      in_reading_shuffled : (is : List ℕ) → IsPermutation is (in_reading t.direction (span_at t s) is)
      in_reading_shuffled is =
          elim (is_congruent t s) as (λ b. IsPermutation is (cond b is (reverse is))) [ true ↦ IsPermutation-refl is | false ↦ shuffled_reverse is ]

  pub reading_shuffled : IsPermutation (range_with_len 0 (length t.glyphs)) (reading t)
  reading_shuffled =
      let e : start_of t (0 + length t.spans) - start_of t 0 ≡ length t.glyphs =
      omega (arith, starts_first t sound, starts_end t sound (0 + length t.spans) (omega arith)) in
      subst (λ k. IsPermutation (range_with_len 0 k) (reading t)) e
      (subst (λ a. IsPermutation (range_with_len a (start_of t (0 + length t.spans) - start_of t 0)) (reading t)) (starts_first t sound)
      (reading_from_shuffled 0 (length t.spans)))

  -- the reading order from the span s on
  pub reading_at_span : (s : ℕ) → s ≤ length t.spans → reading t ≡ reading_from t 0 s ++ reading_from t s (length t.spans - s)
  reading_at_span s h =
      let e : length t.spans ≡ s + (length t.spans - s) = omega arith in
      ap (reading_from t 0) e ∙ reading_more 0 s (length t.spans - s)
      ∙ ap (λ i. reading_from t 0 s ++ reading_from t i (length t.spans - s)) (zero-add s)

  pub length_before_span : (s : ℕ) → length (reading_from t 0 s) ≡ start_of t s
  length_before_span s = omega (arith, length_reading_from 0 s, starts_first t sound, ap (start_of t) (zero-add s))

  -- a span's own part of reading order, and what follows it
  at_span : (s : ℕ) → s < length t.spans → reading t ≡ reading_from t 0 s ++ (held t (span_at t s) (whole (span_at t s)) ++ reading_from t (s + 1) (length t.spans - s - 1))
  at_span s h =
      let e : length t.spans - s ≡ suc (length t.spans - s - 1) = omega arith in
      reading_at_span s (omega arith) ∙ ap (λ n. reading_from t 0 s ++ reading_from t s n) e

  -- what is ahead of a position in its own span
  held_own : (s : ℕ) (a : Place) (up : Bool) → is_congruent t s ≡ up
      → held t (span_at t s) (cond up (between a (edge (span_at t s).len)) (between (edge 0) a))
      ≡ cond up (range_with_len (boundary t (span_at t s) a) (start_of t (s + 1) - boundary t (span_at t s) a)) (reverse (range_with_len (start_of t s) (boundary t (span_at t s) a - start_of t s)))
  held_own s a true e =
      let x = boundary t (span_at t s) a in
      let row = range_with_len x (boundary t (span_at t s) (edge (span_at t s).len) - x) in
      ap (λ b. cond b row (reverse row)) e ∙ ap (λ h. range_with_len x (h - x)) (high_edge t sound s)
  held_own s a false e =
      let x = boundary t (span_at t s) a in
      let low = boundary t (span_at t s) (edge 0) in
      let row = range_with_len low (x - low) in
      ap (λ b. cond b row (reverse row)) e ∙ ap (λ l. reverse (range_with_len l (x - l))) (low_edge t sound s)

  own_ahead : (p : Position) → place_in t (span_at t p.span) p.place ≡ true
      → held t (span_at t p.span) (ahead_in t.direction p p.span (span_at t p.span))
      ≡ drop (rank t p - start_of t p.span) (held t (span_at t p.span) (whole (span_at t p.span)))
  own_ahead p h =
      let s = p.span in
      let sp = span_at t s in
      let x = boundary t sp p.place in
      let up = is_congruent t s in
      ap (λ b. held t sp (cond b (cond up (between p.place (edge sp.len)) (between (edge 0) p.place)) (whole sp))) (eq-eqb s s refl)
      ∙ held_own s p.place up refl
      ∙ rest up (start_of t s) x (start_of t (s + 1)) (place_low t sound s p.place) (place_high t sound s p.place h)
      ∙ ap (drop (rank t p - start_of t s)) (sym (held_whole s))

  ahead_later : (p : Position) (s n : ℕ) → p.span < s → ahead_from t p s n ≡ reading_from t s n
  ahead_later p s zero h = refl
  ahead_later p s (suc n) h =
      let sp = span_at t s in
      ap (λ b. held t sp (cond b (cond (is_congruent t s) (between p.place (edge sp.len)) (between (edge 0) p.place)) (whole sp)) ++ ahead_from t p (s + 1) n)
      (ne_eqb s p.span (λ e. omega arith))
      ∙ ap (λ l. held t sp (whole sp) ++ l) (ahead_later p (s + 1) n (omega arith))

  -- a position that exists, in a text with a span
  pub record Stands (p : Position) : Type 0 where
    pub in_spans : p.span < length t.spans
    pub in_span : place_in t (span_at t p.span) p.place ≡ true

  pub stands : (p : Position) → exists t p ≡ true → Stands p ⊎ ((length t.spans ≡ 0) × (p.span ≡ 0) × (p.place ≡ edge 0))
  stands p h =
      let ins = ltb p.span (length t.spans) && place_in t (span_at t p.span) p.place in
      let zeros = eqb p.span 0 && (eqb p.place.word 0 && eqb p.place.glyph 0) in
      elim (cases_lt 0 (length t.spans)) [
        | inl l ↦
            let k = sym (ap (λ b. cond b ins zeros) (lt-ltb 0 (length t.spans) l)) ∙ h in
            let q = and_parts (ltb p.span (length t.spans)) (place_in t (span_at t p.span) p.place) k in
            inl (record { in_spans = ltb-true p.span (length t.spans) q.0; in_span = q.1 })
        | inr l ↦
            let k = sym (ap (λ b. cond b ins zeros) (le-ltb 0 (length t.spans) l)) ∙ h in
            let q = and_parts (eqb p.span 0) (eqb p.place.word 0 && eqb p.place.glyph 0) k in
            let z = and_parts (eqb p.place.word 0) (eqb p.place.glyph 0) q.1 in
            let w = eqb-true p.place.word 0 z.0 in
            let g = eqb-true p.place.glyph 0 z.1 in
            inr (omega arith, eqb-true p.span 0 q.0, ap (λ w. record { word = w; glyph = p.place.glyph }) w ∙ ap (λ g. record { word = 0; glyph = g }) g)
      ]

  pub rank_bounds : (p : Position) → Stands p → (start_of t p.span ≤ rank t p) × (rank t p ≤ start_of t (p.span + 1))
  rank_bounds p h =
      let s = p.span in
      within (is_congruent t s) (start_of t s) (boundary t (span_at t s) p.place) (start_of t (s + 1))
      (place_low t sound s p.place) (place_high t sound s p.place h.in_span)

  ahead_standing : (p : Position) → Stands p → ahead t p ≡ drop (rank t p) (reading t)
  ahead_standing p h =
      let s = p.span in
      let sp = span_at t s in
      let n = length t.spans - s - 1 in
      let front = reading_from t 0 s in
      let own = held t sp (whole sp) in
      let later = reading_from t (s + 1) n in
      let in_s : s < length t.spans = h.in_spans in
      let e : length t.spans - s ≡ suc n = omega arith in
      let b = rank_bounds p h in
      let k = rank t p - start_of t s in
      let f : rank t p ≡ start_of t s + k = omega (arith, b.0) in
      let short : k ≤ length own = omega (arith, b.1, b.0, length_whole s) in
      ap (ahead_from t p s) e
      ∙ ap (λ l. held t sp (ahead_in t.direction p s sp) ++ l) (ahead_later p (s + 1) n (omega arith))
      ∙ ap (λ l. l ++ later) (own_ahead p h.in_span)
      ∙ sym (drop-append-le k own later short)
      ∙ ap (drop k) (sym (drop_at front (own ++ later) (start_of t s) (length_before_span s)))
      ∙ drop-drop k (start_of t s) (front ++ (own ++ later))
      ∙ ap (λ r. drop r (front ++ (own ++ later))) (sym f)
      ∙ ap (drop (rank t p)) (sym (at_span s in_s))

  -- what is ahead of a position is what ranks from it on
  pub ahead_by_rank : (p : Position) → exists t p ≡ true → ahead t p ≡ drop (rank t p) (reading t)
  ahead_by_rank p h =
      elim (stands p h) [
        | inl k ↦ ahead_standing p k
        | inr k ↦
            let none : length t.spans - p.span ≡ 0 = omega arith in
            let no_rows : reading t ≡ [] = ap (reading_from t 0) k.0 in
            ap (ahead_from t p p.span) none ∙ sym (ap (drop (rank t p)) no_rows ∙ drop_all (rank t p) [] (omega arith))
      ]

  pub length_ahead : (p : Position) → exists t p ≡ true → length (ahead t p) ≡ length t.glyphs - rank t p
  length_ahead p h =
      ap length (ahead_by_rank p h) ∙ length-drop (rank t p) (reading t) ∙ ap (λ n. n - rank t p) length_reading

  pub glyph_at_rank : (s i : ℕ) → s < length t.spans → start_of t s ≤ i → i < start_of t (s + 1) → get_or (reading t) (glyph_rank t s i) 0 ≡ i
  glyph_at_rank s i in_s low high =
      let up = is_congruent t s in
      let a = start_of t s in
      let e = start_of t (s + 1) in
      let own = held t (span_at t s) (whole (span_at t s)) in
      let later = reading_from t (s + 1) (length t.spans - s - 1) in
      let r = glyph_rank t s i in
      let b = glyph_within up a i e low high in
      let short : r - a < length own = omega (arith, length_whole s, b.0, b.1) in
      ap (λ l. get_or l r 0) (at_span s in_s)
      ∙ get_or-append_right (reading_from t 0 s) (own ++ later) a r 0 (length_before_span s) b.0
      ∙ get_or_append_left own later 0 (r - a) short
      ∙ ap (λ l. get_or l (r - a) 0) (held_whole s)
      ∙ placed up a i e low high
    where
      glyph_within : (up : Bool) (a i e : ℕ) → a ≤ i → i < e → (a ≤ cond up i (a + e - 1 - i)) × (cond up i (a + e - 1 - i) < e)
      glyph_within true a i e h k = (h, k)
      glyph_within false a i e h k = (omega arith, omega arith)

  -- what the numbers of a position that exists are bounded by
  pub record Room (p : Position) : Type 0 where
    pub span : p.span ≤ 256
    pub word : (span_at t p.span).offset + p.place.word ≤ 4096
    pub glyph : p.place.glyph ≤ 16384
    pub low : start_of t p.span ≤ boundary t (span_at t p.span) p.place
    pub high : boundary t (span_at t p.span) p.place ≤ start_of t (p.span + 1)

  pub room : (p : Position) → exists t p ≡ true → Room p
  room p h =
      let s = p.span in
      let sp = span_at t s in
      let end = starts_within t sound (s + 1) in
      let low = place_low t sound s p.place in
      elim (stands p h) [
        | inl k ↦
            let high = place_high t sound s p.place k.in_span in
            let in_span = leb-true p.place.word sp.len (and_parts (leb p.place.word sp.len) (leb p.place.glyph (glyphs_of_word t sp p.place.word)) k.in_span).0 in
            record {
              span = omega (arith, k.in_spans, sound.few_spans);
              word = omega (arith, span_ends_within t sound s, sound.few_words);
              glyph = omega (arith, sound.few_glyphs);
              low = low;
              high = high;
            }
        | inr k ↦
            let word : p.place.word ≡ 0 = ap (λ (a : Place). a.word) k.2 in
            let glyph : p.place.glyph ≡ 0 = ap (λ (a : Place). a.glyph) k.2 in
            let at_edge : boundary t sp p.place ≡ start_of t s = ap (boundary t sp) k.2 ∙ low_edge t sound s in
            record {
              span = omega (arith, k.1);
              word = omega (arith, spans_within t sound s, sound.few_words);
              glyph = omega arith;
              low = low;
              high = omega (arith, starts_upto t sound s (s + 1) (omega arith));
            }
      ]

  pub rank_within : (p : Position) → exists t p ≡ true → rank t p ≤ length t.glyphs
  rank_within p h =
      let s = p.span in
      let r = room p h in
      let b = within (is_congruent t s) (start_of t s) (boundary t (span_at t s) p.place) (start_of t (s + 1)) r.low r.high in
      omega (arith, b.1, starts_within t sound (s + 1))
