-- A stretch word by word
use Rattle.std.proofs.Common.{◌≡◌, ℕ, zero, suc, ◌+◌, ◌-◌, ◌<◌, ◌≤◌, Bool, true, false, cond, eqb, leb, ◌++◌, sym, refl, ap, ◌∙◌, subst, inl, inr, arith}
use Rattle.std.specs.List.{range_with_len}
use Rattle.std.proofs.lemmas.List.{append-nil}
use Rattle.std.proofs.lemmas.Bool.{and_parts, cases_eq, eq-eqb, ne_eqb, eqb-true, leb-true, lt-ltb}
use Rattle.paragraph.specs.declared.place.Place.{Place}
use Rattle.paragraph.specs.declared.place.Position.{Position}
use Rattle.paragraph.specs.declared.place.Stretch.{Stretch}
use Rattle.paragraph.specs.declared.span.Span.{Span}
use Rattle.paragraph.specs.Text.{Text, Sound, word_at, span_at}
use Rattle.paragraph.specs.Reading.{edge, between, whole, boundary, glyphs_of_word, place_in, exists, ahead_in}
use Rattle.paragraph.specs.Ranks.{is_congruent}
use Rattle.paragraph.specs.Before.{word_begins}
use Rattle.paragraph.specs.Parts.{part, parts_from, PartsJoin}
use Rattle.paragraph.proofs.Befores.{at_edge}
use Rattle.paragraph.proofs.Countings.{counting_more}
use Rattle.paragraph.proofs.Growth.{words_upto}
use Rattle.paragraph.proofs.Ranking.{stands}

module _ (t : Text) (sound : Sound t) where
  next_word : (sp : Span) (w : ℕ) → word_begins t sp (w + 1) ≡ word_begins t sp w + (word_at t (sp.offset + w)).len
  next_word sp w =
      let e : sp.offset + (w + 1) ≡ sp.offset + w + 1 = omega arith in
      ap (λ i. (word_at t i).offset) e ∙ sound.words_next (sp.offset + w)

  -- a stretch that does not run backward, and starts in its first word
  pub record Forward (sp : Span) (a : Stretch) : Type 0 where
    pub words : a.start.word ≤ a.end.word
    pub glyphs : a.start.word < a.end.word → a.start.glyph ≤ (word_at t (sp.offset + a.start.word)).len

  module _ (sp : Span) (a : Stretch) (f : Forward sp a) where
    at_low : ℕ → ℕ
    at_low w = word_begins t sp w + (part a w 0).low

    low_in : (w : ℕ) → a.start.word ≤ w → w < a.end.word → (part a w 0).low ≤ (word_at t (sp.offset + w)).len
    low_in w h k =
        elim (cases_eq w a.start.word) [
          | inl e ↦
              let low : (part a w 0).low ≡ a.start.glyph = ap (λ b. cond b a.start.glyph 0) (eq-eqb w a.start.word e) in
              omega (arith, f.glyphs (omega arith), ap (λ i. (word_at t (sp.offset + i)).len) e)
          | inr e ↦
              let low : (part a w 0).low ≡ 0 = ap (λ b. cond b a.start.glyph 0) (ne_eqb w a.start.word e) in
              omega arith
        ]

    high_at_end : (w n : ℕ) → w ≡ a.end.word → (part a w n).high ≡ a.end.glyph
    high_at_end w n e = ap (λ b. cond b a.end.glyph n) (eq-eqb w a.end.word e)

    high_before : (w n : ℕ) → w < a.end.word → (part a w n).high ≡ n
    high_before w n h = ap (λ b. cond b a.end.glyph n) (ne_eqb w a.end.word (λ e. omega arith))

    low_later : (w : ℕ) → a.start.word < w → (part a w 0).low ≡ 0
    low_later w h = ap (λ b. cond b a.start.glyph 0) (ne_eqb w a.start.word (λ e. omega arith))

    run : (w n : ℕ) → a.start.word ≤ w → w + n ≡ a.end.word → parts_from t sp a w (suc n) ≡ range_with_len (at_low w) (boundary t sp a.end - at_low w)
    unfolding at_low
    run w zero h e =
        let low = (part a w 0).low in
        let size : (part a w (word_at t (sp.offset + w)).len).high - low ≡ boundary t sp a.end - at_low w =
        omega (arith, high_at_end w (word_at t (sp.offset + w)).len (omega arith), ap (λ i. word_begins t sp i) (let q : w ≡ a.end.word = omega arith in q)) in
        append-nil _ ∙ ap (range_with_len (at_low w)) size
    run w (suc n) h e =
        let len = (word_at t (sp.offset + w)).len in
        let low = (part a w 0).low in
        let size : (part a w len).high - low ≡ len - low = ap (λ k. k - low) (high_before w len (omega arith)) in
        let next = next_word sp w in
        let fits = low_in w h (omega arith) in
        let later : at_low (w + 1) ≡ at_low w + (len - low) = omega (arith, low_later (w + 1) (omega arith)) in
        let upto = words_upto t sound (sp.offset + (w + 1)) (sp.offset + a.end.word) (omega arith) in
        let rest = boundary t sp a.end - at_low (w + 1) in
        let all : len - low + rest ≡ boundary t sp a.end - at_low w = omega (arith, low_later (w + 1) (omega arith)) in
        ap (λ k. range_with_len (at_low w) k ++ parts_from t sp a (w + 1) (suc n)) size
        ∙ ap (λ l. range_with_len (at_low w) (len - low) ++ l) (run (w + 1) n (omega arith) (omega arith))
        ∙ ap (λ b. range_with_len (at_low w) (len - low) ++ range_with_len b rest) later
        ∙ sym (counting_more (at_low w) (len - low) rest)
        ∙ ap (range_with_len (at_low w)) all

    pub joined : PartsJoin t sp a
    unfolding at_low
    joined =
        let w = a.start.word in
        let low : at_low w ≡ boundary t sp a.start = ap (λ b. word_begins t sp w + cond b a.start.glyph 0) (eq-eqb w w refl) in
        run w (a.end.word - w) (omega arith) (omega (arith, f.words))
        ∙ ap (λ b. range_with_len b (boundary t sp a.end - b)) low

  -- what is ahead in a span runs forward
  own_forward : (s : ℕ) (b : Place) (up : Bool) → place_in t (span_at t s) b ≡ true → Forward (span_at t s) (cond up (between b (edge (span_at t s).len)) (between (edge 0) b))
  own_forward s b true h =
      let sp = span_at t s in
      let q = and_parts (leb b.word sp.len) (leb b.glyph (glyphs_of_word t sp b.word)) h in
      record {
        words = leb-true b.word sp.len q.0;
        glyphs = λ l.
            let len : glyphs_of_word t sp b.word ≡ (word_at t (sp.offset + b.word)).len = rw lt-ltb in
            omega (arith, leb-true b.glyph (glyphs_of_word t sp b.word) q.1);
      }
  own_forward s b false h = record { words = omega arith; glyphs = λ l. omega arith }

  whole_forward : (sp : Span) → Forward sp (whole sp)
  whole_forward sp = record { words = omega arith; glyphs = λ l. omega arith }

  pub parts_ahead : (p : Position) → exists t p ≡ true → (s : ℕ) → PartsJoin t (span_at t s) (ahead_in t.direction p s (span_at t s))
  parts_ahead p there s = joined (span_at t s) (ahead_in t.direction p s (span_at t s)) (forward (eqb s p.span) refl)
    where
      place_there : place_in t (span_at t p.span) p.place ≡ true
      place_there =
          elim (stands t sound p there) [
            | inl k ↦ k.in_span
            | inr k ↦ ap (place_in t (span_at t p.span)) k.2 ∙ at_edge t sound p.span 0 (omega arith)
          ]

      own : Stretch
      own = cond (is_congruent t s) (between p.place (edge (span_at t s).len)) (between (edge 0) p.place)

      forward : (b : Bool) → eqb s p.span ≡ b → Forward (span_at t s) (cond b own (whole (span_at t s)))
      forward false e = whole_forward (span_at t s)
      forward true e =
          own_forward s p.place (is_congruent t s)
          (subst (λ i. place_in t (span_at t i) p.place ≡ true) (sym (eqb-true s p.span e)) place_there)
