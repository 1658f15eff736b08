-- The position just before a glyph of reading order: it exists, and has that glyph and what follows ahead
use Rattle.std.proofs.Common.{◌≡◌, ℕ, ◌+◌, ◌-◌, ◌<◌, ◌≤◌, Bool, true, false, cond, ◌&&◌, eqb, ltb, leb, length, drop, sym, refl, ap, ◌∙◌, subst, inl, inr, add-zero, arith}
use Rattle.std.proofs.lemmas.List.{drop_all, get_or_past}
use Rattle.std.proofs.lemmas.Bool.{and_from, cases_eq, cases_lt, eq-eqb, ne_eqb, lt-ltb, le-ltb, le-leb}
use Rattle.paragraph.specs.declared.place.Place.{Place}
use Rattle.paragraph.specs.declared.place.Position.{Position}
use Rattle.paragraph.specs.declared.span.Span.{Span}
use Rattle.paragraph.specs.Text.{Text, Sound, word_at, span_at}
use Rattle.paragraph.specs.Reading.{edge, boundary, closing, begin, glyphs_of_word, place_in, exists, reading, ahead}
use Rattle.paragraph.specs.Ranks.{start_of, is_congruent, glyph_rank, rank}
use Rattle.paragraph.specs.Before.{around, word_begins, behind, before_glyph, at_end, position_before, JustBefore}
use Rattle.paragraph.proofs.Around.{Around, found_around}
use Rattle.paragraph.proofs.Growth.{starts_first, starts_end, low_edge, high_edge}
use Rattle.paragraph.proofs.Ranking.{ahead_by_rank, length_reading}

module _ (t : Text) (sound : Sound t) where
  -- a position in a span exists
  pub exists_in : (s : ℕ) (a : Place) → s < length t.spans → place_in t (span_at t s) a ≡ true → exists t (record { span = s; place = a }) ≡ true
  exists_in s a h k =
      let ins = ltb s (length t.spans) && place_in t (span_at t s) a in
      let zeros = eqb s 0 && (eqb a.word 0 && eqb a.glyph 0) in
      ap (λ b. cond b ins zeros) (lt-ltb 0 (length t.spans) (omega arith))
      ∙ and_from (ltb s (length t.spans)) (place_in t (span_at t s) a) (lt-ltb s (length t.spans) h) k

  -- the one position of a text without spans
  exists_alone : (p : Position) → length t.spans ≡ 0 → p.span ≡ 0 → p.place ≡ edge 0 → exists t p ≡ true
  exists_alone p none first at =
      let ins = ltb p.span (length t.spans) && place_in t (span_at t p.span) p.place in
      let zeros = eqb p.span 0 && (eqb p.place.word 0 && eqb p.place.glyph 0) in
      ap (λ b. cond b ins zeros) (le-ltb 0 (length t.spans) (omega arith))
      ∙ and_from (eqb p.span 0) (eqb p.place.word 0 && eqb p.place.glyph 0) (eq-eqb p.span 0 first)
      (and_from (eqb p.place.word 0) (eqb p.place.glyph 0)
      (eq-eqb p.place.word 0 (ap (λ (a : Place). a.word) at)) (eq-eqb p.place.glyph 0 (ap (λ (a : Place). a.glyph) at)))

  pub in_word : (s w g : ℕ) → w < (span_at t s).len → g ≤ (word_at t ((span_at t s).offset + w)).len → place_in t (span_at t s) (record { word = w; glyph = g }) ≡ true
  in_word s w g h k =
      let sp = span_at t s in
      let len : glyphs_of_word t sp w ≡ (word_at t (sp.offset + w)).len = rw lt-ltb in
      and_from (leb w sp.len) (leb g (glyphs_of_word t sp w)) (le-leb w sp.len (omega arith)) (le-leb g (glyphs_of_word t sp w) (omega arith))

  pub at_edge : (s w : ℕ) → w ≤ (span_at t s).len → place_in t (span_at t s) (edge w) ≡ true
  at_edge s w h =
      let sp = span_at t s in
      and_from (leb w sp.len) (leb 0 (glyphs_of_word t sp w)) (le-leb w sp.len h) (le-leb 0 (glyphs_of_word t sp w) (omega arith))

  -- the word around a glyph of a span
  pub word_found : (s i : ℕ) → start_of t s ≤ i → i < start_of t (s + 1) → Around (word_begins t (span_at t s)) i 0 (span_at t s).len (around (word_begins t (span_at t s)) i 0 (span_at t s).len)
  word_found s i low high =
      let sp = span_at t s in
      let e : sp.offset + 0 ≡ sp.offset = add-zero sp.offset in
      let f : sp.offset + (0 + sp.len) ≡ (span_at t (s + 1)).offset = omega (arith, sound.spans_next s) in
      found_around (word_begins t sp) i 0 sp.len
      (omega (arith, ap (λ j. (word_at t j).offset) e))
      (omega (arith, ap (λ j. (word_at t j).offset) f))

  -- the glyph's own word and its place there
  pub record InWord (sp : Span) (i w : ℕ) : Type 0 where
    pub in_span : w < sp.len
    pub low : word_begins t sp w ≤ i
    pub high : i < word_begins t sp w + (word_at t (sp.offset + w)).len

  pub its_word : (s i : ℕ) → start_of t s ≤ i → i < start_of t (s + 1) → InWord (span_at t s) i (around (word_begins t (span_at t s)) i 0 (span_at t s).len)
  its_word s i low high =
      let sp = span_at t s in
      let w = around (word_begins t sp) i 0 sp.len in
      let r = word_found s i low high in
      let e : sp.offset + (w + 1) ≡ sp.offset + w + 1 = omega arith in
      record {
        in_span = omega (arith, r.in_rows);
        low = r.low;
        high = omega (arith, r.high, ap (λ j. (word_at t j).offset) e, sound.words_next (sp.offset + w));
      }

  -- the same, of a span that was read and a word that was found
  pub its_word_read : (s i : ℕ) (sp : Span) (w : ℕ) → sp ≡ span_at t s → w ≡ around (word_begins t sp) i 0 sp.len
      → start_of t s ≤ i → i < start_of t (s + 1) → InWord sp i w
  its_word_read s i sp w e f low high =
      subst (InWord sp i) (sym f)
      (subst (λ sp. InWord sp i (around (word_begins t sp) i 0 sp.len)) (sym e) (its_word s i low high))

  -- a position by its rank
  by_rank : (p : Position) (r : ℕ) → exists t p ≡ true → rank t p ≡ r → JustBefore t r p
  by_rank p r there at = record { there = there; rest = ahead_by_rank t sound p there ∙ ap (λ k. drop k (reading t)) at }

  -- the place just before a glyph, by its boundary
  behind_in : (s i w : ℕ) → InWord (span_at t s) i w
      → (place_in t (span_at t s) (behind w (i - word_begins t (span_at t s) w) (word_at t ((span_at t s).offset + w)).len) ≡ true)
      × (boundary t (span_at t s) (behind w (i - word_begins t (span_at t s) w) (word_at t ((span_at t s).offset + w)).len) ≡ i + 1)
  behind_in s i w h =
      let sp = span_at t s in
      let g = i - word_begins t sp w in
      let n = (word_at t (sp.offset + w)).len in
      let e : sp.offset + (w + 1) ≡ sp.offset + w + 1 = omega arith in
      let P : Place → Type 0 = λ a. (place_in t sp a ≡ true) × (boundary t sp a ≡ i + 1) in
      elim (cases_eq (g + 1) n) [
        | inl l ↦
            let last : behind w g n ≡ edge (w + 1) = ap (λ b. cond b (edge (w + 1)) (record { word = w; glyph = g + 1 })) (eq-eqb (g + 1) n l) in
            subst P (sym last) (
              at_edge s (w + 1) (omega (arith, h.in_span)),
              omega (arith, ap (λ j. (word_at t j).offset) e, sound.words_next (sp.offset + w), h.low),
            )
        | inr l ↦
            let more : behind w g n ≡ record { word = w; glyph = g + 1 } = ap (λ b. cond b (edge (w + 1)) (record { word = w; glyph = g + 1 })) (ne_eqb (g + 1) n l) in
            subst P (sym more) (in_word s w (g + 1) h.in_span (omega (arith, h.high, h.low)), omega (arith, h.low))
      ]

  -- the place by the span's direction: up, it is at the glyph, and down, behind it
  place_before : (s i w : ℕ) (up : Bool) → InWord (span_at t s) i w
      → (place_in t (span_at t s) (cond up (record { word = w; glyph = i - word_begins t (span_at t s) w }) (behind w (i - word_begins t (span_at t s) w) (word_at t ((span_at t s).offset + w)).len)) ≡ true)
      × (boundary t (span_at t s) (cond up (record { word = w; glyph = i - word_begins t (span_at t s) w }) (behind w (i - word_begins t (span_at t s) w) (word_at t ((span_at t s).offset + w)).len)) ≡ cond up i (i + 1))
  place_before s i w true h = (in_word s w (i - word_begins t (span_at t s) w) h.in_span (omega (arith, h.high, h.low)), omega (arith, h.low))
  place_before s i w false h = behind_in s i w h

  -- mirrored twice is where it was
  mirrored : (up : Bool) (a r e : ℕ) → a ≤ r → r < e →
      (cond up (cond up r (a + e - 1 - r)) (a + e - (cond up r (a + e - 1 - r) + 1)) ≡ r)
  mirrored true a r e h k = refl
  mirrored false a r e h k = omega arith

  pub mirror_in : (up : Bool) (a r e : ℕ) → a ≤ r → r < e → (a ≤ cond up r (a + e - 1 - r)) × (cond up r (a + e - 1 - r) < e)
  mirror_in true a r e h k = (h, k)
  mirror_in false a r e h k = (omega arith, omega arith)

  -- the span around a rank
  pub span_found : (r : ℕ) → r < length t.glyphs → Around (start_of t) r 0 (length t.spans) (around (start_of t) r 0 (length t.spans))
  span_found r h =
      found_around (start_of t) r 0 (length t.spans) (omega (arith, starts_first t sound))
      (omega (arith, starts_end t sound (0 + length t.spans) (omega arith)))

  before_ranked : (s r : ℕ) → s < length t.spans → start_of t s ≤ r → r < start_of t (s + 1) → JustBefore t r (before_glyph t s (glyph_rank t s r))
  before_ranked s r in_s low high =
      let up = is_congruent t s in
      let a = start_of t s in
      let e = start_of t (s + 1) in
      let i = glyph_rank t s r in
      let m = mirror_in up a r e low high in
      let w = around (word_begins t (span_at t s)) i 0 (span_at t s).len in
      let p = before_glyph t s i in
      let k = place_before s i w up (its_word s i m.0 m.1) in
      by_rank p r (exists_in s p.place in_s k.0) (
      ap (λ b. cond up b (a + e - b)) k.1
      ∙ pushed up i (a + e)
      ∙ mirrored up a r e low high
      )
    where
      pushed : (up : Bool) (i ae : ℕ) → cond up (cond up i (i + 1)) (ae - cond up i (i + 1)) ≡ cond up i (ae - (i + 1))
      pushed true i ae = refl
      pushed false i ae = refl

  either_edge : (b : Bool) → cond b (edge 0) (edge 0) ≡ edge 0
  either_edge true = refl
  either_edge false = refl

  -- a span after the last is empty
  no_words : (s : ℕ) → length t.spans ≤ s → (span_at t s).len ≡ 0
  no_words s h = ap (λ (sp : Span). sp.len) (get_or_past t.spans s (record { level = 0; offset = length t.words; len = 0 }) h)

  -- the opening edge of a span ranks where its glyphs begin, and the closing edge where those of the next do
  opening_in : (s : ℕ) (up : Bool) → let sp = span_at t s in
      (place_in t sp (cond up (edge 0) (edge sp.len)) ≡ true)
      × (cond up (boundary t sp (cond up (edge 0) (edge sp.len))) (start_of t s + start_of t (s + 1) - boundary t sp (cond up (edge 0) (edge sp.len))) ≡ start_of t s)
  opening_in s true = (at_edge s 0 (omega arith), low_edge t sound s)
  opening_in s false = (at_edge s (span_at t s).len (omega arith), omega (arith, high_edge t sound s))

  closing_in : (s : ℕ) (up : Bool) → let sp = span_at t s in
      (place_in t sp (cond up (edge sp.len) (edge 0)) ≡ true)
      × (cond up (boundary t sp (cond up (edge sp.len) (edge 0))) (start_of t s + start_of t (s + 1) - boundary t sp (cond up (edge sp.len) (edge 0))) ≡ start_of t (s + 1))
  closing_in s true = (at_edge s (span_at t s).len (omega arith), high_edge t sound s)
  closing_in s false = (at_edge s 0 (omega arith), omega (arith, low_edge t sound s))

  all_behind : (r : ℕ) → length t.glyphs ≤ r → JustBefore t r (at_end t)
  all_behind r h =
      let s = length t.spans - 1 in
      let sp = span_at t s in
      let k = closing_in s (is_congruent t s) in
      let end : start_of t (s + 1) ≡ length t.glyphs = starts_end t sound (s + 1) (omega arith) in
      let none : drop r (reading t) ≡ drop (length t.glyphs) (reading t) =
      drop_all r (reading t) (omega (arith, length_reading t sound))
      ∙ sym (drop_all (length t.glyphs) (reading t) (omega (arith, length_reading t sound))) in
      let there : exists t (at_end t) ≡ true =
      elim (cases_lt 0 (length t.spans)) [
        | inl l ↦ exists_in s (closing t.direction sp) (omega arith) k.0
        | inr l ↦ exists_none (omega arith)
      ] in
      let j = by_rank (at_end t) (length t.glyphs) there (k.1 ∙ end) in
      record { there = there; rest = j.rest ∙ sym none }
    where
      exists_none : length t.spans ≡ 0 → exists t (at_end t) ≡ true
      exists_none e =
          let s = length t.spans - 1 in
          exists_alone (at_end t) e (omega arith)
          (ap (λ n. cond (is_congruent t s) (edge n) (edge 0)) (no_words s (omega arith)) ∙ either_edge (is_congruent t s))

  pub begin_there : exists t (begin t) ≡ true
  begin_there =
      elim (cases_lt 0 (length t.spans)) [
        | inl l ↦ exists_in 0 (begin t).place l (opening_in 0 (is_congruent t 0)).0
        | inr l ↦ exists_alone (begin t) (omega arith) refl
            (ap (λ n. cond (is_congruent t 0) (edge 0) (edge n)) (no_words 0 l) ∙ either_edge (is_congruent t 0))
      ]

  pub begin_ahead : ahead t (begin t) ≡ reading t
  begin_ahead =
      ahead_by_rank t sound (begin t) begin_there
      ∙ ap (λ r. drop r (reading t)) ((opening_in 0 (is_congruent t 0)).1 ∙ starts_first t sound)

  -- the definition, by whether a glyph has the rank
  pub is_before : (r s i : ℕ) (p : Position) → r < length t.glyphs → s ≡ around (start_of t) r 0 (length t.spans) → i ≡ glyph_rank t s r → p ≡ before_glyph t s i → p ≡ position_before t r
  is_before r s i p l e f h =
      let k = around (start_of t) r 0 (length t.spans) in
      h ∙ ap (before_glyph t s) f ∙ ap (λ s. before_glyph t s (glyph_rank t s r)) e
      ∙ ap (λ b. cond b (before_glyph t k (glyph_rank t k r)) (at_end t)) (sym (lt-ltb r (length t.glyphs) l))

  pub is_end : (r : ℕ) (p : Position) → length t.glyphs ≤ r → p ≡ at_end t → p ≡ position_before t r
  is_end r p l h =
      let k = around (start_of t) r 0 (length t.spans) in
      h ∙ ap (λ b. cond b (before_glyph t k (glyph_rank t k r)) (at_end t)) (sym (le-ltb r (length t.glyphs) l))

  pub just_before : (r : ℕ) → JustBefore t r (position_before t r)
  just_before r =
      let s = around (start_of t) r 0 (length t.spans) in
      elim (cases_lt r (length t.glyphs)) [
        | inl l ↦
            let f = span_found r l in
            subst (JustBefore t r) (is_before r s (glyph_rank t s r) (before_glyph t s (glyph_rank t s r)) l refl refl refl)
            (before_ranked s r (omega (arith, f.in_rows)) f.low f.high)
        | inr l ↦ subst (JustBefore t r) (is_end r (at_end t) l refl) (all_behind r l)
      ]
