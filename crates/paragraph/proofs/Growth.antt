-- Sound tables: offsets grow from 0 to the end of the table below
use Rattle.std.proofs.Common.{◌≡◌, ℕ, zero, suc, ◌+◌, ◌-◌, ◌≤◌, true, false, leb, length, sym, ap, ◌∙◌, inl, inr, add-zero, arith}
use Rattle.std.proofs.lemmas.List.{get_or_past}
use Rattle.std.proofs.lemmas.Bool.{and_parts, cases_lt, leb-true, lt-ltb, le-ltb}
use Rattle.paragraph.specs.declared.place.Place.{Place}
use Rattle.paragraph.specs.declared.span.Span.{Span}
use Rattle.paragraph.specs.declared.word.Word.{Word}
use Rattle.paragraph.specs.Text.{Text, Sound, word_at, span_at}
use Rattle.paragraph.specs.Reading.{edge, boundary, place_in, glyphs_of_word}
use Rattle.paragraph.specs.Ranks.{start_of}

-- numbers of which each is the one before and something more
grows : (at more : ℕ → ℕ) → ((i : ℕ) → at (i + 1) ≡ at i + more i) → (i k : ℕ) → at i ≤ at (i + k)
grows at more next i zero = omega (arith, ap at (add-zero i))
grows at more next i (suc k) =
    let e : i + suc k ≡ i + k + 1 = omega arith in
    omega (arith, ap at e, next (i + k), grows at more next i k)

upto : (at more : ℕ → ℕ) → ((i : ℕ) → at (i + 1) ≡ at i + more i) → (i j : ℕ) → i ≤ j → at i ≤ at j
upto at more next i j h =
    let e : i + (j - i) ≡ j = omega arith in
    omega (arith, ap at e, grows at more next i (j - i))

module _ (t : Text) (sound : Sound t) where
  pub words_upto : (i j : ℕ) → i ≤ j → (word_at t i).offset ≤ (word_at t j).offset
  words_upto = upto (λ i. (word_at t i).offset) (λ i. (word_at t i).len) sound.words_next

  pub spans_upto : (i j : ℕ) → i ≤ j → (span_at t i).offset ≤ (span_at t j).offset
  spans_upto = upto (λ i. (span_at t i).offset) (λ i. (span_at t i).len) sound.spans_next

  pub words_end : (i : ℕ) → length t.words ≤ i → (word_at t i).offset ≡ length t.glyphs
  words_end i h = let w : Word = record { blank = false; offset = length t.glyphs; len = 0 } in ap (λ (w : Word). w.offset) (get_or_past t.words i w h)

  pub spans_end : (i : ℕ) → length t.spans ≤ i → (span_at t i).offset ≡ length t.words
  spans_end i h = let s : Span = record { level = 0; offset = length t.words; len = 0 } in ap (λ (s : Span). s.offset) (get_or_past t.spans i s h)

  pub words_within : (i : ℕ) → (word_at t i).offset ≤ length t.glyphs
  words_within i =
      omega (arith, words_upto i (i + length t.words) (omega arith), words_end (i + length t.words) (omega arith))

  pub spans_within : (i : ℕ) → (span_at t i).offset ≤ length t.words
  spans_within i =
      omega (arith, spans_upto i (i + length t.spans) (omega arith), spans_end (i + length t.spans) (omega arith))

  pub word_ends_within : (i : ℕ) → (word_at t i).offset + (word_at t i).len ≤ length t.glyphs
  word_ends_within i = omega (arith, sound.words_next i, words_within (i + 1))

  pub span_ends_within : (i : ℕ) → (span_at t i).offset + (span_at t i).len ≤ length t.words
  span_ends_within i = omega (arith, sound.spans_next i, spans_within (i + 1))

  -- the spans' glyphs
  pub starts_upto : (i j : ℕ) → i ≤ j → start_of t i ≤ start_of t j
  starts_upto i j h = words_upto (span_at t i).offset (span_at t j).offset (spans_upto i j h)

  pub starts_first : start_of t 0 ≡ 0
  starts_first = ap (λ i. (word_at t i).offset) sound.spans_first ∙ sound.words_first

  pub starts_end : (i : ℕ) → length t.spans ≤ i → start_of t i ≡ length t.glyphs
  starts_end i h = words_end (span_at t i).offset (omega (arith, spans_end i h))

  pub starts_within : (i : ℕ) → start_of t i ≤ length t.glyphs
  starts_within i = words_within (span_at t i).offset

  -- a span's edges in the table
  pub low_edge : (s : ℕ) → boundary t (span_at t s) (edge 0) ≡ start_of t s
  low_edge s = add-zero _ ∙ ap (λ i. (word_at t i).offset) (add-zero (span_at t s).offset)

  pub high_edge : (s : ℕ) → boundary t (span_at t s) (edge (span_at t s).len) ≡ start_of t (s + 1)
  high_edge s = add-zero _ ∙ ap (λ i. (word_at t i).offset) (sym (sound.spans_next s))

  -- a place of a span in the table
  pub place_low : (s : ℕ) (a : Place) → start_of t s ≤ boundary t (span_at t s) a
  place_low s a =
      omega (arith, words_upto (span_at t s).offset ((span_at t s).offset + a.word) (omega arith))

  pub place_high : (s : ℕ) (a : Place) → place_in t (span_at t s) a ≡ true → boundary t (span_at t s) a ≤ start_of t (s + 1)
  place_high s a h =
      let q = and_parts (leb a.word (span_at t s).len) (leb a.glyph (glyphs_of_word t (span_at t s) a.word)) h in
      let in_span : a.word ≤ (span_at t s).len = leb-true a.word (span_at t s).len q.0 in
      let in_word : a.glyph ≤ glyphs_of_word t (span_at t s) a.word = leb-true a.glyph (glyphs_of_word t (span_at t s) a.word) q.1 in
      let end : start_of t (s + 1) ≡ (word_at t ((span_at t s).offset + (span_at t s).len)).offset = ap (λ i. (word_at t i).offset) (sound.spans_next s) in
      elim (cases_lt a.word (span_at t s).len) [
        | inl l ↦
            let len : glyphs_of_word t (span_at t s) a.word ≡ (word_at t ((span_at t s).offset + a.word)).len = rw lt-ltb in
            omega (arith, sound.words_next ((span_at t s).offset + a.word), words_upto ((span_at t s).offset + a.word + 1) ((span_at t s).offset + (span_at t s).len) (omega arith))
        | inr l ↦
            let none : glyphs_of_word t (span_at t s) a.word ≡ 0 = rw le-ltb in
            let same : a.word ≡ (span_at t s).len = omega arith in
            omega (arith, ap (λ w. (word_at t ((span_at t s).offset + w)).offset) same)
      ]
