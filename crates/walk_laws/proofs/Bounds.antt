-- What is ahead is no more than what there is, so in a text that is not too long it stays small, and so does an ellipsis of 16 glyphs
use Rattle.std.proofs.Common.{◌≡◌, ℕ, zero, suc, ◌+◌, ◌-◌, ◌*◌, ◌≤◌, true, false, List, [], ◌∷◌, map, length, sum_by, ap, ◌∙◌, ⊎_elim, arith}
use Rattle.std.proofs.lemmas.List.{get_or_past}
use Rattle.std.proofs.lemmas.List.Sums.{sum_by-append, sum_by-cons, sum_by-take-le, sum-map}
use Rattle.std.proofs.lemmas.Bool.{cases_lt}
use Rattle.glyph.specs.declared.glyph.Glyph.{Glyph}
use Rattle.measure.specs.Exact.{Exact}
use Rattle.measure.specs.Rows.{row_width}
use Rattle.measure.specs.declared.measure.Measure.{Ghosts}
use Rattle.paragraph.specs.Reading.{boundary, held, ahead, ahead_from, exists}
use Rattle.paragraph.specs.Text.{Text, Sound, congruent, word_at, span_at}
use Rattle.paragraph.specs.declared.place.Place.{Place}
use Rattle.paragraph.specs.declared.place.Position.{Position}
use Rattle.paragraph.specs.declared.span.Span.{Span}
use Rattle.paragraph.specs.declared.word.Word.{Word}
use Rattle.walk.specs.Widths.{ahead_of}
use Rattle.walk_laws.specs.Shown.{adds_up}
use Rattle.walk_laws.proofs.Intervals.{below, below_rises, sum_upto}
use Rattle.walk_laws.proofs.Joins.{rises, ends_in_order}
use Rattle.walk_laws.proofs.Numbers.{worth, so_far, sum_between, row_number}
use Rattle.walk_laws.proofs.Places.{first_of, first_next, Inside, ahead_part, existing}

module _ (t : Text) (sound : Sound t) (p : Position) (here : exists t p ≡ true) (f : ℕ → ℕ) where
  -- where the span s begins in the table of glyphs
  abbrev begins : ℕ → ℕ
  begins s = first_of t (span_at t s) 0

  begins_next : (s : ℕ) → first_of t (span_at t s) (span_at t s).len ≡ begins (s + 1)
  begins_next s =
      let e : (span_at t s).offset + (span_at t s).len ≡ (span_at t (s + 1)).offset + 0 = omega (arith, sound.spans_next s) in
      ap (λ (i : ℕ). (word_at t i).offset) e

  place_most : (s : ℕ) (c : Place) → Inside t (span_at t s) c → boundary t (span_at t s) c ≤ begins (s + 1)
  place_most s c inside =
      ⊎_elim
      (λ l. omega (arith, begins_next s, inside.glyph_most l, first_next t (span_at t s) sound c.word, rises t (span_at t s) sound (c.word + 1) (span_at t s).len (omega arith)))
      (λ l. omega (arith, begins_next s, inside.at_end l, rises t (span_at t s) sound c.word (span_at t s).len inside.word_most))
      (cases_lt c.word (span_at t s).len)

  -- what f adds up to over what is ahead in some spans is no more than over the indices of their glyphs
  ahead_below : (s n : ℕ) → below f (begins s) + sum_by f (ahead_from t p s n) ≤ below f (begins (s + n))
  ahead_below s zero = let e : s + 0 ≡ s = omega arith in omega (arith, ap (λ (i : ℕ). below f (begins i)) e)
  ahead_below s (suc n) =
      let e : s + 1 + n ≡ s + suc n = omega arith in
      let sp = span_at t s in
      let a = ahead_of t p s in
      let part = ahead_part t p here s in
      let low = below_rises f (begins s) (boundary t sp a.start) (omega (arith, rises t sp sound 0 a.start.word (omega arith))) in
      let high = below_rises f (boundary t sp a.end) (begins (s + 1)) (place_most s a.end part.end_in) in
      let own = sum_upto f (congruent t.direction sp.level) (boundary t sp a.start) (boundary t sp a.end) (ends_in_order t sp sound a part) in
      omega (arith, sum_by-append f (held t sp a) (ahead_from t p (s + 1) n), ahead_below (s + 1) n, ap (λ (i : ℕ). below f (begins i)) e)

  -- no index of a glyph is ahead twice
  pub ahead_once : sum_by f (ahead t p) ≤ below f (length t.glyphs)
  ahead_once =
      let e : p.span + (length t.spans - p.span) ≡ length t.spans = omega (arith, (existing t p here).span_most) in
      omega (arith, ahead_below p.span (length t.spans - p.span), ap (λ (i : ℕ). below f (begins i)) e, ap (below f) last)
    where
      -- behind the last span the table of glyphs is at its end
      last : begins (length t.spans) ≡ length t.glyphs
      last =
          let words : (span_at t (length t.spans)).offset + 0 ≡ length t.words =
          omega (arith, ap (λ (sp : Span). sp.offset) (get_or_past t.spans (length t.spans) (record { level = 0; offset = length t.words; len = 0 }) (omega arith)))
          in
          ap (λ (i : ℕ). (word_at t i).offset) words
          ∙ ap (λ (w : Word). w.offset) (get_or_past t.words (length t.words) (record { blank = false; offset = length t.glyphs; len = 0 }) (omega arith))

module _ {S W : Type 0} (k : Ghosts S W) (m : S) (number : W → ℕ) (glyph : Glyph → ℕ) (from : ℕ → W) (exact : Exact k m number glyph from) where
  row_most : (n : ℕ) (gs : List Glyph) → length gs ≤ n → sum_by glyph gs ≤ n * 131071
  row_most n [] h = omega arith
  row_most zero (g ∷ gs) h = absurd (omega arith)
  row_most (suc n) (g ∷ gs) h = omega (arith, sum_by-cons glyph g gs, exact.small g, row_most n gs (omega arith))

  pub ellipsis_most : (gs : List Glyph) → length gs ≤ 16 → number (row_width k m gs) ≤ 2097136
  ellipsis_most gs h = let most = row_most 16 gs h in omega (arith, row_number k m number glyph from exact (k.nil_of m) gs (omega (arith, exact.nilled)), exact.nilled)

  module _ (t : Text) (sound : Sound t) (p : Position) (here : exists t p ≡ true) where
    so_far_most : (i : ℕ) → so_far glyph t i ≤ 2147467264
    so_far_most i =
        let most = row_most 16384 t.glyphs sound.few_glyphs in
        let e : so_far glyph t (0 + i) ≡ so_far glyph t i = ap (so_far glyph t) (omega arith) in
        omega (arith, sum_between (map glyph t.glyphs) 0 i, sum_by-take-le (λ (x : ℕ). x) (map glyph t.glyphs) i, sum-map glyph t.glyphs)

    pub ahead_small : adds_up glyph t (ahead t p) ≤ 2147467264
    ahead_small = omega (arith, ahead_once t sound p here (worth glyph t.glyphs), so_far_most (length t.glyphs))
