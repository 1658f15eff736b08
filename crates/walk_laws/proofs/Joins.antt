-- Where the words' parts of a stretch join one another, as boundaries in the table of glyphs
use Rattle.std.proofs.Common.{◌≡◌, ℕ, zero, suc, ◌+◌, ◌-◌, ◌<◌, ◌≤◌, min, max, cond, eqb, ltb, ◌⊎◌, sym, ap, ◌∙◌, inl, inr, arith}
use Rattle.std.proofs.lemmas.Bool.{cond-true, cond-false, eq-eqb, ne_eqb, lt-ltb, le-ltb, cases_lt}
use Rattle.paragraph.specs.Reading.{boundary}
use Rattle.paragraph.specs.Text.{Text, Sound}
use Rattle.paragraph.specs.declared.place.Stretch.{Stretch}
use Rattle.paragraph.specs.declared.span.Span.{Span}
use Rattle.walk.specs.Parts.{words_in, low, high}
use Rattle.walk_laws.proofs.Places.{first_of, size_of, first_next, NotAfter, PartOfSpan}

-- where the part of the word w of a stretch begins, and that of the word before it ends: the word's first glyph, kept within the stretch
abbrev pub join : Text → Span → Stretch → ℕ → ℕ
join t sp a w = min (max (first_of t sp w) (boundary t sp a.start)) (boundary t sp a.end)

-- the part of a word, as numbers
pub record WordPart (t : Text) (sp : Span) (a : Stretch) (w : ℕ) : Type 0 where
  pub in_span : w < sp.len
  pub low_high : low a w ≤ high a w (size_of t sp w)
  pub high_most : high a w (size_of t sp w) ≤ size_of t sp w
  pub begins : first_of t sp w + low a w ≡ join t sp a w
  pub ends : first_of t sp w + high a w (size_of t sp w) ≡ join t sp a (w + 1)
  pub low_is : ((w ≡ a.start.word) × (low a w ≡ a.start.glyph)) ⊎ (low a w ≡ 0)
  pub high_is : ((w ≡ a.end.word) × (high a w (size_of t sp w) ≡ a.end.glyph)) ⊎ (high a w (size_of t sp w) ≡ size_of t sp w)
  pub from_start : (g : ℕ) → low a w ≤ g → NotAfter a.start (record { word = w; glyph = g })
  pub to_end : (g : ℕ) → g ≤ high a w (size_of t sp w) → NotAfter (record { word = w; glyph = g }) a.end

-- its two ends
record Lower (t : Text) (sp : Span) (a : Stretch) (w : ℕ) : Type 0 where
  kind : ((w ≡ a.start.word) × (low a w ≡ a.start.glyph)) ⊎ (low a w ≡ 0)
  place : first_of t sp w + low a w ≡ max (first_of t sp w) (boundary t sp a.start)
  from_start : (g : ℕ) → low a w ≤ g → NotAfter a.start (record { word = w; glyph = g })

record Upper (t : Text) (sp : Span) (a : Stretch) (w : ℕ) : Type 0 where
  in_span : w < sp.len
  kind : ((w ≡ a.end.word) × (high a w (size_of t sp w) ≡ a.end.glyph)) ⊎ (high a w (size_of t sp w) ≡ size_of t sp w)
  most : high a w (size_of t sp w) ≤ size_of t sp w
  place : first_of t sp w + high a w (size_of t sp w) ≡ min (first_of t sp (w + 1)) (boundary t sp a.end)
  to_end : (g : ℕ) → g ≤ high a w (size_of t sp w) → NotAfter (record { word = w; glyph = g }) a.end

module _ (t : Text) (sp : Span) (sound : Sound t) where
  climbs : (n w : ℕ) → first_of t sp w ≤ first_of t sp (w + n)
  climbs zero w = let e : first_of t sp w ≡ first_of t sp (w + 0) = ap (first_of t sp) (omega arith) in omega arith
  climbs (suc n) w =
      let e : first_of t sp (w + n + 1) ≡ first_of t sp (w + suc n) = ap (first_of t sp) (omega arith) in
      omega (arith, climbs n w, first_next t sp sound (w + n))

  pub rises : (v w : ℕ) → v ≤ w → first_of t sp v ≤ first_of t sp w
  rises v w l = let e : first_of t sp (v + (w - v)) ≡ first_of t sp w = ap (first_of t sp) (omega arith) in omega (arith, climbs (w - v) v)

  module _ (a : Stretch) (part : PartOfSpan t sp a) where
    -- the stretch's first place is not after the words behind its first word, and its last not before those ahead of its last
    start_before : (w : ℕ) → a.start.word < w → a.start.word < sp.len → boundary t sp a.start ≤ first_of t sp w
    start_before w l i = omega (arith, part.start_in.glyph_most i, first_next t sp sound a.start.word, rises (a.start.word + 1) w (omega arith))

    pub ends_in_order : boundary t sp a.start ≤ boundary t sp a.end
    ends_in_order = by part.in_order
      where
        by : NotAfter a.start a.end → boundary t sp a.start ≤ boundary t sp a.end
        by (inl l) = omega (arith, start_before a.end.word l (omega (arith, part.end_in.word_most)))
        by (inr (e, l)) = let f : first_of t sp a.start.word ≡ first_of t sp a.end.word = ap (first_of t sp) e in omega arith

    pub joins_first : join t sp a a.start.word ≡ boundary t sp a.start
    joins_first = omega (arith, ends_in_order)

    words_most : a.start.word ≤ a.end.word
    words_most = by part.in_order
      where
        by : NotAfter a.start a.end → a.start.word ≤ a.end.word
        by (inl l) = omega arith
        by (inr (e, l)) = omega arith

    end_within : 0 < a.end.glyph → a.end.word < sp.len
    end_within l = by (cases_lt a.end.word sp.len)
      where
        by : (a.end.word < sp.len) ⊎ (sp.len ≤ a.end.word) → a.end.word < sp.len
        by (inl i) = i
        by (inr i) = omega (arith, part.end_in.at_end i)

    pub joins_last : join t sp a (a.start.word + words_in a) ≡ boundary t sp a.end
    joins_last = by (cases_lt 0 a.end.glyph)
      where
        by : (0 < a.end.glyph) ⊎ (a.end.glyph ≤ 0) → join t sp a (a.start.word + words_in a) ≡ boundary t sp a.end
        by (inl l) =
            let c = cond-true (ltb 0 a.end.glyph) (a.end.word + 1) a.end.word (lt-ltb 0 a.end.glyph l) in
            let e : a.start.word + words_in a ≡ a.end.word + 1 = omega (arith, words_most) in
            ap (join t sp a) e ∙ omega (arith, ends_in_order, first_next t sp sound a.end.word, part.end_in.glyph_most (end_within l))
        by (inr l) =
            let c = cond-false (ltb 0 a.end.glyph) (a.end.word + 1) a.end.word (le-ltb 0 a.end.glyph l) in
            let e : a.start.word + words_in a ≡ a.end.word = omega (arith, words_most) in
            ap (join t sp a) e ∙ omega (arith, ends_in_order)

    -- a word of the stretch is ahead of its last place
    reaches : (w : ℕ) → w < a.start.word + words_in a → (w < a.end.word) ⊎ ((w ≡ a.end.word) × (0 < a.end.glyph))
    reaches w l = by (cases_lt 0 a.end.glyph)
      where
        by : (0 < a.end.glyph) ⊎ (a.end.glyph ≤ 0) → (w < a.end.word) ⊎ ((w ≡ a.end.word) × (0 < a.end.glyph))
        by (inl i) = more (cases_lt w a.end.word)
          where
            c : cond (ltb 0 a.end.glyph) (a.end.word + 1) a.end.word ≡ a.end.word + 1
            c = cond-true (ltb 0 a.end.glyph) (a.end.word + 1) a.end.word (lt-ltb 0 a.end.glyph i)

            more : (w < a.end.word) ⊎ (a.end.word ≤ w) → (w < a.end.word) ⊎ ((w ≡ a.end.word) × (0 < a.end.glyph))
            more (inl j) = inl j
            more (inr j) = inr (omega (arith, c, words_most), i)
        by (inr i) = inl (omega (arith, words_most, cond-false (ltb 0 a.end.glyph) (a.end.word + 1) a.end.word (le-ltb 0 a.end.glyph i)))

    -- the lower end of a word's part
    lower : (w : ℕ) → a.start.word ≤ w → w < sp.len → Lower t sp a w
    lower w l r = by (cases_lt a.start.word w)
      where
        by : (a.start.word < w) ⊎ (w ≤ a.start.word) → Lower t sp a w
        by (inl i) =
            let none = cond-false (eqb w a.start.word) a.start.glyph 0 (ne_eqb w a.start.word (λ e. omega arith)) in
            record { kind = inr none; place = omega (arith, start_before w i (omega arith)); from_start = λ g j. inl i }
        by (inr i) =
            let own : a.start.word ≡ w = omega arith in
            let first = ap (first_of t sp) own in
            let begun = cond-true (eqb w a.start.word) a.start.glyph 0 (eq-eqb w a.start.word (sym own)) in
            record { kind = inl (sym own, begun); place = omega arith; from_start = λ g j. inr (own, omega arith) }

    -- and the upper one
    upper : (w : ℕ) → w < a.start.word + words_in a → Upper t sp a w
    upper w l = by (reaches w l)
      where
        by : (w < a.end.word) ⊎ ((w ≡ a.end.word) × (0 < a.end.glyph)) → Upper t sp a w
        by (inl i) =
            let all = cond-false (eqb w a.end.word) a.end.glyph (size_of t sp w) (ne_eqb w a.end.word (λ e. omega arith)) in
            record { in_span = omega (arith, part.end_in.word_most); kind = inr all; most = omega arith; place = omega (arith, first_next t sp sound w, rises (w + 1) a.end.word (omega arith)); to_end = λ g j. inl i }
        by (inr (own, i)) =
            let first = ap (first_of t sp) own in
            let size = ap (size_of t sp) own in
            let glyphs = part.end_in.glyph_most (end_within i) in
            let cut = cond-true (eqb w a.end.word) a.end.glyph (size_of t sp w) (eq-eqb w a.end.word own) in
            record { in_span = omega (arith, end_within i); kind = inl (own, cut); most = omega arith; place = omega (arith, first_next t sp sound w); to_end = λ g j. inr (own, omega arith) }

    pub word_part : (w : ℕ) → a.start.word ≤ w → w < a.start.word + words_in a → WordPart t sp a w
    word_part w l r =
        let up = upper w r in
        let down = lower w l up.in_span in
        let next = first_next t sp sound w in
        let behind = start_before (w + 1) (omega arith) (omega (arith, up.in_span)) in
        let ahead : first_of t sp w ≤ boundary t sp a.end = omega (arith, up.place, up.most) in
        let ends = ends_in_order in
        record {
          in_span = up.in_span;
          low_high = omega (arith, down.place, up.place);
          high_most = up.most;
          begins = omega (arith, down.place, up.place);
          ends = omega (arith, down.place, up.place);
          low_is = down.kind;
          high_is = up.kind;
          from_start = down.from_start;
          to_end = up.to_end;
        }

  pub join_rises : (a : Stretch) (v w : ℕ) → v ≤ w → join t sp a v ≤ join t sp a w
  join_rises a v w l = omega (arith, rises v w l)
