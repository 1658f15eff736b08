-- What a walk lays of one span, on any measure
use Rattle.std.proofs.Common.{◌≡◌, ℕ, zero, suc, ◌+◌, ◌-◌, ◌≤◌, Bool, true, false, cond, sym, refl, ap, ◌∙◌, subst, inr, true≢false, arith}
use Rattle.std.proofs.lemmas.Bool.{cond_both}
use Rattle.measure.specs.declared.measure.Measure.{Ghosts}
use Rattle.paragraph.specs.Reading.{boundary}
use Rattle.paragraph.specs.Text.{Text, Sound, word_at}
use Rattle.paragraph.specs.declared.place.Place.{Place}
use Rattle.paragraph.specs.declared.place.Position.{Position}
use Rattle.paragraph.specs.declared.place.Stretch.{Stretch}
use Rattle.paragraph.specs.declared.span.Span.{Span}
use Rattle.walk.specs.Fit.{cut}
use Rattle.walk.specs.Parts.{words_in, low, high, part_size, row_of, next, later}
use Rattle.walk.specs.Walk.{Part, cut_to, taken, cut_part, in_span}
use Rattle.walk.specs.Widths.{part_width, rest_width, overflow}
use Rattle.walk.specs.declared.line.Rule.{Rule}
use Rattle.walk_laws.proofs.Cuts.{passed, step_next, passed_more, passed_first, passed_taken, passed_none, Among, cut_among}
use Rattle.walk_laws.proofs.Joins.{join, WordPart, word_part, joins_first, joins_last, join_rises}
use Rattle.walk_laws.proofs.Places.{first_of, size_of, Inside, NotAfter, PartOfSpan}

-- where a walk up or down a table leaves a stretch
abbrev pub left_at : Bool → Stretch → Place
left_at up a = cond up a.end a.start

pub left_at_cut : (up : Bool) (a : Stretch) (c : Place) → left_at up (cut_to up a c) ≡ c
left_at_cut true a c = refl
left_at_cut false a c = refl

pub cut_at_left : (up : Bool) (a : Stretch) → a ≡ cut_to up a (left_at up a)
cut_at_left true a = refl
cut_at_left false a = refl

-- c stands in the stretch a, among the boundaries low to high
pub record CutPlace (t : Text) (sp : Span) (a : Stretch) (low high : ℕ) (c : Place) : Type 0 where
  pub in_span : Inside t sp c
  pub from_start : NotAfter a.start c
  pub to_end : NotAfter c a.end
  pub from_low : low ≤ boundary t sp c
  pub to_high : boundary t sp c ≤ high

-- what was laid of a span of which `a` is ahead: up to some place of it, and so many glyphs more than `laid`; all unless flagged
pub record SpanLaw {W : Type 0} (t : Text) (sp : Span) (a : Stretch) (up : Bool) (low high laid : ℕ) (q : Part W) : Type 0 where
  pub cut_is : q.stretch ≡ cut_to up a (left_at up q.stretch)
  pub place : CutPlace t sp a low high (left_at up q.stretch)
  pub counted : q.laid ≡ laid + passed up low (boundary t sp (left_at up q.stretch)) high
  pub all : q.flagged ≡ false → left_at up q.stretch ≡ left_at up a

-- the n words from `at` on are those of the stretch that a walk has still before it
abbrev pub Still : Bool → Stretch → ℕ → ℕ → Type 0
Still true a at n = (a.start.word ≤ at) × (at + n ≡ a.start.word + words_in a)
Still false a at n = (at ≡ a.start.word) × (at + n ≤ a.start.word + words_in a)

pub still_all : (up : Bool) (a : Stretch) → Still up a a.start.word (words_in a)
still_all true a = (omega arith, refl)
still_all false a = (refl, omega arith)

pub still_later : (up : Bool) (a : Stretch) (at n : ℕ) → Still up a at (suc n) → Still up a (later up at) n
still_later true a at n (i, j) = (omega arith, omega arith)
still_later false a at n (i, j) = (i, omega arith)

module _ (t : Text) (sp : Span) (sound : Sound t) (a : Stretch) (part : PartOfSpan t sp a) where
  pub still_word : (up : Bool) (at n : ℕ) → Still up a at (suc n) → WordPart t sp a (next up at n)
  still_word true at n (i, j) = word_part t sp sound a part at i (omega arith)
  still_word false at n (i, j) = word_part t sp sound a part (at + n) (omega arith) (omega arith)

  still_done : (up : Bool) (at : ℕ) → Still up a at 0 → boundary t sp (left_at up a) ≡ join t sp a at
  still_done true at (i, j) = sym (joins_last t sp sound a part) ∙ ap (join t sp a) (omega arith)
  still_done false at (i, j) = sym (joins_first t sp sound a part) ∙ ap (join t sp a) (omega arith)

  left_in : (up : Bool) → Inside t sp (left_at up a) × NotAfter a.start (left_at up a) × NotAfter (left_at up a) a.end
  left_in true = (part.end_in, part.in_order, inr (refl, omega arith))
  left_in false = (part.start_in, inr (refl, omega arith), part.in_order)

  module _ {S W : Type 0} (k : Ghosts S W) (m : S) (p : Position) (rule : Rule W) (up : Bool) where
    cut_law : (T R : W) (blanks laid at n : ℕ) → Still up a at (suc n) → SpanLaw t sp a up (join t sp a at) (join t sp a (at + suc n)) laid (cut_part k m t p rule sp a up T R blanks laid (next up at n))
    cut_law T R blanks laid at n still =
        record {
          cut_is = ap (cut_to up a) (sym (left_at_cut up a c));
          place = subst (CutPlace t sp a (join t sp a at) (join t sp a (at + suc n))) (sym (left_at_cut up a c)) here;
          counted = ap (λ (i : ℕ). laid + i) (sym went) ∙ ap (λ (d : Place). laid + passed up (join t sp a at) (boundary t sp d) (join t sp a (at + suc n))) (sym (left_at_cut up a c));
          all = λ z. absurd (true≢false z);
        }
      where
        w : ℕ
        w = next up at n

        word : WordPart t sp a w
        word = still_word up at n still

        got : ℕ × W
        got = cut k m rule (row_of t.glyphs (word_at t (sp.offset + w))) up (k.sum_of m T R) laid (low a w) (part_size a w (word_at t (sp.offset + w)))

        among : Among (low a w) (high a w (size_of t sp w) - low a w) got.0
        among = cut_among k m rule (row_of t.glyphs (word_at t (sp.offset + w))) up (k.sum_of m T R) laid (low a w) (part_size a w (word_at t (sp.offset + w)))

        most : got.0 ≤ high a w (size_of t sp w)
        most = omega (arith, among.1, word.low_high)

        c : Place
        c = record { word = w; glyph = got.0 }

        first : (join t sp a at ≤ boundary t sp c) × (boundary t sp c ≤ join t sp a (at + suc n)) × (passed up (join t sp a at) (boundary t sp c) (join t sp a (at + suc n)) ≡ passed up (join t sp a w) (boundary t sp c) (join t sp a (w + 1)))
        first =
            passed_first up (join t sp a at) (join t sp a (at + suc n)) (join t sp a w) (join t sp a (w + 1)) (join t sp a (later up at)) (join t sp a (later up at + n)) (boundary t sp c) (step_next (join t sp a) up at n)
            (join_rises t sp sound a (later up at) (later up at + n) (omega arith))
            (omega (arith, word.begins, among.0))
            (omega (arith, word.ends, most))

        here : CutPlace t sp a (join t sp a at) (join t sp a (at + suc n)) c
        here = record {
          in_span = record { word_most = omega (arith, word.in_span); glyph_most = λ _. omega (arith, word.high_most, most); at_end = λ l. absurd (omega (arith, word.in_span)) };
          from_start = word.from_start got.0 among.0;
          to_end = word.to_end got.0 most;
          from_low = first.0;
          to_high = first.1;
        }

        went : passed up (join t sp a at) (boundary t sp c) (join t sp a (at + suc n)) ≡ taken up (low a w) (high a w (size_of t sp w) - low a w) got.0
        went =
            first.2
            ∙ ap (λ (i : ℕ). passed up i (boundary t sp c) (join t sp a (w + 1))) (sym word.begins)
            ∙ ap (λ (i : ℕ). passed up (first_of t sp w + low a w) (boundary t sp c) i) (sym word.ends)
            ∙ passed_taken up (first_of t sp w) (low a w) (high a w (size_of t sp w)) got.0 among.0 most

    -- one word more was taken whole
    more_law : (laid at n : ℕ) (q : Part W) → Still up a at (suc n) → SpanLaw t sp a up (join t sp a (later up at)) (join t sp a (later up at + n)) (laid + part_size a (next up at n) (word_at t (sp.offset + next up at n))) q → SpanLaw t sp a up (join t sp a at) (join t sp a (at + suc n)) laid q
    more_law laid at n q still law =
        record {
          cut_is = law.cut_is;
          place = record { in_span = law.place.in_span; from_start = law.place.from_start; to_end = law.place.to_end; from_low = more.0; to_high = more.1 };
          counted = omega (arith, law.counted, more.2, word.begins, word.ends);
          all = law.all;
        }
      where
        w : ℕ
        w = next up at n

        word : WordPart t sp a w
        word = still_word up at n still

        b : ℕ
        b = boundary t sp (left_at up q.stretch)

        more : (join t sp a at ≤ b) × (b ≤ join t sp a (at + suc n)) × (passed up (join t sp a at) b (join t sp a (at + suc n)) ≡ join t sp a (w + 1) - join t sp a w + passed up (join t sp a (later up at)) b (join t sp a (later up at + n)))
        more =
            passed_more up (join t sp a at) (join t sp a (at + suc n)) (join t sp a w) (join t sp a (w + 1)) (join t sp a (later up at)) (join t sp a (later up at + n)) b (step_next (join t sp a) up at n)
            (join_rises t sp sound a w (w + 1) (omega arith))
            law.place.from_low
            law.place.to_high

    pub span_law : (first count : ℕ) (T R : W) (blanks laid at n : ℕ) → Still up a at n → SpanLaw t sp a up (join t sp a at) (join t sp a (at + n)) laid (in_span k m t p rule sp a up first count T R blanks laid at n)
    span_law first count T R blanks laid at zero still =
        let b = boundary t sp (left_at up a) in
        let low : b ≡ join t sp a at = still_done up at still in
        let same : at + 0 ≡ at = omega arith in
        let high : b ≡ join t sp a (at + 0) = low ∙ ap (join t sp a) (sym same) in
        record {
          cut_is = cut_at_left up a;
          place = record { in_span = (left_in up).0; from_start = (left_in up).1; to_end = (left_in up).2; from_low = omega arith; to_high = omega arith };
          counted = omega (arith, ap (λ (i : ℕ). passed up i b b) low, ap (λ (i : ℕ). passed up (join t sp a at) b i) high, passed_none up b);
          all = λ _. refl;
        }
    span_law first count T R blanks laid at (suc n) still =
        let w = next up at n in
        let word = word_at t (sp.offset + w) in
        cond_both (overflow k m rule (k.sum_of m T R) (part_width k m t sp a w) (rest_width k m t p sp a (later up at) n first count) (part_size a w word))
        (cut_part k m t p rule sp a up T R blanks laid w)
        (in_span k m t p rule sp a up first count T (k.sum_of m R (part_width k m t sp a w)) (cond word.blank (blanks + 1) blanks) (laid + part_size a w word) (later up at) n)
        (SpanLaw t sp a up (join t sp a at) (join t sp a (at + suc n)) laid)
        (λ _. cut_law T R blanks laid at n still)
        (λ _. more_law laid at n _ still (span_law first count T (k.sum_of m R (part_width k m t sp a w)) (cond word.blank (blanks + 1) blanks) (laid + part_size a w word) (later up at) n (still_later up a at n still)))
