-- On an exact measure and by any rule, a walk is as wide as its glyphs add up to
use Rattle.std.proofs.Common.{◌≡◌, ℕ, suc, ◌+◌, ◌-◌, ◌^◌, ◌<◌, ◌≤◌, Bool, true, false, List, length, sym, ap, ◌∙◌, arith}
use Rattle.std.proofs.lemmas.List.Sums.{sum_by-append}
use Rattle.glyph.specs.declared.glyph.Glyph.{Glyph}
use Rattle.measure.specs.Exact.{Exact}
use Rattle.measure.specs.declared.measure.Measure.{Ghosts}
use Rattle.paragraph.specs.Reading.{boundary, between, held, ahead, ahead_from, exists}
use Rattle.paragraph.specs.Text.{Text, Sound, word_at, span_at}
use Rattle.paragraph.specs.declared.place.Place.{Place}
use Rattle.paragraph.specs.declared.place.Position.{Position}
use Rattle.paragraph.specs.declared.place.Stretch.{Stretch}
use Rattle.paragraph.specs.declared.span.Span.{Span}
use Rattle.paragraph.specs.declared.word.Word.{Word}
use Rattle.walk.specs.Fit.{cut}
use Rattle.walk.specs.Parts.{words_in, low, high, part_size, row_of, forward, goes_up, next, later}
use Rattle.walk.specs.Walk.{Part, Lay, cut_to, cut_part, in_span, in_order, with_part, part_of, nothing, lay}
use Rattle.walk.specs.Widths.{ahead_of, part_width, words_width, rest_width}
use Rattle.walk.specs.declared.line.LayoutDirection.{LayoutDirection}
use Rattle.walk.specs.declared.line.LayoutDirection.TheVariants.{Forward, Backward}
use Rattle.walk.specs.declared.line.Rule.{Rule}
use Rattle.walk_laws.specs.Laws.{met}
use Rattle.walk_laws.specs.Shown.{adds_up, shown}
use Rattle.walk_laws.proofs.Cuts.{passed, Step, step_next, Among, cut_among}
use Rattle.walk_laws.proofs.Held.{cut_off, ahead_pick}
use Rattle.walk_laws.proofs.Intervals.{below_rises}
use Rattle.walk_laws.proofs.Joins.{join, WordPart, joins_first, joins_last, ends_in_order}
use Rattle.walk_laws.proofs.Numbers.{worth, so_far, sum_held, sums_rise, part_number, words_number, spans_number}
use Rattle.walk_laws.proofs.Places.{first_of, size_of, PartOfSpan, ahead_part}
use Rattle.walk_laws.proofs.Runs.{in_span_by, walks_by}
use Rattle.walk_laws.proofs.Spans.{left_at, Still, still_all, still_later, still_word}
use Rattle.walk_laws.proofs.Sums.{step_balance, cut_sum}
use Rattle.walk_laws.proofs.Walks.{part_shown, part_parted, part_whole, none_shown}

-- the end of [low, high) to which a walk goes, which is that of the whole [first, last)
abbrev Ends : Bool → ℕ → ℕ → ℕ → ℕ → Type 0
Ends true low high first last = high ≡ last
Ends false low high first last = low ≡ first

cut_total : (up : Bool) (r got whole low high first last from b to low' high' : ℕ) → Step up low high from to low' high' → Ends up low high first last → r + high ≡ whole + low → first + whole ≡ last → first ≤ low → high ≤ last → from ≤ b → b ≤ to → got ≡ passed up from b to → r + got ≡ passed up first b last
cut_total true r got whole low high first last from b to low' high' (x, y, z) e h i j l u v g = omega arith
cut_total false r got whole low high first last from b to low' high' (x, y, z) e h i j l u v g = omega arith

passed_most : (up : Bool) (low b high : ℕ) → low ≤ b → b ≤ high → passed up low b high ≤ high - low
passed_most true low b high i j = omega arith
passed_most false low b high i j = omega arith

still_bounds : (up : Bool) (a : Stretch) (at n : ℕ) → Still up a at n → (a.start.word ≤ at) × (at + n ≤ a.start.word + words_in a)
still_bounds true a at n (i, j) = (i, omega arith)
still_bounds false a at n (i, j) = (omega arith, j)

pub adds_up_met : (glyph : Glyph → ℕ) (t : Text) (way : LayoutDirection) (xs ys : List ℕ) → adds_up glyph t (met way xs ys) ≡ adds_up glyph t xs + adds_up glyph t ys
adds_up_met glyph t Forward xs ys = sum_by-append (worth glyph t.glyphs) xs ys
adds_up_met glyph t Backward xs ys = sum_by-append (worth glyph t.glyphs) ys xs ∙ omega arith

-- in a span, R and the words still to walk add up to what is ahead in it
abbrev pub Going : {W : Type 0} → (W → ℕ) → (Glyph → ℕ) → Text → Span → Stretch → Bool → W → ℕ → ℕ → Type 0
Going number glyph t sp a up R at n = Still up a at n × (number R + so_far glyph t (join t sp a (at + n)) ≡ adds_up glyph t (held t sp a) + so_far glyph t (join t sp a at))

module _ {S W : Type 0} (k : Ghosts S W) (m : S) (number : W → ℕ) (glyph : Glyph → ℕ) (from : ℕ → W) (exact : Exact k m number glyph from) (t : Text) (sound : Sound t) (p : Position) (rule : Rule W) where
  module _ (sp : Span) (a : Stretch) (part : PartOfSpan t sp a) (up : Bool) (T : W) (small : number T + adds_up glyph t (held t sp a) < 2 ^ 32) where
    -- what the glyphs before the words' joins add up to
    abbrev reach : ℕ → ℕ
    reach w = so_far glyph t (join t sp a w)

    all_ahead : so_far glyph t (boundary t sp a.start) + adds_up glyph t (held t sp a) ≡ so_far glyph t (boundary t sp a.end)
    all_ahead = sum_held k m number glyph from exact t sp a (ends_in_order t sp sound a part)

    first_reach : reach a.start.word ≡ so_far glyph t (boundary t sp a.start)
    first_reach = ap (so_far glyph t) (joins_first t sp sound a part)

    last_reach : reach (a.start.word + words_in a) ≡ so_far glyph t (boundary t sp a.end)
    last_reach = ap (so_far glyph t) (joins_last t sp sound a part)

    rises : (v w : ℕ) → v ≤ w → reach v ≤ reach w
    rises v w l = sums_rise k m number glyph from exact t sp sound a part v w l

    pub going_first : (R : W) → number R ≡ 0 → Going number glyph t sp a up R a.start.word (words_in a)
    going_first R e = (still_all up a, omega (arith, all_ahead, first_reach, last_reach))

    pub going_last : (R : W) (at : ℕ) → Going number glyph t sp a up R at 0 → number R ≡ adds_up glyph t (held t sp a)
    going_last R at (still, e) =
        let same : reach (at + 0) ≡ reach at = ap reach (omega arith) in
        omega arith

    going_small : (R : W) (at n : ℕ) → Going number glyph t sp a up R at n → (number T + number R < 2 ^ 32) × (number T + number R + reach (at + n) < reach at + 2 ^ 32) × (reach at ≤ reach (at + n))
    going_small R at n (still, e) =
        let rise = rises at (at + n) (omega arith) in
        (omega arith, omega arith, rise)

    -- the word that is met first
    pub going_word : (R : W) (at n : ℕ) → Going number glyph t sp a up R at (suc n) → (reach (next up at n) + number (part_width k m t sp a (next up at n)) ≡ reach (next up at n + 1)) × (number (part_width k m t sp a (next up at n)) + reach (later up at + n) + reach at ≡ reach (later up at) + reach (at + suc n))
    going_word R at n going =
        let w = next up at n in
        let (still, e) = going in
        let bal = step_balance up (reach at) (reach (at + suc n)) (reach w) (reach (w + 1)) (reach (later up at)) (reach (later up at + n)) (step_next reach up at n) in
        let rise = rises (later up at) (later up at + n) (omega arith) in
        let s = going_small R at (suc n) going in
        let one = part_number k m number glyph from exact t sp sound a part w (still_word t sp sound a part up at n still) (omega arith) in
        (one, omega arith)

    pub going_on : (R : W) (at n : ℕ) → Going number glyph t sp a up R at (suc n) → Going number glyph t sp a up (k.sum_of m R (part_width k m t sp a (next up at n))) (later up at) n
    going_on R at n going =
        let (still, e) = going in
        let (one, bal) = going_word R at n going in
        let rise = rises (later up at) (later up at + n) (omega arith) in
        let s = going_small R at (suc n) going in
        let more = exact.sums R (part_width k m t sp a (next up at n)) (omega arith) in
        (still_later up a at n still, omega arith)

    -- the words behind it, with what stands in the spans behind
    pub going_rest : exists t p ≡ true → (first count : ℕ) → number T + adds_up glyph t (held t sp a) + adds_up glyph t (ahead_from t p first count) < 2 ^ 32 → (R : W) (at n : ℕ) → Going number glyph t sp a up R at (suc n) →
        (number (k.sum_of m T R) ≡ number T + number R) × (number T + number R + number (part_width k m t sp a (next up at n)) + number (rest_width k m t p sp a (later up at) n first count) ≡ number T + adds_up glyph t (held t sp a) + adds_up glyph t (ahead_from t p first count))
    going_rest here first count small R at n going =
        let (still, e) = going in
        let (one, bal) = going_word R at n going in
        let rise = rises (later up at) (later up at + n) (omega arith) in
        let s = going_small R at (suc n) going in
        let bounds = still_bounds up a (later up at) n (still_later up a at n still) in
        let own = words_number k m number glyph from exact t sp sound a part (k.nil_of m) (later up at) n bounds.0 bounds.1 (omega (arith, exact.nilled)) in
        let rest = spans_number k m number glyph from exact t p sound here (words_width k m t sp a (k.nil_of m) (later up at) n) first count (omega (arith, exact.nilled)) in
        (exact.sums T R s.0, omega (arith, exact.nilled))

    sum_cut : (u : Bool) (c : Place) → boundary t sp a.start ≤ boundary t sp c → boundary t sp c ≤ boundary t sp a.end → adds_up glyph t (held t sp (cut_to u a c)) ≡ passed u (so_far glyph t (boundary t sp a.start)) (so_far glyph t (boundary t sp c)) (so_far glyph t (boundary t sp a.end))
    sum_cut true c i j = omega (arith, sum_held k m number glyph from exact t sp (between a.start c) i)
    sum_cut false c i j = omega (arith, sum_held k m number glyph from exact t sp (between c a.end) j)

    still_ends : (u : Bool) (at n : ℕ) → Still u a at n → Ends u (reach at) (reach (at + n)) (so_far glyph t (boundary t sp a.start)) (so_far glyph t (boundary t sp a.end))
    still_ends true at n (i, j) = ap reach j ∙ last_reach
    still_ends false at n (i, j) = ap reach i ∙ first_reach

    -- the part of the word that is met first lies within the word, and its glyphs behind T + R stay small
    pub going_fits : (R : W) (at n : ℕ) → Going number glyph t sp a up R at (suc n) →
        let w = next up at n in
        let word = word_at t (sp.offset + w) in
        (low a w + part_size a w word ≤ word.len) × (number (k.sum_of m T R) ≡ number T + number R) × (number (k.sum_of m T R) + so_far glyph t (word.offset + (low a w + part_size a w word)) < so_far glyph t (word.offset + low a w) + 2 ^ 32)
    going_fits R at n going =
        let w = next up at n in
        let word = word_at t (sp.offset + w) in
        let shape = still_word t sp sound a part up at n going.0 in
        let size : low a w + part_size a w word ≡ high a w (size_of t sp w) = omega (arith, shape.low_high) in
        let at_low = ap (so_far glyph t) shape.begins in
        let at_high : so_far glyph t (first_of t sp w + (low a w + part_size a w word)) ≡ reach (w + 1) = ap (λ (i : ℕ). so_far glyph t (first_of t sp w + i)) size ∙ ap (so_far glyph t) shape.ends in
        let (one, bal) = going_word R at n going in
        let rise = rises (later up at) (later up at + n) (omega arith) in
        let s = going_small R at (suc n) going in
        let TR = exact.sums T R s.0 in
        (omega (arith, size, shape.high_most), TR, omega arith)

    -- what the word that overflows gives, and so all that was laid of the span
    module _ (R : W) (blanks laid at n : ℕ) (going : Going number glyph t sp a up R at (suc n)) where
      abbrev pub gave : ℕ × W
      gave = let word = word_at t (sp.offset + next up at n) in cut k m rule (row_of t.glyphs word) up (k.sum_of m T R) laid (low a (next up at n)) (part_size a (next up at n) word)

      pub going_cut : (number (k.sum_of m R gave.1) ≡ number R + number gave.1) × (number (k.sum_of m R gave.1) ≡ adds_up glyph t (held t sp (cut_part k m t p rule sp a up T R blanks laid (next up at n)).stretch))
      going_cut = (R_more, R_more ∙ total ∙ sym (sum_cut up c within_low within_high))
        where
          w : ℕ
          w = next up at n

          word : Word
          word = word_at t (sp.offset + w)

          shape : WordPart t sp a w
          shape = still_word t sp sound a part up at n going.0

          size : low a w + part_size a w word ≡ high a w (size_of t sp w)
          size = omega (arith, shape.low_high)

          among : Among (low a w) (part_size a w word) gave.0
          among = cut_among k m rule (row_of t.glyphs word) up (k.sum_of m T R) laid (low a w) (part_size a w word)

          c : Place
          c = record { word = w; glyph = gave.0 }

          at_low : so_far glyph t (first_of t sp w + low a w) ≡ reach w
          at_low = ap (so_far glyph t) shape.begins

          at_high : so_far glyph t (first_of t sp w + (low a w + part_size a w word)) ≡ reach (w + 1)
          at_high = ap (λ (i : ℕ). so_far glyph t (first_of t sp w + i)) size ∙ ap (so_far glyph t) shape.ends

          sum_is : number gave.1 ≡ passed up (reach w) (so_far glyph t (boundary t sp c)) (reach (w + 1))
          sum_is =
              cut_sum k m number glyph from exact t word up rule (k.sum_of m T R) laid (low a w) (part_size a w word) (going_fits R at n going).0 (going_fits R at n going).2
              ∙ ap (λ (i : ℕ). passed up i (so_far glyph t (boundary t sp c)) (so_far glyph t (first_of t sp w + (low a w + part_size a w word)))) at_low
              ∙ ap (λ (i : ℕ). passed up (reach w) (so_far glyph t (boundary t sp c)) i) at_high

          sums : (x y : ℕ) → x ≤ y → so_far glyph t x ≤ so_far glyph t y
          sums x y l = below_rises (worth glyph t.glyphs) x y l

          after : reach w ≤ so_far glyph t (boundary t sp c)
          after = sums (join t sp a w) (boundary t sp c) (omega (arith, shape.begins, among.0))

          before : so_far glyph t (boundary t sp c) ≤ reach (w + 1)
          before = sums (boundary t sp c) (join t sp a (w + 1)) (omega (arith, shape.ends, among.1, size))

          within_low : boundary t sp a.start ≤ boundary t sp c
          within_low = omega (arith, shape.begins, among.0, ends_in_order t sp sound a part)

          within_high : boundary t sp c ≤ boundary t sp a.end
          within_high = omega (arith, shape.ends, among.1, size, ends_in_order t sp sound a part)

          total : number R + number gave.1 ≡ passed up (so_far glyph t (boundary t sp a.start)) (so_far glyph t (boundary t sp c)) (so_far glyph t (boundary t sp a.end))
          total =
              cut_total up (number R) (number gave.1) (adds_up glyph t (held t sp a)) (reach at) (reach (at + suc n)) (so_far glyph t (boundary t sp a.start)) (so_far glyph t (boundary t sp a.end)) (reach w) (so_far glyph t (boundary t sp c)) (reach (w + 1)) (reach (later up at)) (reach (later up at + n))
              (step_next reach up at n) (still_ends up at (suc n) going.0) going.1 all_ahead
              (sums (boundary t sp a.start) (join t sp a at) (omega (arith, ends_in_order t sp sound a part)))
              (sums (join t sp a (at + suc n)) (boundary t sp a.end) (omega arith))
              after before sum_is

          most : passed up (reach w) (so_far glyph t (boundary t sp c)) (reach (w + 1)) ≤ reach (w + 1) - reach w
          most = passed_most up (reach w) (so_far glyph t (boundary t sp c)) (reach (w + 1)) after before

          R_more : number (k.sum_of m R gave.1) ≡ number R + number gave.1
          R_more = exact.sums R gave.1 (omega (arith, at_low, at_high, (going_fits R at n going).1, (going_fits R at n going).2, sum_is, most, after, before))

    -- what was laid of the span is as wide as its glyphs add up to
    span_width : (first count : ℕ) (R : W) (blanks laid at n : ℕ) → Going number glyph t sp a up R at n →
        let q = in_span k m t p rule sp a up first count T R blanks laid at n in number q.width ≡ adds_up glyph t (held t sp q.stretch)
    span_width first count =
        in_span_by k m t p rule sp a up first count T (λ (R : W) (_ at n : ℕ). Going number glyph t sp a up R at n) (λ (q : Part W). number q.width ≡ adds_up glyph t (held t sp q.stretch))
        (λ R blanks laid at n going _. (going_cut R blanks laid at n going).1)
        (λ R _ at n going _. going_on R at n going)
        (λ R _ _ at going. going_last R at going)

  module _ (here : exists t p ≡ true) (way : LayoutDirection) where
    -- what is ahead in the spans still to walk, by the one that is met first
    pub ahead_first : (at n : ℕ) → adds_up glyph t (ahead_from t p at (suc n)) ≡ adds_up glyph t (held t (span_at t (next (forward way) at n)) (ahead_of t p (next (forward way) at n))) + adds_up glyph t (ahead_from t p (later (forward way) at) n)
    ahead_first at n =
        let s = next (forward way) at n in
        ap (adds_up glyph t) (ahead_pick t p way at n) ∙ adds_up_met glyph t way (held t (span_at t s) (ahead_of t p s)) (ahead_from t p (later (forward way) at) n)

    module _ (l : Lay W) (s first count : ℕ) (small : number l.width + adds_up glyph t (held t (span_at t s) (ahead_of t p s)) < 2 ^ 32) where
      abbrev laid_part : Part W
      laid_part = part_of k m t p rule way l s first count

      part_wide : number laid_part.width ≡ adds_up glyph t (held t (span_at t s) laid_part.stretch)
      part_wide =
          let a = ahead_of t p s in
          let up = goes_up t.direction (span_at t s) way in
          span_width (span_at t s) a (ahead_part t p here s) up l.width small first count (k.nil_of m) l.blanks l.laid a.start.word (words_in a) (going_first (span_at t s) a (ahead_part t p here s) up l.width small (k.nil_of m) exact.nilled)

      -- the line with this part
      pub line_more : number (with_part k m t p rule l s laid_part).width ≡ number l.width + number laid_part.width
      line_more =
          let rest = held t (span_at t s) (cut_off (goes_up t.direction (span_at t s) way) (ahead_of t p s) (left_at (goes_up t.direction (span_at t s) way) laid_part.stretch)) in
          let parts = ap (adds_up glyph t) (part_parted k m t p rule sound here way l s first count) ∙ adds_up_met glyph t way (held t (span_at t s) laid_part.stretch) rest in
          exact.sums l.width laid_part.width (omega (arith, part_wide))

      line_wide : number (with_part k m t p rule l s laid_part).width ≡ number l.width + adds_up glyph t (held t (span_at t s) laid_part.stretch)
      line_wide = line_more ∙ ap (λ (i : ℕ). number l.width + i) part_wide

      pub line_whole : laid_part.flagged ≡ false → number (with_part k m t p rule l s laid_part).width ≡ number l.width + adds_up glyph t (held t (span_at t s) (ahead_of t p s))
      line_whole e = line_wide ∙ ap (λ (a : Stretch). number l.width + adds_up glyph t (held t (span_at t s) a)) (part_whole k m t p rule sound here way l s first count e)

      line_adds_up : number l.width ≡ adds_up glyph t (shown t (in_order way l.ranges)) → number (with_part k m t p rule l s laid_part).width ≡ adds_up glyph t (shown t (in_order way (with_part k m t p rule l s laid_part).ranges))
      line_adds_up e =
          line_wide
          ∙ ap (λ (i : ℕ). i + adds_up glyph t (held t (span_at t s) laid_part.stretch)) e
          ∙ sym (adds_up_met glyph t way (shown t (in_order way l.ranges)) (held t (span_at t s) laid_part.stretch))
          ∙ ap (adds_up glyph t) (sym (part_shown k m t p rule sound here way l s first count))

    -- a walk by any rule is as wide as its glyphs add up to
    pub width_law : adds_up glyph t (ahead t p) < 2 ^ 32 → number (lay k m t p rule way).width ≡ adds_up glyph t (shown t (lay k m t p rule way).ranges)
    width_law small =
        walks_by k m t p rule way (λ (l : Lay W) (at n : ℕ). (number l.width + adds_up glyph t (ahead_from t p at n) < 2 ^ 32) × (number l.width ≡ adds_up glyph t (shown t (in_order way l.ranges)))) (λ (r : Lay W). number r.width ≡ adds_up glyph t (shown t (in_order way r.ranges)))
        (λ l at n (i, e) _. line_adds_up l (next (forward way) at n) (later (forward way) at) n (omega (arith, ahead_first at n)) e)
        (λ l at n (i, e) f.
        let few : number l.width + adds_up glyph t (held t (span_at t (next (forward way) at n)) (ahead_of t p (next (forward way) at n))) < 2 ^ 32 = omega (arith, ahead_first at n) in
        (omega (arith, ahead_first at n, line_whole l (next (forward way) at n) (later (forward way) at) n few f), line_adds_up l (next (forward way) at n) (later (forward way) at) n few e))
        (λ l at so. so.1)
        (nothing k m t p rule) p.span (length t.spans - p.span) (omega (arith, exact.nilled), exact.nilled ∙ ap (adds_up glyph t) (sym (none_shown t way)))
