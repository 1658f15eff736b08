-- On an exact measure, a walk with a width is flagged exactly if what is ahead adds up to more
use Rattle.std.proofs.Common.{◌≡◌, ℕ, suc, ◌+◌, ◌-◌, ◌^◌, ◌<◌, ◌≤◌, Bool, true, false, ◌&&◌, ltb, ◌⊎◌, length, sym, refl, ap, ◌∙◌, inl, inr, true≢false, arith}
use mathlib.Core.Bool.{false≢true}
use Rattle.std.proofs.lemmas.Bool.{or_cases, or_parts, and_parts, and_cases, ltb-true, ltb-false, lt-ltb, le-ltb}
use Rattle.glyph.specs.declared.glyph.Glyph.{Glyph}
use Rattle.measure.specs.Exact.{Exact}
use Rattle.measure.specs.declared.measure.Measure.{Ghosts}
use Rattle.paragraph.specs.Reading.{held, ahead, ahead_from, exists}
use Rattle.paragraph.specs.Text.{Text, Sound, word_at, span_at}
use Rattle.paragraph.specs.declared.place.Position.{Position}
use Rattle.paragraph.specs.declared.place.Stretch.{Stretch}
use Rattle.paragraph.specs.declared.span.Span.{Span}
use Rattle.walk.specs.Parts.{words_in, part_size, forward, goes_up, next, later}
use Rattle.walk.specs.Walk.{Part, Lay, cut_part, with_part, part_of, nothing, lay, walked}
use Rattle.walk.specs.Widths.{ahead_of, part_width, rest_width, overflow}
use Rattle.walk.specs.declared.line.LayoutDirection.{LayoutDirection}
use Rattle.walk.specs.declared.line.Rule.{Rule}
use Rattle.walk.specs.declared.line.Rule.TheVariants.{Closing, Taking}
use Rattle.walk_laws.specs.Shown.{adds_up}
use Rattle.walk_laws.proofs.Joins.{join}
use Rattle.walk_laws.proofs.Laid.{Going, going_first, going_last, going_word, going_on, going_rest, ahead_first, line_whole}
use Rattle.walk_laws.proofs.Numbers.{so_far}
use Rattle.walk_laws.proofs.Places.{PartOfSpan, ahead_part}
use Rattle.walk_laws.proofs.Runs.{overflows, in_span_by, walks_by}
use Rattle.walk_laws.proofs.Spans.{still_word}

-- What a rule must obey to keep lines to the width `most`: a word that does not overflow stays within it, and one that does would pass it with what is
-- still to walk. `spare` is what the rule itself adds to the words
pub record Keeps {S W : Type 0} (k : Ghosts S W) (m : S) (number : W → ℕ) (rule : Rule W) (most spare : ℕ) : Type 0 where
  pub stays : (before x rest : W) (n : ℕ) → number before + number x + number rest + spare < 2 ^ 32 → number before ≤ most → (n ≡ 0 → number x ≡ 0) → overflow k m rule before x rest n ≡ false → number before + number x ≤ most
  pub stops : (before x rest : W) (n : ℕ) → number before + number x + number rest + spare < 2 ^ 32 → overflow k m rule before x rest n ≡ true → most < number before + number x + number rest

-- a walk goes on in a span, and is within the width
abbrev pub Within : {W : Type 0} → (W → ℕ) → (Glyph → ℕ) → Text → Span → Stretch → Bool → W → ℕ → W → ℕ → ℕ → Type 0
Within number glyph t sp a up T most R at n = Going number glyph t sp a up R at n × (number T + number R ≤ most)

module _ {S W : Type 0} (k : Ghosts S W) (m : S) (number : W → ℕ) (glyph : Glyph → ℕ) (from : ℕ → W) (exact : Exact k m number glyph from) where
  over_true : (x width : W) → k.over_of m x width ≡ true → number width < number x
  over_true x width e = ltb-true (number width) (number x) (sym (exact.overs x width) ∙ e)

  over_false : (x width : W) → k.over_of m x width ≡ false → number x ≤ number width
  over_false x width e = ltb-false (number width) (number x) (sym (exact.overs x width) ∙ e)

  pub closing_keeps : (width ellipsis : W) → Keeps k m number (Closing width ellipsis) (number width) (number ellipsis)
  closing_keeps width ellipsis = record {
    stays = λ before x rest n small _ _ e.
        let s = exact.sums before x (omega arith) in
        omega (arith, over_false (k.sum_of m before x) width (or_parts (k.over_of m (k.sum_of m before x) width) (k.over_of m rest ellipsis && k.over_of m (k.sum_of m (k.sum_of m before x) ellipsis) width) e).0);
    stops = λ before x rest n small e. by before x rest small (or_cases (k.over_of m (k.sum_of m before x) width) (k.over_of m rest ellipsis && k.over_of m (k.sum_of m (k.sum_of m before x) ellipsis) width) e);
  }
    where
      by : (before x rest : W) → number before + number x + number rest + number ellipsis < 2 ^ 32 → (k.over_of m (k.sum_of m before x) width ≡ true) ⊎ ((k.over_of m rest ellipsis && k.over_of m (k.sum_of m (k.sum_of m before x) ellipsis) width) ≡ true) → number width < number before + number x + number rest
      by before x rest small (inl e) = omega (arith, over_true (k.sum_of m before x) width e, exact.sums before x (omega arith))
      by before x rest small (inr e) =
          let both = and_parts (k.over_of m rest ellipsis) (k.over_of m (k.sum_of m (k.sum_of m before x) ellipsis) width) e in
          let s = exact.sums before x (omega arith) in
          let u = exact.sums (k.sum_of m before x) ellipsis (omega arith) in
          omega (arith, over_true rest ellipsis both.0, over_true (k.sum_of m (k.sum_of m before x) ellipsis) width both.1)

  pub taking_keeps : (width : W) → Keeps k m number (Taking width) (number width) 0
  taking_keeps width = record {
    stays = λ before x rest n small fits empty e. by before x rest n small fits empty (and_cases (ltb 0 n) (k.over_of m (k.sum_of m before x) width) e);
    stops = λ before x rest n small e.
        let s = exact.sums before x (omega arith) in
        omega (arith, over_true (k.sum_of m before x) width (and_parts (ltb 0 n) (k.over_of m (k.sum_of m before x) width) e).1);
  }
    where
      by : (before x rest : W) (n : ℕ) → number before + number x + number rest + 0 < 2 ^ 32 → number before ≤ number width → (n ≡ 0 → number x ≡ 0) → (ltb 0 n ≡ false) ⊎ (k.over_of m (k.sum_of m before x) width ≡ false) → number before + number x ≤ number width
      by before x rest n small fits empty (inl e) = let z = ltb-false 0 n e in omega (arith, empty (omega arith))
      by before x rest n small fits empty (inr e) = omega (arith, over_false (k.sum_of m before x) width e, exact.sums before x (omega arith))

  module _ (t : Text) (sound : Sound t) (p : Position) (here : exists t p ≡ true) (rule : Rule W) (most spare : ℕ) (keeps : Keeps k m number rule most spare) where
    module _ (sp : Span) (a : Stretch) (part : PartOfSpan t sp a) (up : Bool) (first count : ℕ) (T : W)
        (small : number T + adds_up glyph t (held t sp a) < 2 ^ 32)
        (all_small : number T + adds_up glyph t (held t sp a) + adds_up glyph t (ahead_from t p first count) + spare < 2 ^ 32) where
      -- a word without a glyph ahead is as wide as nothing
      empty_word : (R : W) (at n : ℕ) → Going number glyph t sp a up R at (suc n) → part_size a (next up at n) (word_at t (sp.offset + next up at n)) ≡ 0 → number (part_width k m t sp a (next up at n)) ≡ 0
      empty_word R at n going none =
          let w = next up at n in
          let word = still_word t sp sound a part up at n going.0 in
          let same : join t sp a w ≡ join t sp a (w + 1) = omega (arith, word.low_high, word.begins, word.ends) in
          omega (arith, ap (so_far glyph t) same, (going_word k m number glyph from exact t sound p rule sp a part up T small R at n going).0)

      within_on : (R : W) (at n : ℕ) → Within number glyph t sp a up T most R at (suc n) → overflows k m t p rule sp a up first count T R at n ≡ false → Within number glyph t sp a up T most (k.sum_of m R (part_width k m t sp a (next up at n))) (later up at) n
      within_on R at n (going, fits) e =
          let x = part_width k m t sp a (next up at n) in
          let more = going_on k m number glyph from exact t sound p rule sp a part up T small R at n going in
          let (one, bal) = going_word k m number glyph from exact t sound p rule sp a part up T small R at n going in
          let (TR, total) = going_rest k m number glyph from exact t sound p rule sp a part up T small here first count (omega arith) R at n going in
          let stays = keeps.stays (k.sum_of m T R) x (rest_width k m t p sp a (later up at) n first count) (part_size a (next up at n) (word_at t (sp.offset + next up at n))) (omega arith) (omega arith) (empty_word R at n going) e in
          (more, omega arith)

      within_not : (R : W) (at n : ℕ) → Within number glyph t sp a up T most R at (suc n) → overflows k m t p rule sp a up first count T R at n ≡ true → most < number T + adds_up glyph t (held t sp a) + adds_up glyph t (ahead_from t p first count)
      within_not R at n (going, fits) e =
          let (TR, total) = going_rest k m number glyph from exact t sound p rule sp a part up T small here first count (omega arith) R at n going in
          omega (arith, keeps.stops (k.sum_of m T R) (part_width k m t sp a (next up at n)) (rest_width k m t p sp a (later up at) n first count) (part_size a (next up at n) (word_at t (sp.offset + next up at n))) (omega arith) e)

    module _ (way : LayoutDirection) where
      abbrev first_part : Lay W → ℕ → ℕ → Part W
      first_part l at n = part_of k m t p rule way l (next (forward way) at n) (later (forward way) at) n

      abbrev with_first : Lay W → ℕ → ℕ → Lay W
      with_first l at n = with_part k m t p rule l (next (forward way) at n) (first_part l at n)

      -- a line that is within the width comes to a span: what holds of what it lays there
      module _ (l : Lay W) (at n : ℕ) (small : number l.width + adds_up glyph t (ahead_from t p at (suc n)) + spare < 2 ^ 32) (fits : number l.width ≤ most) where
        abbrev met_first : ℕ
        met_first = next (forward way) at n

        abbrev ups : Bool
        ups = goes_up t.direction (span_at t met_first) way

        pub part_small : number l.width + adds_up glyph t (held t (span_at t met_first) (ahead_of t p met_first)) < 2 ^ 32
        part_small = omega (arith, ahead_first k m number glyph from exact t sound p rule here way at n)

        all_small : number l.width + adds_up glyph t (held t (span_at t met_first) (ahead_of t p met_first)) + adds_up glyph t (ahead_from t p (later (forward way) at) n) + spare < 2 ^ 32
        all_small = omega (arith, ahead_first k m number glyph from exact t sound p rule here way at n)

        part : PartOfSpan t (span_at t met_first) (ahead_of t p met_first)
        part = ahead_part t p here met_first

        abbrev WithinHere : W → ℕ → ℕ → Type 0
        WithinHere = Within number glyph t (span_at t met_first) (ahead_of t p met_first) ups l.width most

        pub part_by : (Then : Part W → Type 0) →
            ((R : W) (blanks laid w c : ℕ) → WithinHere R w (suc c) → overflows k m t p rule (span_at t met_first) (ahead_of t p met_first) ups (later (forward way) at) n l.width R w c ≡ true → Then (cut_part k m t p rule (span_at t met_first) (ahead_of t p met_first) ups l.width R blanks laid (next ups w c))) →
            ((R : W) (blanks laid w : ℕ) → WithinHere R w 0 → Then (record { stretch = ahead_of t p met_first; width = R; blanks = blanks; laid = laid; flagged = false })) →
            Then (first_part l at n)
        part_by Then cuts ends =
            let sp = span_at t met_first in
            let a = ahead_of t p met_first in
            let going = going_first k m number glyph from exact t sound p rule sp a part ups l.width part_small (k.nil_of m) exact.nilled in
            in_span_by k m t p rule sp a ups (later (forward way) at) n l.width (λ (R : W) (_ w c : ℕ). WithinHere R w c) Then
            cuts
            (λ R _ w c so e. within_on sp a part ups (later (forward way) at) n l.width part_small all_small R w c so e)
            ends
            (k.nil_of m) l.blanks l.laid a.start.word (words_in a) (going, omega (arith, exact.nilled, fits))

        -- flagged only if what is ahead passes the width, and else within it
        part_flag : ((first_part l at n).flagged ≡ false → number l.width + adds_up glyph t (held t (span_at t met_first) (ahead_of t p met_first)) ≤ most) × ((first_part l at n).flagged ≡ true → most < number l.width + adds_up glyph t (ahead_from t p at (suc n)))
        part_flag =
            let sp = span_at t met_first in
            let a = ahead_of t p met_first in
            let then = later (forward way) at in
            part_by (λ (q : Part W). (q.flagged ≡ false → number l.width + adds_up glyph t (held t sp a) ≤ most) × (q.flagged ≡ true → most < number l.width + adds_up glyph t (ahead_from t p at (suc n))))
            (λ R _ _ w c so e. (λ z. absurd (true≢false z), λ _. omega (arith, within_not sp a part ups then n l.width part_small all_small R w c so e, ahead_first k m number glyph from exact t sound p rule here way at n)))
            (λ R _ _ w so. (λ _. omega (arith, going_last k m number glyph from exact t sound p rule sp a part ups l.width part_small R w so.0, so.1), λ z. absurd (false≢true z)))

      -- a walk goes on over the spans within the width, and so does what else stays true: what holds of the line in the end
      pub walk_by : adds_up glyph t (ahead t p) + spare < 2 ^ 32 → (Also Then : Lay W → Type 0) →
          ((l : Lay W) (at n : ℕ) → number l.width + adds_up glyph t (ahead_from t p at (suc n)) + spare < 2 ^ 32 → number l.width ≤ most → Also l → (first_part l at n).flagged ≡ false → Also (with_first l at n)) →
          ((l : Lay W) (at n : ℕ) → number l.width + adds_up glyph t (ahead_from t p at (suc n)) + spare < 2 ^ 32 → number l.width ≤ most → number l.width + adds_up glyph t (ahead_from t p at (suc n)) ≡ adds_up glyph t (ahead t p) → Also l → (first_part l at n).flagged ≡ true → Then (with_first l at n)) →
          ((l : Lay W) → l.flagged ≡ false → number l.width ≡ adds_up glyph t (ahead t p) → number l.width ≤ most → Also l → Then l) →
          Also (nothing k m t p rule) → Then (walked k m t p rule way)
      walk_by small Also Then goes cuts ends first =
          walks_by k m t p rule way (λ (l : Lay W) (at n : ℕ). (l.flagged ≡ false) × (number l.width + adds_up glyph t (ahead_from t p at n) ≡ adds_up glyph t (ahead t p)) × (number l.width ≤ most) × Also l) Then
          (λ l at n (f, e, fits, so) flagged. cuts l at n (omega arith) fits e so flagged)
          (λ l at n (f, e, fits, so) flagged.
          let few : number l.width + adds_up glyph t (ahead_from t p at (suc n)) + spare < 2 ^ 32 = omega arith in
          let wide = line_whole k m number glyph from exact t sound p rule here way l (next (forward way) at n) (later (forward way) at) n (part_small l at n few fits) flagged in
          let both = ahead_first k m number glyph from exact t sound p rule here way at n in
          (flagged, omega arith, omega (arith, (part_flag l at n few fits).0 flagged), goes l at n few fits so flagged))
          (λ l at (f, e, fits, so). ends l f (omega arith) fits so)
          (nothing k m t p rule) p.span (length t.spans - p.span) (refl, omega (arith, exact.nilled), omega (arith, exact.nilled), first)

      pub flag_law : adds_up glyph t (ahead t p) + spare < 2 ^ 32 → (lay k m t p rule way).flagged ≡ ltb most (adds_up glyph t (ahead t p))
      flag_law small =
          walk_by small (λ (_ : Lay W). Unit {0}) (λ (r : Lay W). r.flagged ≡ ltb most (adds_up glyph t (ahead t p)))
          (λ _ _ _ _ _ _ _. tt)
          (λ l at n few fits e _ flagged. flagged ∙ sym (lt-ltb most (adds_up glyph t (ahead t p)) (omega (arith, (part_flag l at n few fits).1 flagged))))
          (λ l f e fits _. f ∙ sym (le-ltb most (adds_up glyph t (ahead t p)) (omega arith)))
          tt
