-- What a walk shows, on any measure and by any rule
use Rattle.std.proofs.Common.{◌≡◌, ℕ, zero, suc, ◌+◌, ◌-◌, ◌≤◌, Bool, true, false, List, [], ◌∷◌, ◌++◌, reverse, length, sym, refl, ap, ◌∙◌, subst, true≢false, append-nil, arith}
use Rattle.std.proofs.lemmas.List.{reverse-append}
use Rattle.std.proofs.lemmas.Bool.{cond_both}
use Rattle.measure.specs.declared.measure.Measure.{Ghosts}
use Rattle.paragraph.specs.Reading.{boundary, held, ahead, ahead_from, exists}
use Rattle.paragraph.specs.Text.{Text, Sound, span_at}
use Rattle.paragraph.specs.declared.place.Place.{Place}
use Rattle.paragraph.specs.declared.place.Position.{Position}
use Rattle.paragraph.specs.declared.place.Stretch.{Stretch}
use Rattle.paragraph.specs.declared.span.Span.{Span}
use Rattle.walk.specs.Parts.{words_in, forward, goes_up, next, later}
use Rattle.walk.specs.Walk.{Part, Lay, cut_to, in_order, kept, range_of, same_place, with_part, part_of, walks, nothing, lay}
use Rattle.walk.specs.Widths.{ahead_of}
use Rattle.walk.specs.declared.line.LayoutDirection.{LayoutDirection}
use Rattle.walk.specs.declared.line.LayoutDirection.TheVariants.{Forward, Backward}
use Rattle.walk.specs.declared.line.Rule.{Rule}
use Rattle.walk.specs.declared.line.VlRange.{VlRange}
use Rattle.walk_laws.specs.Laws.{RangeOf, SpanBySpan, met, WalkLaw}
use Rattle.walk_laws.specs.Shown.{shown}
use Rattle.walk_laws.proofs.Held.{met_met, length_met, cut_off, held_cut, length_cut, shown_kept, ahead_pick}
use Rattle.walk_laws.proofs.Joins.{join, joins_first, joins_last}
use Rattle.walk_laws.proofs.Places.{existing, PartOfSpan, ahead_part, place_from_inside, before_unless_same}
use Rattle.walk_laws.proofs.Spans.{left_at, CutPlace, SpanLaw, still_all, span_law, cut_at_left}

-- ranges span by span, in a wider interval, and with one more behind them
widened : (t : Text) (low high low' high' : ℕ) (rs : List VlRange) → low' ≤ low → high ≤ high' → SpanBySpan t low high rs → SpanBySpan t low' high' rs
widened t low high low' high' [] i j rs_in = tt
widened t low high low' high' (r ∷ rs) i j (s, l, h, own, rest) = (s, omega arith, omega arith, own, widened t (s + 1) high (s + 1) high' rs (omega arith) j rest)

pushed : (t : Text) (low s : ℕ) (rs : List VlRange) (r : VlRange) → low ≤ s → RangeOf t s r → SpanBySpan t low s rs → SpanBySpan t low (s + 1) (rs ++ r ∷ [])
pushed t low s [] r i own rs_in = (s, i, omega arith, own, tt)
pushed t low s (q ∷ rs) r i own (v, l, h, first, rest) = (v, l, omega arith, first, pushed t (v + 1) s rs r (omega arith) own rest)

-- what was laid of a span is a part of it, so it makes a range
laid_part : {W : Type 0} (t : Text) (sp : Span) (a : Stretch) (up : Bool) (low high laid : ℕ) (q : Part W) → PartOfSpan t sp a → SpanLaw t sp a up low high laid q → PartOfSpan t sp q.stretch
laid_part t sp a up low high laid q part law = subst (PartOfSpan t sp) (sym law.cut_is) (by up (left_at up q.stretch) law.place)
  where
    by : (u : Bool) (c : Place) → CutPlace t sp a low high c → PartOfSpan t sp (cut_to u a c)
    by true c here = record { start_in = part.start_in; end_in = here.in_span; in_order = here.from_start }
    by false c here = record { start_in = here.in_span; end_in = part.end_in; in_order = here.to_end }

range_law : (t : Text) (s : ℕ) (a : Stretch) → PartOfSpan t (span_at t s) a → same_place a.start a.end ≡ false → RangeOf t s (range_of t s a)
range_law t s a part e = record {
  span_is = refl;
  level_is = refl;
  start_in = place_from_inside t (span_at t s) a.start part.start_in;
  end_in = place_from_inside t (span_at t s) a.end part.end_in;
  start_first = before_unless_same a.start a.end e part.in_order;
}

-- the ranges so far of a walk that has the n spans from `at` on still before it
abbrev RangesSoFar : Text → ℕ → ℕ → LayoutDirection → ℕ → ℕ → List VlRange → Type 0
RangesSoFar t bottom top Forward at n rs = SpanBySpan t bottom at rs
RangesSoFar t bottom top Backward at n rs = SpanBySpan t (at + n) top (reverse rs)

ranges_more : (t : Text) (bottom top : ℕ) (way : LayoutDirection) (at n : ℕ) (rs : List VlRange) (a : Stretch) → bottom ≤ at → at + suc n ≤ top → PartOfSpan t (span_at t (next (forward way) at n)) a →
    RangesSoFar t bottom top way at (suc n) rs → RangesSoFar t bottom top way (later (forward way) at) n (kept rs (range_of t (next (forward way) at n) a))
ranges_more t bottom top Forward at n rs a i j part so_far =
    cond_both (same_place a.start a.end) rs (rs ++ range_of t at a ∷ []) (SpanBySpan t bottom (at + 1))
    (λ _. widened t bottom at bottom (at + 1) rs (omega arith) (omega arith) so_far)
    (λ e. pushed t bottom at rs (range_of t at a) i (range_law t at a part e) so_far)
ranges_more t bottom top Backward at n rs a i j part so_far =
    cond_both (same_place a.start a.end) rs (rs ++ range_of t (at + n) a ∷ []) (λ (l : List VlRange). SpanBySpan t (at + n) top (reverse l))
    (λ _. widened t (at + suc n) top (at + n) top (reverse rs) (omega arith) (omega arith) so_far)
    (λ e. subst (SpanBySpan t (at + n) top) (sym (reverse-append rs (range_of t (at + n) a ∷ []))) (at + n, omega arith, omega arith, range_law t (at + n) a part e, widened t (at + suc n) top (at + n + 1) top (reverse rs) (omega arith) (omega arith) so_far))

ranges_done : (t : Text) (bottom top : ℕ) (way : LayoutDirection) (at n : ℕ) (rs : List VlRange) → bottom ≤ at → at + n ≤ top → RangesSoFar t bottom top way at n rs → SpanBySpan t bottom top (in_order way rs)
ranges_done t bottom top Forward at n rs i j so_far = widened t bottom at bottom top rs (omega arith) (omega arith) so_far
ranges_done t bottom top Backward at n rs i j so_far = widened t (at + n) top bottom top (reverse rs) (omega arith) (omega arith) so_far

none_so_far : (t : Text) (bottom top : ℕ) (way : LayoutDirection) (at n : ℕ) → RangesSoFar t bottom top way at n []
none_so_far t bottom top Forward at n = tt
none_so_far t bottom top Backward at n = tt

pub none_shown : (t : Text) (way : LayoutDirection) → shown t (in_order way []) ≡ []
none_shown t Forward = refl
none_shown t Backward = refl

met_all : (way : LayoutDirection) (xs : List ℕ) → met way [] xs ≡ xs
met_all Forward xs = refl
met_all Backward xs = append-nil xs

-- a walk that went from the line l to the line r, where `all` was still ahead
record Went {W : Type 0} (t : Text) (bottom top : ℕ) (way : LayoutDirection) (l r : Lay W) (all : List ℕ) : Type 0 where
  leaves : List ℕ
  parted : met way (shown t (in_order way l.ranges)) all ≡ met way (shown t (in_order way r.ranges)) leaves
  counted : r.laid ≡ length (shown t (in_order way r.ranges))
  all_shown : r.flagged ≡ false → leaves ≡ []
  ranges_in : SpanBySpan t bottom top (in_order way r.ranges)

later_least : (u : Bool) (at : ℕ) → at ≤ later u at
later_least true at = omega arith
later_least false at = omega arith

later_most : (u : Bool) (at n : ℕ) → later u at + n ≤ at + suc n
later_most true at n = omega arith
later_most false at n = omega arith

module _ {S W : Type 0} (k : Ghosts S W) (m : S) (t : Text) (p : Position) (rule : Rule W) (sound : Sound t) (here : exists t p ≡ true) (way : LayoutDirection) where
  abbrev ups : ℕ → Bool
  ups s = goes_up t.direction (span_at t s) way

  -- what the walk lays of a span when it comes to it
  pub part_law : (l : Lay W) (s first count : ℕ) → SpanLaw t (span_at t s) (ahead_of t p s) (goes_up t.direction (span_at t s) way) (boundary t (span_at t s) (ahead_of t p s).start) (boundary t (span_at t s) (ahead_of t p s).end) l.laid (part_of k m t p rule way l s first count)
  part_law l s first count =
      let sp = span_at t s in
      let a = ahead_of t p s in
      let q = part_of k m t p rule way l s first count in
      let law = span_law t sp sound a (ahead_part t p here s) k m p rule (ups s) first count l.width (k.nil_of m) l.blanks l.laid a.start.word (words_in a) (still_all (ups s) a) in
      subst (λ (i : ℕ). SpanLaw t sp a (ups s) i (boundary t sp a.end) l.laid q) (joins_first t sp sound a (ahead_part t p here s))
      (subst (λ (i : ℕ). SpanLaw t sp a (ups s) (join t sp a a.start.word) i l.laid q) (joins_last t sp sound a (ahead_part t p here s)) law)

  module _ (l : Lay W) (s first count : ℕ) where
    abbrev part : Part W
    part = part_of k m t p rule way l s first count

    abbrev cut_place : Place
    cut_place = left_at (ups s) part.stretch

    pub part_shown : shown t (in_order way (with_part k m t p rule l s part).ranges) ≡ met way (shown t (in_order way l.ranges)) (held t (span_at t s) part.stretch)
    part_shown = shown_kept t way l.ranges s part.stretch

    pub part_parted : held t (span_at t s) (ahead_of t p s) ≡ met way (held t (span_at t s) part.stretch) (held t (span_at t s) (cut_off (ups s) (ahead_of t p s) cut_place))
    part_parted =
        held_cut t (span_at t s) way (ahead_of t p s) cut_place (part_law l s first count).place.from_low (part_law l s first count).place.to_high
        ∙ ap (λ (a : Stretch). met way (held t (span_at t s) a) (held t (span_at t s) (cut_off (ups s) (ahead_of t p s) cut_place))) (sym (part_law l s first count).cut_is)

    pub part_whole : part.flagged ≡ false → part.stretch ≡ ahead_of t p s
    part_whole e = (part_law l s first count).cut_is ∙ ap (cut_to (ups s) (ahead_of t p s)) ((part_law l s first count).all e) ∙ sym (cut_at_left (ups s) (ahead_of t p s))

    part_counted : part.laid ≡ l.laid + length (held t (span_at t s) part.stretch)
    part_counted =
        (part_law l s first count).counted
        ∙ ap (λ (i : ℕ). l.laid + i) (sym (length_cut t (span_at t s) (ups s) (ahead_of t p s) cut_place))
        ∙ ap (λ (a : Stretch). l.laid + length (held t (span_at t s) a)) (sym (part_law l s first count).cut_is)

  went : (l : Lay W) (at n : ℕ) → p.span ≤ at → at + n ≤ length t.spans → l.laid ≡ length (shown t (in_order way l.ranges)) → RangesSoFar t p.span (length t.spans) way at n l.ranges → Went t p.span (length t.spans) way l (walks k m t p rule way l at n) (ahead_from t p at n)
  went l at zero i j counted so_far = record {
    leaves = [];
    parted = refl;
    counted = counted;
    all_shown = λ _. refl;
    ranges_in = ranges_done t p.span (length t.spans) way at zero l.ranges i j so_far;
  }
  went l at (suc n) i j counted so_far =
      cond_both q.flagged l₁ (walks k m t p rule way l₁ then n) (λ (r : Lay W). Went t p.span (length t.spans) way l r (ahead_from t p at (suc n)))
      (λ e. record {
        leaves = met way rest (ahead_from t p then n);
        parted =
            ap (met way (shown t (in_order way l.ranges))) (ahead_pick t p way at n ∙ ap (λ (x : List ℕ). met way x (ahead_from t p then n)) (part_parted l s then n) ∙ met_met way own rest (ahead_from t p then n))
            ∙ sym (met_met way (shown t (in_order way l.ranges)) own (met way rest (ahead_from t p then n)))
            ∙ ap (λ (x : List ℕ). met way x (met way rest (ahead_from t p then n))) (sym (part_shown l s then n));
        counted = counted₁;
        all_shown = λ z. absurd (true≢false (sym e ∙ z));
        ranges_in = ranges_done t p.span (length t.spans) way then n l₁.ranges i₁ j₁ so_far₁;
      })
      (λ e. on e (went l₁ then n i₁ j₁ counted₁ so_far₁))
    where
      s : ℕ
      s = next (forward way) at n

      then : ℕ
      then = later (forward way) at

      q : Part W
      q = part_of k m t p rule way l s then n

      l₁ : Lay W
      l₁ = with_part k m t p rule l s q

      own : List ℕ
      own = held t (span_at t s) q.stretch

      rest : List ℕ
      rest = held t (span_at t s) (cut_off (ups s) (ahead_of t p s) (cut_place l s then n))

      i₁ : p.span ≤ then
      i₁ = omega (arith, i, later_least (forward way) at)

      j₁ : then + n ≤ length t.spans
      j₁ = omega (arith, j, later_most (forward way) at n)

      counted₁ : q.laid ≡ length (shown t (in_order way l₁.ranges))
      counted₁ = part_counted l s then n ∙ ap (λ (x : ℕ). x + length own) counted ∙ sym (length_met way (shown t (in_order way l.ranges)) own) ∙ ap length (sym (part_shown l s then n))

      so_far₁ : RangesSoFar t p.span (length t.spans) way then n l₁.ranges
      so_far₁ = ranges_more t p.span (length t.spans) way at n l.ranges q.stretch i j (laid_part t (span_at t s) (ahead_of t p s) (ups s) _ _ _ q (ahead_part t p here s) (part_law l s then n)) so_far

      on : q.flagged ≡ false → Went t p.span (length t.spans) way l₁ (walks k m t p rule way l₁ then n) (ahead_from t p then n) → Went t p.span (length t.spans) way l (walks k m t p rule way l₁ then n) (ahead_from t p at (suc n))
      on e law = record {
        leaves = law.leaves;
        parted =
            ap (met way (shown t (in_order way l.ranges))) (ahead_pick t p way at n ∙ ap (λ (a : Stretch). met way (held t (span_at t s) a) (ahead_from t p then n)) (sym (part_whole l s then n e)))
            ∙ sym (met_met way (shown t (in_order way l.ranges)) own (ahead_from t p then n))
            ∙ ap (λ (x : List ℕ). met way x (ahead_from t p then n)) (sym (part_shown l s then n))
            ∙ law.parted;
        counted = law.counted;
        all_shown = law.all_shown;
        ranges_in = law.ranges_in;
      }

  pub walk_law : WalkLaw t p way (lay k m t p rule way)
  walk_law =
      let law = went (nothing k m t p rule) p.span (length t.spans - p.span) (omega arith) (omega (arith, (existing t p here).span_most)) (ap length (sym (none_shown t way))) (none_so_far t p.span (length t.spans) way p.span (length t.spans - p.span)) in
      record {
        leaves = law.leaves;
        parted = sym (met_all way (ahead t p)) ∙ ap (λ (x : List ℕ). met way x (ahead t p)) (sym (none_shown t way)) ∙ law.parted;
        counted = law.counted;
        all_shown = law.all_shown;
        ranges_in = law.ranges_in;
      }
