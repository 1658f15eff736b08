-- On an exact measure, a closing walk keeps to the width, and leaves room for the ellipsis if it shows a part of the word that overflowed
use Rattle.std.proofs.Common.{◌≡◌, ℕ, suc, ◌+◌, ◌-◌, ◌^◌, ◌<◌, ◌≤◌, Bool, true, false, cond, eqb, ltb, ◌⊎◌, List, [], ◌∷◌, ◌++◌, length, Some, sym, refl, ap, ◌∙◌, subst, inl, inr, arith}
use mathlib.Core.Bool.{false≢true}
use Rattle.std.proofs.lemmas.List.{reverse-append}
use Rattle.std.proofs.lemmas.Bool.{cond_both, cond-true, eqb-true, ltb-true, lt-ltb}
use Rattle.glyph.specs.declared.glyph.Glyph.{Glyph}
use Rattle.measure.specs.Exact.{Exact}
use Rattle.measure.specs.declared.measure.Measure.{Ghosts}
use Rattle.paragraph.specs.Reading.{held, between, edge, whole, ahead, ahead_from, exists}
use Rattle.paragraph.specs.Text.{Text, Sound, word_at, span_at, congruent}
use Rattle.paragraph.specs.declared.place.Place.{Place}
use Rattle.paragraph.specs.declared.place.Position.{Position}
use Rattle.paragraph.specs.declared.place.Stretch.{Stretch}
use Rattle.paragraph.specs.declared.span.Span.{Span}
use Rattle.paragraph.specs.declared.word.Word.{Word}
use Rattle.walk.specs.Fit.{cut}
use Rattle.walk.specs.Parts.{low, high, part_size, row_of, forward, goes_up, next, later}
use Rattle.walk.specs.Walk.{Part, Lay, cut_to, cut_part, in_order, kept, range_of, same_place, with_part, part_of, lay}
use Rattle.walk.specs.Widths.{ahead_of}
use Rattle.walk.specs.declared.line.LayoutDirection.{LayoutDirection}
use Rattle.walk.specs.declared.line.LayoutDirection.TheVariants.{Forward, Backward}
use Rattle.walk.specs.declared.line.Rule.{Rule}
use Rattle.walk.specs.declared.line.Rule.TheVariants.{Closing}
use Rattle.walk.specs.declared.line.VlRange.{VlRange}
use Rattle.walk_laws.specs.Laws.{met, BetweenWords, Uncut, WholeWords, ClosingLaw}
use Rattle.walk_laws.specs.Shown.{adds_up, shown}
use Rattle.walk_laws.proofs.Flags.{Keeps, Within, closing_keeps, part_small, part_by, walk_by, flag_law}
use Rattle.walk_laws.proofs.Held.{length_met}
use Rattle.walk_laws.proofs.Joins.{WordPart}
use Rattle.walk_laws.proofs.Laid.{adds_up_met, going_fits, going_cut, line_more, width_law}
use Rattle.walk_laws.proofs.Numbers.{so_far}
use Rattle.walk_laws.proofs.Places.{size_of, PartOfSpan, ahead_part}
use Rattle.walk_laws.proofs.Spans.{left_at, left_at_cut, still_word}
use Rattle.walk_laws.proofs.Sums.{Took, fits_sum}
use Rattle.walk_laws.proofs.Walks.{walk_law, part_law, part_whole}

-- an end of a stretch, or a place between words
abbrev EndOf : Text → Span → Stretch → Place → Type 0
EndOf t sp a c = (c ≡ a.start) ⊎ ((c ≡ a.end) ⊎ BetweenWords t sp c)

-- where a walk would come into a word of a stretch
came_to : (t : Text) (sp : Span) (a : Stretch) (up : Bool) (w g : ℕ) → WordPart t sp a w → g ≡ next up (low a w) (high a w (size_of t sp w) - low a w) → EndOf t sp a (record { word = w; glyph = g })
came_to t sp a true w g word e = by word.low_is
  where
    by : ((w ≡ a.start.word) × (low a w ≡ a.start.glyph)) ⊎ (low a w ≡ 0) → EndOf t sp a (record { word = w; glyph = g })
    by (inl (u, v)) = inl (λ i. record { word = u i; glyph = (e ∙ v) i })
    by (inr u) = inr (inr (inl (e ∙ u)))
came_to t sp a false w g word e = by word.high_is
  where
    top : g ≡ high a w (size_of t sp w)
    top = omega (arith, e, word.low_high)

    by : ((w ≡ a.end.word) × (high a w (size_of t sp w) ≡ a.end.glyph)) ⊎ (high a w (size_of t sp w) ≡ size_of t sp w) → EndOf t sp a (record { word = w; glyph = g })
    by (inl (u, v)) = inr (inl (λ i. record { word = u i; glyph = (top ∙ v) i }))
    by (inr u) = inr (inr (inr (top ∙ u ∙ sym (cond-true (ltb w sp.len) (size_of t sp w) 0 (lt-ltb w sp.len word.in_span)))))

abbrev EndsUncut : Text → Position → ℕ → Stretch → Type 0
EndsUncut t p s a = Uncut t p (Some s) a.start × Uncut t p (Some s) a.end

module _ (t : Text) (p : Position) where
  -- what is ahead in a span cuts no word but the position's own
  ahead_uncut : (s : ℕ) → EndsUncut t p s (ahead_of t p s)
  ahead_uncut s =
      cond_both (eqb s p.span) (cond (congruent t.direction sp.level) (between p.place (edge sp.len)) (between (edge 0) p.place)) (whole sp) (EndsUncut t p s)
      (λ e.
      let own : (s ≡ p.span) × (p.place ≡ p.place) = (eqb-true s p.span e, refl) in
      cond_both (congruent t.direction sp.level) (between p.place (edge sp.len)) (between (edge 0) p.place) (EndsUncut t p s) (λ _. (inr own, inl (inl refl))) (λ _. (inl (inl refl), inr own)))
      (λ _. (inl (inl refl), inl (inl refl)))
    where
      sp : Span
      sp = span_at t s

  end_uncut : (s : ℕ) (c : Place) → EndOf t (span_at t s) (ahead_of t p s) c → Uncut t p (Some s) c
  end_uncut s c (inl e) = subst (Uncut t p (Some s)) (sym e) (ahead_uncut s).0
  end_uncut s c (inr (inl e)) = subst (Uncut t p (Some s)) (sym e) (ahead_uncut s).1
  end_uncut s c (inr (inr b)) = inl b

  cut_uncut : (s : ℕ) (up : Bool) (c : Place) → Uncut t p (Some s) c → EndsUncut t p s (cut_to up (ahead_of t p s) c)
  cut_uncut s true c u = ((ahead_uncut s).0, u)
  cut_uncut s false c u = (u, (ahead_uncut s).1)

  whole_push : (rs : List VlRange) (r : VlRange) → Uncut t p r.span r.start × Uncut t p r.span r.end → WholeWords t p rs → WholeWords t p (rs ++ r ∷ [])
  whole_push [] r u all = (u, tt)
  whole_push (q ∷ rs) r u (first, all) = (first, whole_push rs r u all)

  whole_more : (way : LayoutDirection) (rs : List VlRange) (r : VlRange) → Uncut t p r.span r.start × Uncut t p r.span r.end → WholeWords t p (in_order way rs) → WholeWords t p (in_order way (rs ++ r ∷ []))
  whole_more Forward rs r u all = whole_push rs r u all
  whole_more Backward rs r u all = subst (WholeWords t p) (sym (reverse-append rs (r ∷ []))) (u, all)

  whole_kept : (way : LayoutDirection) (rs : List VlRange) (s : ℕ) (a : Stretch) → EndsUncut t p s a → WholeWords t p (in_order way rs) → WholeWords t p (in_order way (kept rs (range_of t s a)))
  whole_kept way rs s a u all =
      cond_both (same_place a.start a.end) rs (rs ++ range_of t s a ∷ []) (λ (l : List VlRange). WholeWords t p (in_order way l))
      (λ _. all)
      (λ _. whole_more way rs (range_of t s a) u all)

  whole_none : (way : LayoutDirection) → WholeWords t p (in_order way [])
  whole_none Forward = tt
  whole_none Backward = tt

-- what a closing walk laid of a span, where T is the width of the finished ones
pub record ClosedPart {W : Type 0} (number : W → ℕ) (t : Text) (sp : Span) (a : Stretch) (up : Bool) (width ellipsis T : W) (q : Part W) : Type 0 where
  pub width_most : number T + number q.width ≤ number width
  pub room : q.flagged ≡ true → (number T + number q.width ≤ number width - number ellipsis) ⊎ EndOf t sp a (left_at up q.stretch)

module _ {S W : Type 0} (k : Ghosts S W) (m : S) (number : W → ℕ) (glyph : Glyph → ℕ) (from : ℕ → W) (exact : Exact k m number glyph from) (t : Text) (sound : Sound t) (p : Position) (here : exists t p ≡ true) (width ellipsis : W) where
  abbrev rule : Rule W
  rule = Closing width ellipsis

  module _ (sp : Span) (a : Stretch) (part : PartOfSpan t sp a) (up : Bool) (T : W) (small : number T + adds_up glyph t (held t sp a) < 2 ^ 32) where
    cut_closed : (R : W) (blanks laid at n : ℕ) → Within number glyph t sp a up T (number width) R at (suc n) → ClosedPart number t sp a up width ellipsis T (cut_part k m t p rule sp a up T R blanks laid (next up at n))
    cut_closed R blanks laid at n (going, fits) = by took.fits_or_none
      where
        w : ℕ
        w = next up at n

        word : Word
        word = word_at t (sp.offset + w)

        got : ℕ × W
        got = cut k m rule (row_of t.glyphs word) up (k.sum_of m T R) laid (low a w) (part_size a w word)

        q : Part W
        q = cut_part k m t p rule sp a up T R blanks laid w

        small_word : (low a w + part_size a w word ≤ word.len) × (number (k.sum_of m T R) ≡ number T + number R) × (number (k.sum_of m T R) + so_far glyph t (word.offset + (low a w + part_size a w word)) < so_far glyph t (word.offset + low a w) + 2 ^ 32)
        small_word = going_fits k m number glyph from exact t sound p rule sp a part up T small R at n going

        room_is : number (k.difference_of m width ellipsis) ≡ number width - number ellipsis
        room_is = exact.differences width ellipsis

        took : Took number (λ (i : ℕ). so_far glyph t (word.offset + i)) up (k.sum_of m T R) (k.difference_of m width ellipsis) (k.nil_of m) (low a w) (part_size a w word) got
        took = fits_sum k m number glyph from exact t word up (k.sum_of m T R) (k.difference_of m width ellipsis) (k.nil_of m) (low a w) (part_size a w word) small_word.0 (omega (arith, small_word.2, exact.nilled))

        width_is : number q.width ≡ number R + number got.1
        width_is = (going_cut k m number glyph from exact t sound p rule sp a part up T small R blanks laid at n going).0

        by : (number (k.sum_of m T R) + number got.1 ≤ number (k.difference_of m width ellipsis)) ⊎ ((got.0 ≡ next up (low a w) (part_size a w word)) × (number got.1 ≡ number (k.nil_of m))) → ClosedPart number t sp a up width ellipsis T q
        by (inl l) = record {
          width_most = omega (arith, width_is, room_is, small_word.1, l);
          room = λ _. inl (omega (arith, width_is, room_is, small_word.1, l));
        }
        by (inr (c, none)) = record {
          width_most = omega (arith, width_is, none, exact.nilled, fits);
          room = λ _. inr (subst (EndOf t sp a) (sym (left_at_cut up a (record { word = w; glyph = got.0 }))) (came_to t sp a up w got.0 (still_word t sp sound a part up at n going.0) c));
        }

  keeps : Keeps k m number rule (number width) (number ellipsis)
  keeps = closing_keeps k m number glyph from exact width ellipsis

  module _ (way : LayoutDirection) where
    abbrev line_of : Lay W → ℕ → ℕ → Lay W
    line_of l at n = with_part k m t p rule l (next (forward way) at n) (part_of k m t p rule way l (next (forward way) at n) (later (forward way) at) n)

    abbrev KeptTo : Lay W → Type 0
    KeptTo r = (number r.width ≤ number width) × (r.flagged ≡ true → (number r.width ≤ number width - number ellipsis) ⊎ WholeWords t p (in_order way r.ranges))

    -- the line with what was laid of the span that is met first
    line_closed : (l : Lay W) (at n : ℕ) → number l.width + adds_up glyph t (ahead_from t p at (suc n)) + number ellipsis < 2 ^ 32 → number l.width ≤ number width → WholeWords t p (in_order way l.ranges) → KeptTo (line_of l at n)
    line_closed l at n small fits all = (omega (arith, wide, law.width_most), λ e. by (law.room e))
      where
        s : ℕ
        s = next (forward way) at n

        a : Stretch
        a = ahead_of t p s

        up : Bool
        up = goes_up t.direction (span_at t s) way

        q : Part W
        q = part_of k m t p rule way l s (later (forward way) at) n

        few : number l.width + adds_up glyph t (held t (span_at t s) a) < 2 ^ 32
        few = part_small k m number glyph from exact t sound p here rule (number width) (number ellipsis) keeps way l at n small fits

        wide : number (line_of l at n).width ≡ number l.width + number q.width
        wide = line_more k m number glyph from exact t sound p rule here way l s (later (forward way) at) n few

        law : ClosedPart number t (span_at t s) a up width ellipsis l.width q
        law =
            part_by k m number glyph from exact t sound p here rule (number width) (number ellipsis) keeps way l at n small fits (ClosedPart number t (span_at t s) a up width ellipsis l.width)
            (λ R blanks laid w c so _. cut_closed (span_at t s) a (ahead_part t p here s) up l.width few R blanks laid w c so)
            (λ R _ _ w so. record { width_most = so.1; room = λ z. absurd (false≢true z) })

        by : (number l.width + number q.width ≤ number width - number ellipsis) ⊎ EndOf t (span_at t s) a (left_at up q.stretch) → (number (line_of l at n).width ≤ number width - number ellipsis) ⊎ WholeWords t p (in_order way (line_of l at n).ranges)
        by (inl i) = inl (omega (arith, wide, i))
        by (inr c) = inr (whole_kept t p way l.ranges s q.stretch (subst (EndsUncut t p s) (sym (part_law k m t p rule sound here way l s (later (forward way) at) n).cut_is) (cut_uncut t p s up (left_at up q.stretch) (end_uncut t p s (left_at up q.stretch) c))) all)

    line_on : (l : Lay W) (at n : ℕ) → WholeWords t p (in_order way l.ranges) → (line_of l at n).flagged ≡ false → WholeWords t p (in_order way (line_of l at n).ranges)
    line_on l at n all e =
        let s = next (forward way) at n in
        let then = later (forward way) at in
        whole_kept t p way l.ranges s (part_of k m t p rule way l s then n).stretch (subst (EndsUncut t p s) (sym (part_whole k m t p rule sound here way l s then n e)) (ahead_uncut t p s)) all

    -- what is ahead adds up to more than what is shown, so something is left
    hides : (shows leaves : List ℕ) → ahead t p ≡ met way shows leaves → adds_up glyph t shows < adds_up glyph t (ahead t p) → length shows < length (ahead t p)
    hides shows [] e l = absurd (omega (arith, ap (adds_up glyph t) e, adds_up_met glyph t way shows []))
    hides shows (i ∷ is) e l = omega (arith, ap length e, length_met way shows (i ∷ is))

    pub closing_law : adds_up glyph t (ahead t p) + number ellipsis < 2 ^ 32 → ClosingLaw number glyph t p width ellipsis (lay k m t p rule way)
    closing_law small =
        let kept_to =
        walk_by k m number glyph from exact t sound p here rule (number width) (number ellipsis) keeps way small (λ (l : Lay W). WholeWords t p (in_order way l.ranges)) KeptTo
        (λ l at n _ _ all e. line_on l at n all e)
        (λ l at n few fits _ all _. line_closed l at n few fits all)
        (λ l f _ fits _. (fits, λ z. absurd (false≢true (sym f ∙ z))))
        (whole_none t p way) in
        let flag = flag_law k m number glyph from exact t sound p here rule (number width) (number ellipsis) keeps way small in
        let wide = width_law k m number glyph from exact t sound p rule here way (omega arith) in
        let law = walk_law k m t p rule sound here way in
        record {
          flagged_when = flag;
          width_is = wide;
          width_most = kept_to.0;
          cut =
              λ e.
              let over = ltb-true (number width) (adds_up glyph t (ahead t p)) (sym flag ∙ e) in
              let left = hides (shown t (lay k m t p rule way).ranges) law.leaves law.parted (omega (arith, wide, kept_to.0)) in
              omega (arith, law.counted);
          room = kept_to.1;
        }
