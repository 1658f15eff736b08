-- What a closing line means, on any measure
use Rattle.std.proofs.Common.{◌≡◌, ℕ, ◌+◌, ◌≤◌, min, max, true, false, cond, not, ◌&&◌, List, [], ◌++◌, length, Some, None, Option, sym, refl, ap, ◌∙◌, subst, append-nil, arith, length-append}
use Rattle.layout.specs.Ellipsis.{first_of, last_of, level_between}
use Rattle.layout.specs.Lines.{Line, end_line, ends_at, halves, middle_line, plain, start_line, whole_line}
use Rattle.layout_laws.proofs.Endings.{walk_ends}
use Rattle.layout_laws.proofs.Once.{shown_once}
use Rattle.layout_laws.proofs.Overflows.{never_flagged}
use Rattle.layout_laws.proofs.Ranges.{last_reaches, line_most, line_shows, ranges_in, ranges_most}
use Rattle.layout_laws.specs.Laws.{EachOnce, Ends, LineLaw}
use Rattle.measure.specs.declared.measure.Measure.{Ghosts}
use Rattle.paragraph.specs.Reading.{ahead, exists}
use Rattle.paragraph.specs.Text.{Sound, Text}
use Rattle.paragraph.specs.declared.place.Position.{Position}
use Rattle.std.proofs.lemmas.Bool.{and_parts, cond_both, not-true}
use Rattle.walk.specs.Walk.{Lay, lay}
use Rattle.walk.specs.declared.line.LayoutDirection.{LayoutDirection}
use Rattle.walk.specs.declared.line.LayoutDirection.TheVariants.{Backward, Forward}
use Rattle.walk.specs.declared.line.Rule.{Rule}
use Rattle.walk.specs.declared.line.Rule.TheVariants.{Closing, Never}
use Rattle.walk.specs.declared.line.VlRange.{VlRange}
use Rattle.walk_laws.proofs.Places.{existing}
use Rattle.walk_laws.proofs.Walks.{walk_law}
use Rattle.walk_laws.specs.Laws.{SpanBySpan, WalkLaw}
use Rattle.walk_laws.specs.Shown.{shown}

module _ {W : Type 0} (t : Text) (p : Position) (sound : Sound t) (here : exists t p ≡ true) where
  -- a line of two parts around what is hidden, which meet in a span
  line_law : (l : Line W) (hidden : List ℕ) (meet : ℕ) →
      ahead t p ≡ shown t l.front ++ (hidden ++ shown t l.back) →
      l.laid ≡ length (shown t l.front) + length (shown t l.back) →
      (l.ellipsis ≡ None → (hidden ≡ []) × (l.back ≡ [])) →
      p.span ≤ meet → meet ≤ length t.spans →
      SpanBySpan t p.span (min (meet + 1) (length t.spans)) l.front → SpanBySpan t meet (length t.spans) l.back → LineLaw t p l
  line_law l hidden meet parted counted all i j front_in back_in =
      record {
        hidden = hidden;
        parted = parted;
        once = subst (EachOnce t) (sym (line_shows t l)) (shown_once t sound p here (shown t l.front) hidden (shown t l.back) parted);
        counted = counted ∙ sym (ap length (line_shows t l) ∙ length-append (shown t l.front) (shown t l.back));
        all_shown = all;
        meet = meet;
        front_in = front_in;
        back_in = ranges_in t meet (length t.spans) (max meet p.span) (length t.spans) l.back (omega arith) (omega arith) back_in;
        few =
            omega (
              arith,
              line_most l,
              ranges_most t p.span (min (meet + 1) (length t.spans)) l.front (omega (arith, (existing t p here).span_most)) front_in,
              ranges_most t meet (length t.spans) l.back j back_in,
            );
      }

  -- a forward walk before the ellipsis, or without it
  front_law : (l : Lay W) (ellipsis : Option ℕ) (width : W) → WalkLaw t p Forward l → (ellipsis ≡ None → l.flagged ≡ false) →
      LineLaw t p (record { front = l.ranges; ellipsis = ellipsis; back = []; blanks = l.blanks; laid = l.laid; width = width })
  front_law l ellipsis width law all =
      line_law (record { front = l.ranges; ellipsis = ellipsis; back = []; blanks = l.blanks; laid = l.laid; width = width }) law.leaves (length t.spans)
      (law.parted ∙ ap (λ (is : List ℕ). shown t l.ranges ++ is) (sym (append-nil law.leaves)))
      (omega (arith, law.counted))
      (λ e. (law.all_shown (all e), refl))
      (existing t p here).span_most
      (omega arith)
      (ranges_in t p.span (length t.spans) p.span (min (length t.spans + 1) (length t.spans)) l.ranges (omega arith) (omega arith) law.ranges_in)
      tt

  -- a backward walk behind the ellipsis
  back_law : (l : Lay W) (level : ℕ) (width : W) → WalkLaw t p Backward l →
      LineLaw t p (record { front = []; ellipsis = Some level; back = l.ranges; blanks = l.blanks; laid = l.laid; width = width })
  back_law l level width law =
      line_law (record { front = []; ellipsis = Some level; back = l.ranges; blanks = l.blanks; laid = l.laid; width = width }) law.leaves p.span
      law.parted
      (omega (arith, law.counted))
      (λ e. absurd cc)
      (omega arith)
      (existing t p here).span_most
      tt
      law.ranges_in

  -- a walk that is not flagged, as a line
  plain_law : (way : LayoutDirection) (l : Lay W) → WalkLaw t p way l → l.flagged ≡ false → LineLaw t p (plain l)
  plain_law Forward l law f = front_law l None l.width law (λ _. f)
  plain_law Backward l law f =
      line_law (plain l) [] (length t.spans)
      (law.parted ∙ ap (λ (is : List ℕ). is ++ shown t l.ranges) (law.all_shown f) ∙ sym (append-nil (shown t l.ranges)))
      (omega (arith, law.counted))
      (λ e. (refl, refl))
      (existing t p here).span_most
      (omega arith)
      (ranges_in t p.span (length t.spans) p.span (min (length t.spans + 1) (length t.spans)) l.ranges (omega arith) (omega arith) law.ranges_in)
      tt

ends_in : (t : Text) (r : VlRange) (s : ℕ) → r.span ≡ Some s → (ends_at t r.span r).span ≡ s
ends_in t r s e = ap (λ (o : Option ℕ). (ends_at t o r).span) e

module _ {S W : Type 0} (k : Ghosts S W) (m : S) (t : Text) (p : Position) (sound : Sound t) (here : exists t p ≡ true) where
  -- what a walk from an existing position means
  laws : (rule : Rule W) (way : LayoutDirection) (q : Position) → exists t q ≡ true → WalkLaw t q way (lay k m t q rule way)
  laws rule way q there = walk_law k m t q rule sound there way

  module _ (width ellipsis : W) where
    halves_law : (first : Lay W) (rest : List ℕ) → Ends t p first.ranges rest → WalkLaw t p Forward first →
        (last : Option VlRange) → last_of first.ranges ≡ last → LineLaw t p (halves k m t p width ellipsis first last)
    halves_law first rest ends law None e =
        line_law t p sound here (halves k m t p width ellipsis first None) (ahead t p) p.span
        (sym (append-nil (ahead t p)))
        refl
        (λ e. absurd cc)
        (omega arith)
        (existing t p here).span_most
        tt
        tt
    halves_law first rest ends law (Some r) e =
        let (s, span_is, there, is-rest) = ends.last_ends r e in
        let q = ends_at t r.span r in
        let rule = Closing (k.difference_of m (k.difference_of m width first.width) ellipsis) (k.nil_of m) in
        let second = laws rule Backward q there in
        let (from, below, reached) = last_reaches t p.span (length t.spans) s first.ranges r e span_is law.ranges_in in
        line_law t p sound here (halves k m t p width ellipsis first (Some r)) second.leaves s
        (ends.parted ∙ ap (λ (is : List ℕ). shown t first.ranges ++ is) (sym is-rest ∙ second.parted))
        (omega (arith, law.counted, second.counted))
        (λ e. absurd cc)
        from
        (omega arith)
        (ranges_in t p.span (s + 1) p.span (min (s + 1) (length t.spans)) first.ranges (omega arith) (omega arith) reached)
        (subst (λ (low : ℕ). SpanBySpan t low (length t.spans) (lay k m t q rule Backward).ranges) (ends_in t r s span_is) second.ranges_in)

    -- the walks of Middle: the trial on the whole width, and the first half
    abbrev trial : Lay W
    trial = lay k m t p (Closing width ellipsis) Forward

    abbrev half_rule : Rule W
    half_rule = Closing (k.half_of m width) (k.nil_of m)

    abbrev first_half : Lay W
    first_half = lay k m t p half_rule Forward

    pub middle_law : LineLaw t p (middle_line k m t p width ellipsis)
    middle_law =
        cond_both (not trial.flagged && not (k.over_of m trial.width width)) (plain trial)
        (cond first_half.flagged (halves k m t p width ellipsis first_half (last_of first_half.ranges)) (plain first_half)) (LineLaw t p)
        (λ e. plain_law t p sound here Forward trial (laws (Closing width ellipsis) Forward p here) (not-true trial.flagged (and_parts (not trial.flagged) (not (k.over_of m trial.width width)) e).0))
        (λ _.
        cond_both first_half.flagged (halves k m t p width ellipsis first_half (last_of first_half.ranges)) (plain first_half) (LineLaw t p)
        (λ _.
        let (rest, ends) = walk_ends k m t p half_rule sound here in
        halves_law first_half rest ends (laws half_rule Forward p here) (last_of first_half.ranges) refl)
        (λ f. plain_law t p sound here Forward first_half (laws half_rule Forward p here) f))

    pub end_law : LineLaw t p (end_line k m t p width ellipsis)
    end_law =
        let law = laws (Closing width ellipsis) Forward p here in
        cond_both trial.flagged _ (plain trial) (LineLaw t p)
        (λ _. front_law t p sound here trial (Some (level_between t.direction (last_of trial.ranges) None)) (k.sum_of m trial.width ellipsis) law (λ e. absurd cc))
        (λ f. plain_law t p sound here Forward trial law f)

    pub start_law : LineLaw t p (start_line k m t p width ellipsis)
    start_law =
        let l = lay k m t p (Closing width ellipsis) Backward in
        let law = laws (Closing width ellipsis) Backward p here in
        cond_both l.flagged _ (plain l) (LineLaw t p)
        (λ _. back_law t p sound here l (level_between t.direction None (first_of l.ranges)) (k.sum_of m l.width ellipsis) law)
        (λ f. plain_law t p sound here Backward l law f)

  pub whole_law : LineLaw t p (whole_line k m t p)
  whole_law = plain_law t p sound here Forward (lay k m t p Never Forward) (laws Never Forward p here) (never_flagged k m t p Forward)
