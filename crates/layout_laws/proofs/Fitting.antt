-- What a closing line means on an exact measure: when the ellipsis stands, and how wide the line is
use Rattle.std.proofs.Common.{◌≡◌, ℕ, ◌+◌, ◌-◌, ◌^◌, ◌<◌, ◌≤◌, Bool, true, false, cond, not, ◌&&◌, ltb, ◌⊎◌, List, is_some, Some, None, Option, sym, refl, ap, ◌∙◌, subst, inl, inr, arith}
use Rattle.glyph.specs.declared.glyph.Glyph.{Glyph}
use Rattle.layout.specs.Ellipsis.{last_of}
use Rattle.layout.specs.Lines.{Line, end_line, ends_at, halves, middle_line, plain, start_line, whole_line}
use Rattle.layout_laws.proofs.Endings.{walk_ends}
use Rattle.layout_laws.proofs.Ranges.{line_shows}
use Rattle.layout_laws.specs.Laws.{Ends, FittingLaw, LineWidth}
use Rattle.measure.specs.Exact.{Exact}
use Rattle.measure.specs.declared.measure.Measure.{Ghosts}
use Rattle.paragraph.specs.Reading.{ahead, exists}
use Rattle.paragraph.specs.Text.{Sound, Text}
use Rattle.paragraph.specs.declared.place.Position.{Position}
use Rattle.std.proofs.lemmas.List.Sums.{sum_by-append}
use Rattle.std.proofs.lemmas.Bool.{and_cases, and_parts, cond_both, lt-ltb, ltb-true, not-false, not-true}
use Rattle.walk.specs.Walk.{Lay, lay}
use Rattle.walk.specs.declared.line.LayoutDirection.{LayoutDirection}
use Rattle.walk.specs.declared.line.LayoutDirection.TheVariants.{Backward, Forward}
use Rattle.walk.specs.declared.line.Rule.{Rule}
use Rattle.walk.specs.declared.line.Rule.TheVariants.{Closing, Never}
use Rattle.walk.specs.declared.line.VlRange.{VlRange}
use Rattle.walk_laws.proofs.Closings.{closing_law}
use Rattle.walk_laws.proofs.Laid.{width_law}
use Rattle.walk_laws.proofs.Walks.{walk_law}
use Rattle.walk_laws.specs.Laws.{ClosingLaw, WalkLaw}
use Rattle.walk_laws.specs.Shown.{adds_up, shown}

-- what is ahead adds up to what a walk shows and what it leaves
parted_sum : (glyph : Glyph → ℕ) {W : Type 0} (t : Text) (p : Position) (way : LayoutDirection) (l : Lay W) (law : WalkLaw t p way l) →
    adds_up glyph t (ahead t p) ≡ adds_up glyph t (shown t l.ranges) + adds_up glyph t law.leaves
parted_sum glyph t p Forward l law = ap (adds_up glyph t) law.parted ∙ sum_by-append _ (shown t l.ranges) law.leaves
parted_sum glyph t p Backward l law = ap (adds_up glyph t) law.parted ∙ sum_by-append _ law.leaves (shown t l.ranges) ∙ omega arith

-- the width of a line, by its two parts
by_parts : {W : Type 0} (number : W → ℕ) (glyph : Glyph → ℕ) (t : Text) (ellipsis : W) (l : Line W) →
    number l.width ≡ adds_up glyph t (shown t l.front) + adds_up glyph t (shown t l.back) + cond (is_some l.ellipsis) (number ellipsis) 0 →
    LineWidth number glyph t ellipsis l
by_parts number glyph t ellipsis l is =
    is
    ∙ ap (λ (n : ℕ). n + cond (is_some l.ellipsis) (number ellipsis) 0)
    (sym (ap (adds_up glyph t) (line_shows t l) ∙ sum_by-append _ (shown t l.front) (shown t l.back)))

module _ {S W : Type 0} (k : Ghosts S W) (m : S) (number : W → ℕ) (glyph : Glyph → ℕ) (from : ℕ → W) (exact : Exact k m number glyph from)
    (t : Text) (sound : Sound t)
    (p : Position) (here : exists t p ≡ true) (ellipsis : W) (room : adds_up glyph t (ahead t p) + number ellipsis < 2 ^ 32) where
  pub whole_width : LineWidth number glyph t ellipsis (whole_line k m t p)
  whole_width =
      by_parts number glyph t ellipsis (whole_line k m t p) (omega (arith, width_law k m number glyph from exact t sound p Never here Forward (omega arith)))

  module _ (width : W) where
    abbrev all : ℕ
    all = adds_up glyph t (ahead t p)

    abbrev Fits : Line W → Type 0
    Fits l = FittingLaw number glyph t p width ellipsis l

    fitting : (l : Line W) → is_some l.ellipsis ≡ ltb (number width) all →
        number l.width ≡ adds_up glyph t (shown t l.front) + adds_up glyph t (shown t l.back) + cond (is_some l.ellipsis) (number ellipsis) 0 →
        number l.width ≤ number width + number ellipsis → Fits l
    fitting l stands is most =
        record { stands_when = stands; width_is = by_parts number glyph t ellipsis l is; width_most = most }

    module _ (way : LayoutDirection) where
      abbrev walk : Lay W
      walk = lay k m t p (Closing width ellipsis) way

      closes : ClosingLaw number glyph t p width ellipsis walk
      closes = closing_law k m number glyph from exact t sound p here width ellipsis way room

      plain_fits : walk.flagged ≡ false → Fits (plain walk)
      plain_fits f = fitting (plain walk) (sym f ∙ closes.flagged_when) (omega (arith, closes.width_is)) (omega (arith, closes.width_most))

      with_ellipsis : number (k.sum_of m walk.width ellipsis) ≡ adds_up glyph t (shown t walk.ranges) + number ellipsis
      with_ellipsis =
          exact.sums walk.width ellipsis (omega (arith, closes.width_is, parted_sum glyph t p way walk (walk_law k m t p (Closing width ellipsis) sound here way)))
          ∙ omega (arith, closes.width_is)

    pub end_fits : Fits (end_line k m t p width ellipsis)
    end_fits =
        cond_both (walk Forward).flagged _ (plain (walk Forward)) Fits
        (λ f. fitting _ (sym f ∙ (closes Forward).flagged_when) (omega (arith, with_ellipsis Forward)) (omega (arith, with_ellipsis Forward, (closes Forward).width_is, (closes Forward).width_most)))
        (plain_fits Forward)

    pub start_fits : Fits (start_line k m t p width ellipsis)
    start_fits =
        cond_both (walk Backward).flagged _ (plain (walk Backward)) Fits
        (λ f. fitting _ (sym f ∙ (closes Backward).flagged_when) (omega (arith, with_ellipsis Backward)) (omega (arith, with_ellipsis Backward, (closes Backward).width_is, (closes Backward).width_most)))
        (plain_fits Backward)

    module _ (wide : number width < all) where
      abbrev half_rule : Rule W
      half_rule = Closing (k.half_of m width) (k.nil_of m)

      abbrev first_half : Lay W
      first_half = lay k m t p half_rule Forward

      first_closes : ClosingLaw number glyph t p (k.half_of m width) (k.nil_of m) first_half
      first_closes = closing_law k m number glyph from exact t sound p here (k.half_of m width) (k.nil_of m) Forward (omega (arith, exact.nilled))

      first_flagged : first_half.flagged ≡ true
      first_flagged = first_closes.flagged_when ∙ lt-ltb (number (k.half_of m width)) all (omega (arith, exact.half_low width))

      halves_fit : (rest : List ℕ) → Ends t p first_half.ranges rest → (last : Option VlRange) → last_of first_half.ranges ≡ last → Fits (halves k m t p width ellipsis first_half last)
      halves_fit rest ends None e =
          fitting (halves k m t p width ellipsis first_half None) (sym (lt-ltb (number width) all wide)) (omega arith) (omega arith)
      halves_fit rest ends (Some r) e =
          fitting (halves k m t p width ellipsis first_half (Some r)) (sym (lt-ltb (number width) all wide)) sums (omega (arith, sums, first_closes.width_is, first_closes.width_most, second_closes.width_is, second_closes.width_most, room_left, exact.half_low width))
        where
          there : exists t (ends_at t r.span r) ≡ true
          there = (ends.last_ends r e).2

          left : W
          left = k.difference_of m (k.difference_of m width first_half.width) ellipsis

          second : Lay W
          second = lay k m t (ends_at t r.span r) (Closing left (k.nil_of m)) Backward

          whole_sum : all ≡ adds_up glyph t (shown t first_half.ranges) + adds_up glyph t (ahead t (ends_at t r.span r))
          whole_sum =
              ap (adds_up glyph t) ends.parted
              ∙ sum_by-append _ (shown t first_half.ranges) rest
              ∙ ap (λ (is : List ℕ). adds_up glyph t (shown t first_half.ranges) + adds_up glyph t is) (sym (ends.last_ends r e).3)

          second_closes : ClosingLaw number glyph t (ends_at t r.span r) left (k.nil_of m) second
          second_closes = closing_law k m number glyph from exact t sound (ends_at t r.span r) there left (k.nil_of m) Backward (omega (arith, exact.nilled, whole_sum))

          second_sum : adds_up glyph t (shown t second.ranges) ≤ adds_up glyph t (ahead t (ends_at t r.span r))
          second_sum = omega (arith, parted_sum glyph t (ends_at t r.span r) Backward second (walk_law k m t (ends_at t r.span r) (Closing left (k.nil_of m)) sound there Backward))

          room_left : number left ≡ number width - number first_half.width - number ellipsis
          room_left =
              exact.differences (k.difference_of m width first_half.width) ellipsis
              ∙ ap (λ (n : ℕ). n - number ellipsis) (exact.differences width first_half.width)

          both : number (k.sum_of m first_half.width second.width) ≡ number first_half.width + number second.width
          both = exact.sums first_half.width second.width (omega (arith, first_closes.width_is, second_closes.width_is, second_sum, whole_sum))

          sums : number (k.sum_of m (k.sum_of m first_half.width second.width) ellipsis) ≡ adds_up glyph t (shown t first_half.ranges) + adds_up glyph t (shown t second.ranges) + number ellipsis
          sums =
              exact.sums (k.sum_of m first_half.width second.width) ellipsis (omega (arith, both, first_closes.width_is, second_closes.width_is, second_sum, whole_sum))
              ∙ omega (arith, both, first_closes.width_is, second_closes.width_is)

    pub middle_fits : Fits (middle_line k m t p width ellipsis)
    middle_fits =
        cond_both (not trial.flagged && not (k.over_of m trial.width width)) (plain trial) rest Fits
        (λ e. plain_fits Forward (not-true trial.flagged (and_parts (not trial.flagged) (not (k.over_of m trial.width width)) e).0))
        (λ e. halved (wide (and_cases (not trial.flagged) (not (k.over_of m trial.width width)) e)))
      where
        trial : Lay W
        trial = walk Forward

        first : Lay W
        first = lay k m t p (Closing (k.half_of m width) (k.nil_of m)) Forward

        rest : Line W
        rest = cond first.flagged (halves k m t p width ellipsis first (last_of first.ranges)) (plain first)

        -- where the trial is not kept, what is ahead is wider than the width
        wide : (not trial.flagged ≡ false) ⊎ (not (k.over_of m trial.width width) ≡ false) → number width < all
        wide (inl e) = ltb-true (number width) all (sym (closes Forward).flagged_when ∙ not-false trial.flagged e)
        wide (inr e) =
            let over = ltb-true (number width) (number trial.width) (sym (exact.overs trial.width width) ∙ not-false (k.over_of m trial.width width) e) in
            absurd (omega (arith, (closes Forward).width_most))

        halved : number width < all → Fits rest
        halved w =
            let (left, ends) = walk_ends k m t p (half_rule w) sound here in
            subst (λ (f : Bool). Fits (cond f (halves k m t p width ellipsis first (last_of first.ranges)) (plain first))) (sym (first_flagged w))
            (halves_fit w left ends (last_of first.ranges) refl)
