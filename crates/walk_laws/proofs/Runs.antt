-- What stays true along a walk holds where it ends
use Rattle.std.proofs.Common.{◌≡◌, ℕ, zero, suc, ◌+◌, Bool, true, false, cond}
use Rattle.std.proofs.lemmas.Bool.{cond_both}
use Rattle.measure.specs.declared.measure.Measure.{Ghosts}
use Rattle.paragraph.specs.Text.{Text, word_at}
use Rattle.paragraph.specs.declared.place.Position.{Position}
use Rattle.paragraph.specs.declared.place.Stretch.{Stretch}
use Rattle.paragraph.specs.declared.span.Span.{Span}
use Rattle.walk.specs.Parts.{part_size, forward, next, later}
use Rattle.walk.specs.Walk.{Part, Lay, cut_part, in_span, with_part, part_of, walks}
use Rattle.walk.specs.Widths.{part_width, rest_width, overflow}
use Rattle.walk.specs.declared.line.LayoutDirection.{LayoutDirection}
use Rattle.walk.specs.declared.line.Rule.{Rule}

module _ {S W : Type 0} (k : Ghosts S W) (m : S) (t : Text) (p : Position) (rule : Rule W) where
  -- the word overflows that is met first of the n + 1 from `at` on
  abbrev pub overflows : Span → Stretch → Bool → ℕ → ℕ → W → W → ℕ → ℕ → Bool
  overflows sp a up first count T R at n =
      overflow k m rule (k.sum_of m T R) (part_width k m t sp a (next up at n)) (rest_width k m t p sp a (later up at) n first count) (part_size a (next up at n) (word_at t (sp.offset + next up at n)))

  -- in a span: `So` speaks of R, the glyphs laid and the words still to walk, and `Then` of what was laid in the end
  module _ (sp : Span) (a : Stretch) (up : Bool) (first count : ℕ) (T : W) (So : W → ℕ → ℕ → ℕ → Type 0) (Then : Part W → Type 0) where
    pub in_span_by :
        ((R : W) (blanks laid at n : ℕ) → So R laid at (suc n) → overflows sp a up first count T R at n ≡ true → Then (cut_part k m t p rule sp a up T R blanks laid (next up at n))) →
        ((R : W) (laid at n : ℕ) → So R laid at (suc n) → overflows sp a up first count T R at n ≡ false → So (k.sum_of m R (part_width k m t sp a (next up at n))) (laid + part_size a (next up at n) (word_at t (sp.offset + next up at n))) (later up at) n) →
        ((R : W) (blanks laid at : ℕ) → So R laid at 0 → Then (record { stretch = a; width = R; blanks = blanks; laid = laid; flagged = false })) →
        (R : W) (blanks laid at n : ℕ) → So R laid at n → Then (in_span k m t p rule sp a up first count T R blanks laid at n)
    in_span_by cuts goes ends R blanks laid at zero so = ends R blanks laid at so
    in_span_by cuts goes ends R blanks laid at (suc n) so =
        let w = next up at n in
        let word = word_at t (sp.offset + w) in
        let R₁ = k.sum_of m R (part_width k m t sp a w) in
        cond_both (overflows sp a up first count T R at n) (cut_part k m t p rule sp a up T R blanks laid w) (in_span k m t p rule sp a up first count T R₁ (cond word.blank (blanks + 1) blanks) (laid + part_size a w word) (later up at) n) Then
        (λ e. cuts R blanks laid at n so e)
        (λ e. in_span_by cuts goes ends R₁ (cond word.blank (blanks + 1) blanks) (laid + part_size a w word) (later up at) n (goes R laid at n so e))

  -- over the spans
  module _ (way : LayoutDirection) (So : Lay W → ℕ → ℕ → Type 0) (Then : Lay W → Type 0) where
    abbrev part : Lay W → ℕ → ℕ → Part W
    part l at n = part_of k m t p rule way l (next (forward way) at n) (later (forward way) at) n

    pub walks_by :
        ((l : Lay W) (at n : ℕ) → So l at (suc n) → (part l at n).flagged ≡ true → Then (with_part k m t p rule l (next (forward way) at n) (part l at n))) →
        ((l : Lay W) (at n : ℕ) → So l at (suc n) → (part l at n).flagged ≡ false → So (with_part k m t p rule l (next (forward way) at n) (part l at n)) (later (forward way) at) n) →
        ((l : Lay W) (at : ℕ) → So l at 0 → Then l) →
        (l : Lay W) (at n : ℕ) → So l at n → Then (walks k m t p rule way l at n)
    walks_by cuts goes ends l at zero so = ends l at so
    walks_by cuts goes ends l at (suc n) so =
        let l₁ = with_part k m t p rule l (next (forward way) at n) (part l at n) in
        cond_both (part l at n).flagged l₁ (walks k m t p rule way l₁ (later (forward way) at) n) Then
        (λ e. cuts l at n so e)
        (λ e. walks_by cuts goes ends l₁ (later (forward way) at) n (goes l at n so e))
