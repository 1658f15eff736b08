-- Lines with an ellipsis, and what is told of them
use Rattle.std.proofs.Common.{◌≡◌, ℕ, ◌+◌, Bool, true, List, ◌∷◌, ◌++◌, length, take, drop, Some, None, Option, sym, refl, ap, ◌∙◌, append-nil, arith}
use Rattle.std.proofs.lemmas.List.{length-append}
use Rattle.std.proofs.lemmas.Bool.{cond-true}
use Rattle.measure.specs.declared.measure.Measure.{Ghosts}
use Rattle.layout.specs.Elided.{elided_bytes}
use Rattle.layout.specs.Ellipsis.{behind_of, before_of, ellipsis_range, first_of, last_of, level_between}
use Rattle.layout.specs.Lines.{Line, line_ranges, line_told, ellipsis_ranges, elided_of, plain, edge_line}
use Rattle.layout.specs.declared.line.ElidedBytes.{ElidedBytes}
use Rattle.layout.specs.declared.line.VisualLine.{VisualLine}
use Rattle.paragraph.specs.Text.{Text}
use Rattle.paragraph.specs.declared.place.Position.{Position}
use Rattle.walk.specs.Walk.{Lay, lay, told}
use Rattle.walk.specs.declared.line.LayoutDirection.{LayoutDirection}
use Rattle.walk.specs.declared.line.LayoutDirection.TheVariants.{Forward, Backward}
use Rattle.walk.specs.declared.line.Rule.TheVariants.{Closing}
use Rattle.walk.specs.declared.line.VlRange.{VlRange}
use Rattle.walk.specs.declared.line.Walked.{Walked}
use Rattle.layout.proofs.Lists.{front_is, rest_is}

-- what is told of a line with the ellipsis
pub marked_told : {W : Type 0} (t : Text) (none : ℕ) (l : Line W) (level count blanks laid : ℕ) (x : W) (el : ElidedBytes) → l.ellipsis ≡ Some level → count ≡ length l.front + (1 + length l.back) → blanks ≡ l.blanks → laid ≡ l.laid → x ≡ l.width → el ≡ elided_bytes t none l.front l.back → record { ranges = count; blanks = blanks; laid = laid; width = x; elided = Some el } ≡ line_told t none l
marked_told t none l level count blanks laid x el e n_is b_is l_is x_is el_is =
    let r : count ≡ length (line_ranges l) = n_is ∙ sym (ap (λ (o : Option ℕ). length (l.front ++ (ellipsis_ranges o ++ l.back))) e ∙ length-append l.front (ellipsis_range level ∷ l.back) ∙ omega arith) in
    let s : Some el ≡ elided_of t none l.ellipsis l.front l.back = ap Some el_is ∙ ap (λ (o : Option ℕ). elided_of t none o l.front l.back) (sym e) in
    cc

-- what the walk told and wrote, field by field
module _ {W : Type 0} (l : Lay W) (w : Walked W) (is : w ≡ told l) where
  pub blanks_is : w.blanks ≡ l.blanks
  blanks_is = ap (λ (y : Walked W). y.blanks) is

  pub laid_is : w.laid ≡ l.laid
  laid_is = ap (λ (y : Walked W). y.laid) is

  pub width_is : w.width ≡ l.width
  width_is = ap (λ (y : Walked W). y.width) is

  pub ranges_is : w.ranges ≡ length l.ranges
  ranges_is = ap (λ (y : Walked W). y.ranges) is

  pub flagged_is : (b : Bool) → w.flagged ≡ b → l.flagged ≡ b
  flagged_is b e = sym (ap (λ (y : Walked W). y.flagged) is) ∙ e

-- a walk as a line without the ellipsis
pub plain_line : {W : Type 0} (t : Text) (none : ℕ) (l : Lay W) (w : Walked W) (r : VisualLine W) (before out : List VlRange) → w ≡ told l → r ≡ record { ranges = w.ranges; blanks = w.blanks; laid = w.laid; width = w.width; elided = None } → out ≡ l.ranges ++ drop w.ranges before → (r ≡ line_told t none (plain l)) × (out ≡ line_ranges (plain l) ++ drop r.ranges before)
plain_line {W} t none l w r before out is r_is written =
    let a = append-nil l.ranges in
    let n = ap length a in
    let b = blanks_is l w is in
    let c = laid_is l w is in
    let d = width_is l w is in
    let e = ranges_is l w is in
    let q : w.ranges ≡ r.ranges = sym (ap (λ (y : VisualLine W). y.ranges) r_is) in
    (cc, written ∙ ap (λ (i : ℕ). l.ranges ++ drop i before) q ∙ ap (λ (rs : List VlRange). rs ++ drop r.ranges before) (sym a))

-- a line with the ellipsis where its walk ended
module _ {S W : Type 0} (k : Ghosts S W) (m : S) (t : Text) (p : Position) (width ellipsis : W) where
  abbrev edged : LayoutDirection → Line W
  edged way =
      let l = lay k m t p (Closing width ellipsis) way in
      record {
        front = before_of way l.ranges;
        ellipsis = Some (level_between t.direction (last_of (before_of way l.ranges)) (first_of (behind_of way l.ranges)));
        back = behind_of way l.ranges;
        blanks = l.blanks;
        laid = l.laid;
        width = k.sum_of m l.width ellipsis;
      }

  edge_is : (way : LayoutDirection) → (lay k m t p (Closing width ellipsis) way).flagged ≡ true → edge_line k m t p width ellipsis way ≡ edged way
  edge_is Forward e = cond-true _ _ _ e
  edge_is Backward e = cond-true _ _ _ e

  edge_long : (way : LayoutDirection) (rs : List VlRange) → length rs + 1 ≡ length (before_of way rs) + (1 + length (behind_of way rs))
  edge_long Forward rs = omega arith
  edge_long Backward rs = omega arith

  module _ (way : LayoutDirection) (none : ℕ) (w : Walked W) (before out : List VlRange) (is : w ≡ told (lay k m t p (Closing width ellipsis) way)) (written : out ≡ (lay k m t p (Closing width ellipsis) way).ranges ++ drop w.ranges before) (flagged : w.flagged ≡ true) where
    l : Lay W
    l = lay k m t p (Closing width ellipsis) way

    line_is : edge_line k m t p width ellipsis way ≡ edged way
    unfolding l
    line_is = edge_is way (flagged_is l w is true flagged)

    laid_there : take w.ranges out ≡ l.ranges
    unfolding l
    laid_there = front_is l.ranges before out w.ranges (ranges_is l w is) written

    pub edge_told : (el : ElidedBytes) (x : W) (r : VisualLine W) → el ≡ elided_bytes t none (before_of way (take w.ranges out)) (behind_of way (take w.ranges out)) → x ≡ k.sum_of m w.width ellipsis → r ≡ record { ranges = w.ranges; blanks = w.blanks; laid = w.laid; width = w.width; elided = None } →
        record { ranges = w.ranges + 1; blanks = r.blanks; laid = r.laid; width = x; elided = Some el } ≡ line_told t none (edge_line k m t p width ellipsis way)
    unfolding l
    edge_told el x r el_is x_is r_is =
        marked_told t none (edged way) _ (w.ranges + 1) r.blanks r.laid x el refl (omega (arith, ranges_is l w is, edge_long way l.ranges))
        (ap (λ (y : VisualLine W). y.blanks) r_is ∙ blanks_is l w is) (ap (λ (y : VisualLine W). y.laid) r_is ∙ laid_is l w is)
        (x_is ∙ ap (λ (y : W). k.sum_of m y ellipsis) (width_is l w is)) (el_is ∙ ap (λ (rs : List VlRange). elided_bytes t none (before_of way rs) (behind_of way rs)) laid_there)
        ∙ ap (line_told t none) (sym line_is)

    pub edge_written : (out' : List VlRange) → out' ≡ (before_of way (take w.ranges out) ++ ellipsis_range (level_between t.direction (last_of (before_of way (take w.ranges out))) (first_of (behind_of way (take w.ranges out)))) ∷ behind_of way (take w.ranges out)) ++ drop (w.ranges + 1) out →
        out' ≡ line_ranges (edge_line k m t p width ellipsis way) ++ drop (w.ranges + 1) before
    unfolding l
    edge_written out' o =
        o
        ∙ ap (λ (rs : List VlRange). (before_of way rs ++ ellipsis_range (level_between t.direction (last_of (before_of way rs)) (first_of (behind_of way rs))) ∷ behind_of way rs) ++ drop (w.ranges + 1) out) laid_there
        ∙ ap (λ (rs : List VlRange). line_ranges (edged way) ++ rs) (rest_is l.ranges before out w.ranges (ranges_is l w is) written)
        ∙ ap (λ (y : Line W). line_ranges y ++ drop (w.ranges + 1) before) (sym line_is)
