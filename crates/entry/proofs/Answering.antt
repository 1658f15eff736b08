-- Lines in the caller's lists
use Rattle.std.proofs.Common.{◌≡◌, ℕ, List, length, take, drop, sym, ap, ◌∙◌, subst}
use lib.Seq.{take-append_seam}
use Rattle.entry.specs.Lines.{order_of, over_written}
use Rattle.entry.specs.Written.{Written}
use Rattle.entry.specs.declared.progress.Progress.{Progress}
use Rattle.layout.specs.Lines.{Line, line_ranges}
use Rattle.layout.specs.declared.line.VisualLine.{VisualLine}
use Rattle.paragraph.specs.Text.{Text}
use Rattle.std.proofs.lemmas.List.{length-map}
use Rattle.walk.specs.declared.line.VlRange.{VlRange}

-- the first places of a list that was written to
front_of : {X : Type 0} (n : ℕ) (new held after : List X) → n ≡ length new → after ≡ over_written new held → take n after ≡ new
front_of n new held after e w = ap (λ (i : ℕ). take i after) e ∙ ap (take (length new)) w ∙ take-append_seam new (drop (length new) held)

module _ {W : Type 0} (t : Text) (l : Line W) (told : VisualLine W) (ranges ranges_after : List VlRange) (order order_after : List ℕ) (w : Written t l told ranges ranges_after order order_after) where
  pub laid_is : told.laid ≡ l.laid
  laid_is = ap (λ (v : VisualLine W). v.laid) w.told_is

  many : told.ranges ≡ length (line_ranges l)
  many = ap (λ (v : VisualLine W). v.ranges) w.told_is

  -- what holds of a progress and of the line's ranges and their order holds of what the caller finds then
  pub found : (P : Progress → List VlRange → List ℕ → Type 0) (q after : Progress) → after ≡ q → P q (line_ranges l) (order_of (line_ranges l)) →
      P after (take told.ranges ranges_after) (take told.ranges order_after)
  found P q after e holds =
      let rs_are = front_of told.ranges (line_ranges l) ranges ranges_after many w.ranges_are in
      let os_are =
      front_of told.ranges (order_of (line_ranges l)) order order_after
      (many ∙ sym (w.in_order.once.as_long ∙ length-map (line_ranges l) (λ r. r.level))) w.order_is in
      subst (λ (x : Progress). P x (take told.ranges ranges_after) (take told.ranges order_after)) (sym e)
      (subst (λ (rs : List VlRange). P q rs (take told.ranges order_after)) (sym rs_are)
      (subst (P q (line_ranges l)) (sym os_are) holds))
