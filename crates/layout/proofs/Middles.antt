-- The line with the ellipsis in its middle
use Rattle.std.proofs.Common.{◌≡◌, ℕ, ◌+◌, ◌-◌, ◌<◌, ◌≤◌, Bool, true, false, cond, not, List, ◌∷◌, ◌++◌, length, take, drop, set, Some, None, Option, sym, refl, ap, ◌∙◌, arith}
use Rattle.std.proofs.lemmas.List.{append-nil}
use Rattle.std.proofs.lemmas.Bool.{and_parts, cond-true, not-true}
use Rattle.std.specs.List.{slice_get}
use Rattle.measure.specs.declared.measure.Measure.{Ghosts}
use Rattle.layout.specs.Elided.{elided_bytes}
use Rattle.layout.specs.Ellipsis.{ellipsis_range, first_of, last_of, level_between}
use Rattle.layout.specs.Halves.{end_fits, first_half, halved_line}
use Rattle.layout.specs.Lines.{Line, line_ranges, line_told, plain, halves, middle_line, ends_at}
use Rattle.layout.specs.declared.line.VisualLine.{VisualLine}
use Rattle.paragraph.specs.Reading.{exists}
use Rattle.paragraph.specs.Text.{Text, Sound}
use Rattle.paragraph.specs.declared.place.Position.{Position}
use Rattle.walk.proofs.Wholes.{lay_whole}
use Rattle.walk.specs.Walk.{Lay, lay, told}
use Rattle.walk.specs.Whole.{whole_ranges}
use Rattle.walk.specs.declared.line.LayoutDirection.TheVariants.{Forward, Backward}
use Rattle.walk.specs.declared.line.Rule.TheVariants.{Closing}
use Rattle.walk.specs.declared.line.VlRange.{VlRange}
use Rattle.walk.specs.declared.line.Walked.{Walked}
use Rattle.layout.proofs.Closings.{marked_told, blanks_is, laid_is, width_is, ranges_is, flagged_is}
use Rattle.layout.proofs.Ends.{last_there}
use Rattle.layout.proofs.Laid.{lay_ends, lay_small}
use Rattle.layout.proofs.Lists.{front_is, rest_further, parts_front, parts_back, parts_set}

-- something that is told only on a condition
some_cond : {X : Type 0} (b : Bool) {x y : X} → Some x ≡ cond b (Some y) None → (b ≡ true) × (x ≡ y)
some_cond true e = (refl, cc)
some_cond false e = absurd cc

-- What the first walk leaves where it overflows: its ranges in front, and a position to go back to where the last of them ends. `before` is the list that
-- it was given, `after` what it made of that
pub record First {S W : Type 0} (k : Ghosts S W) (m : S) (t : Text) (p : Position) (width : W) (first : Walked W) (before after : List VlRange) (last : VlRange) (cut : Position) : Type 0 where
  pub first_is : first ≡ told (first_half k m t p width)
  pub written : after ≡ (first_half k m t p width).ranges ++ drop first.ranges before
  pub front : take first.ranges after ≡ (first_half k m t p width).ranges
  pub ends : last_of (first_half k m t p width).ranges ≡ Some last
  pub cut_is : cut ≡ ends_at t last.span last
  pub there : exists t cut ≡ true
  pub behind : first.ranges + 1 + (length t.spans - cut.span) ≤ length t.spans + 2
  pub few : first.ranges ≤ length t.spans
  pub few_blanks : first.blanks ≤ 1048576
  pub few_glyphs : first.laid ≤ 17179869184

module _ {S W : Type 0} (k : Ghosts S W) (m : S) (t : Text) (p : Position) (width : W) where
  half_is : (h z : W) → h ≡ k.half_of m width → z ≡ k.nil_of m → lay k m t p (Closing h z) Forward ≡ first_half k m t p width
  half_is h z h_is z_is = ap (λ (x : W). lay k m t p (Closing x z) Forward) h_is ∙ ap (λ (x : W). lay k m t p (Closing (k.half_of m width) x) Forward) z_is

  pub first_walk : Sound t → exists t p ≡ true → {h z : W} → h ≡ k.half_of m width → z ≡ k.nil_of m → (before : List VlRange) {after : List VlRange} {first : Walked W} → first ≡ told (lay k m t p (Closing h z) Forward) → first.ranges ≤ length t.spans - p.span → after ≡ (lay k m t p (Closing h z) Forward).ranges ++ drop first.ranges before →
      {last : VlRange} → Some last ≡ slice_get (take first.ranges after) (length (take first.ranges after) - 1) → {cut : Position} → cut ≡ ends_at t last.span last → First k m t p width first before after last cut
  first_walk sound stands {h} {z} h_is z_is before {after} {first} told_is few_is written_is {last} last_is {cut} cut_is =
      let rule = Closing (k.half_of m width) (k.nil_of m) in
      let half = half_is h z h_is z_is in
      let is : first ≡ told (first_half k m t p width) = told_is ∙ ap told half in
      let written = written_is ∙ ap (λ (l : Lay W). l.ranges ++ drop first.ranges before) half in
      let long = ranges_is (first_half k m t p width) first is in
      let front = front_is (first_half k m t p width).ranges before after first.ranges long written in
      let ends = sym (last_is ∙ last_there (take first.ranges after) ∙ ap last_of front) in
      let there = lay_ends k m t p rule sound stands last ends in
      let small = lay_small k m t p rule sound stands Forward in
      record {
        first_is = is;
        written = written;
        front = front;
        ends = ends;
        cut_is = cut_is;
        there = ap (exists t) cut_is ∙ there.0;
        behind = omega (arith, there.1, ap (λ (q : Position). q.span) cut_is, long);
        few = omega arith;
        few_blanks = omega (arith, small.0, blanks_is (first_half k m t p width) first is);
        few_glyphs = omega (arith, small.1, laid_is (first_half k m t p width) first is);
      }

module _ {S W : Type 0} (k : Ghosts S W) (m : S) (t : Text) (p : Position) (width ellipsis : W) where
  -- End's trial fits. `before` is the list, `out` with the ranges of all that is ahead
  pub kept_written : (trial : Walked W) → Some trial ≡ cond (end_fits k m t p width ellipsis) (Some (told (lay k m t p (Closing width ellipsis) Forward))) None → (count : ℕ) → count ≡ length (whole_ranges t p) → (before out : List VlRange) → out ≡ whole_ranges t p ++ drop count before →
      (r : VisualLine W) → r ≡ record { ranges = trial.ranges; blanks = trial.blanks; laid = trial.laid; width = trial.width; elided = None } → out ≡ line_ranges (middle_line k m t p width ellipsis) ++ drop r.ranges before
  kept_written trial tried count count_is before out out_is r r_is =
      let l = lay k m t p (Closing width ellipsis) Forward in
      let kept = some_cond (end_fits k m t p width ellipsis) tried in
      let line_is : middle_line k m t p width ellipsis ≡ plain l = cond-true _ _ _ kept.0 in
      let whole : l.ranges ≡ whole_ranges t p = lay_whole k m t p (Closing width ellipsis) (not-true l.flagged (and_parts (not l.flagged) _ kept.0).0) in
      let long : count ≡ r.ranges = count_is ∙ ap length (sym whole) ∙ sym (ranges_is l trial kept.1) ∙ sym (ap (λ (y : VisualLine W). y.ranges) r_is) in
      let all : whole_ranges t p ≡ line_ranges (plain l) = sym (append-nil l.ranges ∙ whole) in
      out_is ∙ ap (λ (rs : List VlRange). rs ++ drop count before) (all ∙ ap line_ranges (sym line_is)) ∙ ap (λ (i : ℕ). line_ranges (middle_line k m t p width ellipsis) ++ drop i before) long

  -- The two halves around the ellipsis. `first` and `second` are what the walks told, `before` the list that the first was given, `after` what it made of
  -- that, and `out` what the second did
  module _
      (none : ℕ) {first second : Walked W} (before after out : List VlRange) {last : VlRange} {cut : Position} {left nil : W} (here : First k m t p width first before after last cut) (flagged : first.flagged ≡ true) (room : first.ranges < length after)
      (left_is : left ≡ k.difference_of m (k.difference_of m width first.width) ellipsis) (nil_is : nil ≡ k.nil_of m) (second_is : second ≡ told (lay k m t cut (Closing left nil) Backward))
      (is : out ≡ take (first.ranges + 1) after ++ ((lay k m t cut (Closing left nil) Backward).ranges ++ drop second.ranges (drop (first.ranges + 1) after)))
    where
      fst : Lay W
      fst = first_half k m t p width

      snd : Lay W
      snd = lay k m t cut (Closing left nil) Backward

      mark : VlRange
      mark = ellipsis_range (level_between t.direction (Some last) (first_of snd.ranges))

      -- the line, with a second walk
      joined : Lay W → Line W
      joined s =
          record {
            front = fst.ranges;
            ellipsis = Some (level_between t.direction (Some last) (first_of s.ranges));
            back = s.ranges;
            blanks = fst.blanks + s.blanks;
            laid = fst.laid + s.laid;
            width = k.sum_of m (k.sum_of m fst.width s.width) ellipsis;
          }

      second_half : lay k m t (ends_at t last.span last) (Closing (k.difference_of m (k.difference_of m width fst.width) ellipsis) (k.nil_of m)) Backward ≡ snd
      unfolding fst snd
      second_half =
          let l : left ≡ k.difference_of m (k.difference_of m width fst.width) ellipsis = left_is ∙ ap (λ (x : W). k.difference_of m (k.difference_of m width x) ellipsis) (width_is fst first here.first_is) in
          sym
          (ap (λ (q : Position). lay k m t q (Closing left nil) Backward) here.cut_is
          ∙ ap (λ (x : W). lay k m t (ends_at t last.span last) (Closing x nil) Backward) l
          ∙ ap (λ (x : W). lay k m t (ends_at t last.span last) (Closing (k.difference_of m (k.difference_of m width fst.width) ellipsis) x) Backward) nil_is)

      line_is : halved_line k m t p width ellipsis ≡ joined snd
      unfolding fst snd joined
      line_is =
          cond-true _ _ _ (flagged_is fst first here.first_is true flagged)
          ∙ ap (halves k m t p width ellipsis fst) here.ends
          ∙ ap joined second_half

      pub halved : (r : VisualLine W) (out2 : List VlRange) →
          r ≡ record {
            ranges = first.ranges + 1 + second.ranges;
            blanks = first.blanks + second.blanks;
            laid = first.laid + second.laid;
            width = k.sum_of m (k.sum_of m first.width second.width) ellipsis;
            elided = Some (elided_bytes t none (take first.ranges out) (take second.ranges (drop (first.ranges + 1) out)));
          } →
          out2 ≡ set out first.ranges (ellipsis_range (level_between t.direction (last_of (take first.ranges out)) (first_of (take second.ranges (drop (first.ranges + 1) out))))) →
          (r ≡ line_told t none (halved_line k m t p width ellipsis)) × (out2 ≡ line_ranges (halved_line k m t p width ellipsis) ++ drop r.ranges before)
      unfolding fst snd joined mark
      halved r out2 r_is out2_is =
          let n = first.ranges in
          let j = second.ranges in
          let one = here.first_is in
          let n_is = ranges_is fst first one in
          let j_is = ranges_is snd second second_is in
          let f = parts_front fst.ranges snd.ranges after out n j last n_is j_is room here.front is in
          let b = parts_back fst.ranges snd.ranges after out n j last n_is j_is room here.front is in
          let el : elided_bytes t none (take n out) (take j (drop (n + 1) out)) ≡ elided_bytes t none fst.ranges snd.ranges =
          ap (λ (x : List VlRange). elided_bytes t none x (take j (drop (n + 1) out))) f ∙ ap (elided_bytes t none fst.ranges) b in
          let told_is = marked_told t none (joined snd) _ (n + 1 + j) (first.blanks + second.blanks) (first.laid + second.laid) (k.sum_of m (k.sum_of m first.width second.width) ellipsis) _ refl (omega (arith, n_is, j_is)) (omega (arith, blanks_is fst first one, blanks_is snd second second_is)) (omega (arith, laid_is fst first one, laid_is snd second second_is))
          (ap (λ (x : W). k.sum_of m (k.sum_of m x second.width) ellipsis) (width_is fst first one) ∙ ap (λ (x : W). k.sum_of m (k.sum_of m fst.width x) ellipsis) (width_is snd second second_is)) el in
          let mark_is : ellipsis_range (level_between t.direction (last_of (take n out)) (first_of (take j (drop (n + 1) out)))) ≡ mark =
          ap (λ (o : Option VlRange). ellipsis_range (level_between t.direction o (first_of (take j (drop (n + 1) out))))) (ap last_of f ∙ here.ends)
          ∙ ap (λ (x : List VlRange). ellipsis_range (level_between t.direction (Some last) (first_of x))) b in
          let count : n + 1 + j ≡ r.ranges = sym (ap (λ (y : VisualLine W). y.ranges) r_is) in (
            r_is ∙ told_is ∙ ap (line_told t none) (sym line_is),
            out2_is
                ∙ ap (set out n) mark_is
                ∙ parts_set fst.ranges snd.ranges after out n j last n_is j_is room here.front is mark
                ∙ ap (λ (i : ℕ). (fst.ranges ++ mark ∷ snd.ranges) ++ drop i after) count
                ∙ ap (λ (rs : List VlRange). (fst.ranges ++ mark ∷ snd.ranges) ++ rs) (rest_further fst.ranges before after n r.ranges n_is here.written (omega (arith, count)))
                ∙ ap (λ (y : Line W). line_ranges y ++ drop r.ranges before) (sym line_is),
          )
