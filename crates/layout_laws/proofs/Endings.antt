-- Where a forward walk ends: behind its last range stands just what it leaves
use Rattle.std.proofs.Common.{◌≡◌, ℕ, zero, suc, ◌+◌, ◌-◌, ◌<◌, ◌≤◌, Bool, true, false, cond, not, eqb, ltb, List, [], ◌∷◌, ◌++◌, length, Some, sym, refl, ap, ◌∙◌, subst, ap₂, append_assoc, arith}
use Rattle.layout.proofs.Ends.{last_push}
use Rattle.layout.specs.Ellipsis.{last_of}
use Rattle.layout_laws.specs.Laws.{Ended, Ends}
use Rattle.measure.specs.declared.measure.Measure.{Ghosts}
use Rattle.paragraph.specs.Reading.{ahead, ahead_from, between, boundary, edge, exists, held, whole}
use Rattle.paragraph.specs.Text.{Sound, Text, congruent, span_at}
use Rattle.paragraph.specs.declared.place.Place.{Place}
use Rattle.paragraph.specs.declared.place.Position.{Position}
use Rattle.paragraph.specs.declared.place.Stretch.{Stretch}
use Rattle.paragraph.specs.declared.span.Span.{Span}
use Rattle.std.proofs.lemmas.Bool.{and_from, cond_both, cond-false, cond-true, eq-eqb, lt-ltb, ne_eqb}
use Rattle.walk.specs.Walk.{Lay, Part, kept, lay, nothing, part_of, range_of, same_place, walks, with_part}
use Rattle.walk.specs.Widths.{ahead_of}
use Rattle.walk.specs.declared.line.LayoutDirection.TheVariants.{Forward}
use Rattle.walk.specs.declared.line.Rule.{Rule}
use Rattle.walk.specs.declared.line.VlRange.{VlRange}
use Rattle.walk_laws.proofs.Held.{cut_off, shown_kept}
use Rattle.walk_laws.proofs.Intervals.{turned, upto, upto_none}
use Rattle.walk_laws.proofs.Places.{Inside, place_from_inside, same_boundary, existing}
use Rattle.walk_laws.proofs.Spans.{left_at}
use Rattle.walk_laws.proofs.Walks.{part_law, part_parted, part_whole}
use Rattle.walk_laws.specs.Shown.{shown}

-- the spans behind two positions are ahead of both alike
later_alike : (t : Text) (p q : Position) (s n : ℕ) → p.span < s → q.span < s → ahead_from t p s n ≡ ahead_from t q s n
later_alike t p q s zero h i = refl
later_alike t p q s (suc n) h i =
    ap₂ (λ (a b : List ℕ). a ++ b) (ap (held t (span_at t s)) (all_of p h ∙ sym (all_of q i))) (later_alike t p q (s + 1) n (omega arith) (omega arith))
  where
    all_of : (o : Position) → o.span < s → ahead_of t o s ≡ whole (span_at t s)
    all_of o l = cond-false (eqb s o.span) _ (whole (span_at t s)) (ne_eqb s o.span (λ e. omega arith))

-- between equal boundaries nothing stands
held_same : (t : Text) (sp : Span) (a : Stretch) → boundary t sp a.start ≡ boundary t sp a.end → held t sp a ≡ []
held_same t sp a e =
    ap (λ (b : ℕ). turned (congruent t.direction sp.level) (upto (boundary t sp a.start) b)) (sym e)
    ∙ upto_none (congruent t.direction sp.level) (boundary t sp a.start)

held_past : (up : Bool) (t : Text) (sp : Span) (a : Stretch) → held t sp (cut_off up a (left_at up a)) ≡ []
held_past true t sp a = held_same t sp (between a.end a.end) refl
held_past false t sp a = held_same t sp (between a.start a.start) refl

-- what a cut leaves of what is ahead in a span is what is ahead of the cut
abbrev own_ahead : Bool → Span → Place → Stretch
own_ahead up sp c = cond up (between c (edge sp.len)) (between (edge 0) c)

cut_ahead : (up own : Bool) (sp : Span) (o c : Place) → cut_off up (cond own (own_ahead up sp o) (whole sp)) c ≡ own_ahead up sp c
cut_ahead true true sp o c = refl
cut_ahead true false sp o c = refl
cut_ahead false true sp o c = refl
cut_ahead false false sp o c = refl

module _ (t : Text) (p : Position) where
  -- one more range, unless its ends are equal
  kept_ends : (rs : List VlRange) (s : ℕ) (a : Stretch) (rest : List ℕ) →
      Ends t p rs (held t (span_at t s) a ++ rest) → Ended t (range_of t s a) rest → Ends t p (kept rs (range_of t s a)) rest
  kept_ends rs s a rest h e =
      record {
        parted =
            h.parted ∙ sym (append_assoc (shown t rs) (held t (span_at t s) a) rest) ∙ ap (λ (is : List ℕ). is ++ rest) (sym (shown_kept t Forward rs s a));
        last_ends =
            cond_both (same_place a.start a.end) rs (rs ++ range_of t s a ∷ []) (λ (l : List VlRange). (r : VlRange) → last_of l ≡ Some r → Ended t r rest)
            (λ i r. subst (λ (is : List ℕ). last_of rs ≡ Some r → Ended t r (is ++ rest)) (held_same t (span_at t s) a (same_boundary t (span_at t s) a.start a.end i)) (h.last_ends r))
            (λ _ r i. subst (λ (o : VlRange). Ended t o rest) (one r i) e);
      }
    where
      one : (r : VlRange) → last_of (rs ++ range_of t s a ∷ []) ≡ Some r → range_of t s a ≡ r
      one r i = let j = last_push rs (range_of t s a) in cc

  module _ (s n : ℕ) (from : p.span ≤ s) (count : s + suc n ≡ length t.spans) where
    abbrev sp : Span
    sp = span_at t s

    abbrev up : Bool
    up = congruent t.direction sp.level

    -- the position where a part of the span s ends in reading order
    abbrev end_of : Stretch → Position
    end_of a = record { span = s; place = left_at up a }

    -- what a walk that laid a part of the span s leaves of what is ahead in it
    abbrev left : Stretch → List ℕ
    left a = held t sp (cut_off up (ahead_of t p s) (left_at up a))

    end_exists : (a : Stretch) → Inside t sp (left_at up a) → exists t (end_of a) ≡ true
    end_exists a i =
        cond-true (ltb 0 (length t.spans)) _ _ (lt-ltb 0 (length t.spans) (omega arith))
        ∙ and_from _ _ (lt-ltb s (length t.spans) (omega arith)) (place_from_inside t sp (left_at up a) i)

    ahead_left : (a : Stretch) → ahead t (end_of a) ≡ left a ++ ahead_from t p (s + 1) n
    ahead_left a =
        ap (ahead_from t (end_of a) s) still
        ∙ ap₂ (λ (x y : List ℕ). x ++ y) (ap (held t sp) own) (later_alike t (end_of a) p (s + 1) n (omega arith) (omega arith))
      where
        still : length t.spans - s ≡ suc n
        still = omega arith

        own : ahead_of t (end_of a) s ≡ cut_off up (ahead_of t p s) (left_at up a)
        own =
            cond-true (eqb s s) (own_ahead up sp (left_at up a)) (whole sp) (eq-eqb s s refl)
            ∙ sym (cut_ahead up (eqb s p.span) sp p.place (left_at up a))

    -- the ranges with what was laid of the span s
    part_ends : (rs : List VlRange) (a : Stretch) → Inside t sp (left_at up a) → held t sp (ahead_of t p s) ≡ held t sp a ++ left a →
        Ends t p rs (ahead_from t p s (suc n)) → Ends t p (kept rs (range_of t s a)) (left a ++ ahead_from t p (s + 1) n)
    part_ends rs a i e h =
        kept_ends rs s a (left a ++ ahead_from t p (s + 1) n)
        (subst (Ends t p rs) (ap (λ (is : List ℕ). is ++ ahead_from t p (s + 1) n) e ∙ append_assoc (held t sp a) (left a) (ahead_from t p (s + 1) n)) h)
        (s, refl, end_exists a i, ahead_left a)

    none_left : (a : Stretch) → a ≡ ahead_of t p s → left a ++ ahead_from t p (s + 1) n ≡ ahead_from t p (s + 1) n
    none_left a e =
        ap (λ (b : Stretch). left b ++ ahead_from t p (s + 1) n) e ∙ ap (λ (is : List ℕ). is ++ ahead_from t p (s + 1) n) (held_past up t sp (ahead_of t p s))

-- a forward walk goes up the tables of congruent spans
forward_up : (b : Bool) → cond b true (not true) ≡ b
forward_up true = refl
forward_up false = refl

module _ {S W : Type 0} (k : Ghosts S W) (m : S) (t : Text) (p : Position) (rule : Rule W) (sound : Sound t) (here : exists t p ≡ true) where
  abbrev part : Lay W → ℕ → ℕ → Part W
  part l s n = part_of k m t p rule Forward l s (s + 1) n

  walks_end : (l : Lay W) (s n : ℕ) → p.span ≤ s → s + n ≡ length t.spans → Ends t p l.ranges (ahead_from t p s n) →
      (rest : List ℕ) × Ends t p (walks k m t p rule Forward l s n).ranges rest
  walks_end l s zero i e h = (ahead_from t p s zero, h)
  walks_end l s (suc n) i e h =
      let q = part l s n in
      let up = forward_up (congruent t.direction (span_at t s).level) in
      let next : Ends t p (kept l.ranges (range_of t s q.stretch)) (left t p s n i e q.stretch ++ ahead_from t p (s + 1) n) =
      part_ends t p s n i e l.ranges q.stretch
      (subst (λ (u : Bool). Inside t (span_at t s) (left_at u q.stretch)) up (part_law k m t p rule sound here Forward l s (s + 1) n).place.in_span)
      (subst (λ (u : Bool). held t (span_at t s) (ahead_of t p s) ≡ held t (span_at t s) q.stretch ++ held t (span_at t s) (cut_off u (ahead_of t p s) (left_at u q.stretch))) up (part_parted k m t p rule sound here Forward l s (s + 1) n))
      h
      in
      cond_both q.flagged (with_part k m t p rule l s q) (walks k m t p rule Forward (with_part k m t p rule l s q) (s + 1) n)
      (λ (x : Lay W). (rest : List ℕ) × Ends t p x.ranges rest)
      (λ _. (_, next))
      (λ f.
      walks_end (with_part k m t p rule l s q) (s + 1) n (omega arith) (omega arith)
      (subst (Ends t p (kept l.ranges (range_of t s q.stretch))) (none_left t p s n i e q.stretch (part_whole k m t p rule sound here Forward l s (s + 1) n f)) next))

  pub walk_ends : (rest : List ℕ) × Ends t p (lay k m t p rule Forward).ranges rest
  walk_ends =
      walks_end (nothing k m t p rule) p.span (length t.spans - p.span) (omega arith) (omega (arith, (existing t p here).span_most))
      (record { parted = refl; last_ends = λ r i. absurd cc })
