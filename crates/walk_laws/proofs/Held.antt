-- The glyphs of stretches and ranges as lists: cut in two by a walk, counted, and shown range by range
use Rattle.std.proofs.Common.{◌≡◌, ℕ, zero, suc, ◌+◌, ◌-◌, ◌≤◌, Bool, true, false, cond, not, List, [], ◌∷◌, ◌++◌, reverse, length, sym, refl, ap, ◌∙◌, append_assoc, append-nil, arith, length-append}
use Rattle.std.proofs.lemmas.List.{reverse-append}
use Rattle.std.proofs.lemmas.Bool.{cond_both}
use Rattle.paragraph.specs.Reading.{boundary, between, held, ahead_from}
use Rattle.paragraph.specs.Text.{Text, span_at, congruent}
use Rattle.paragraph.specs.declared.place.Place.{Place}
use Rattle.paragraph.specs.declared.place.Position.{Position}
use Rattle.paragraph.specs.declared.place.Stretch.{Stretch}
use Rattle.paragraph.specs.declared.span.Span.{Span}
use Rattle.walk.specs.Parts.{forward, goes_up, next, later}
use Rattle.walk.specs.Walk.{cut_to, in_order, kept, range_of, same_place}
use Rattle.walk.specs.Widths.{ahead_of}
use Rattle.walk.specs.declared.line.LayoutDirection.{LayoutDirection}
use Rattle.walk.specs.declared.line.LayoutDirection.TheVariants.{Forward, Backward}
use Rattle.walk.specs.declared.line.VlRange.{VlRange}
use Rattle.walk_laws.specs.Laws.{met}
use Rattle.walk_laws.specs.Shown.{shown, shown_by}
use Rattle.walk_laws.proofs.Cuts.{passed}
use Rattle.walk_laws.proofs.Intervals.{upto, turned, upto_cut, upto_none, length_upto}
use Rattle.walk_laws.proofs.Places.{same_boundary}

met_none : (way : LayoutDirection) (xs : List ℕ) → met way xs [] ≡ xs
met_none Forward xs = append-nil xs
met_none Backward xs = refl

pub met_met : (way : LayoutDirection) (xs ys zs : List ℕ) → met way (met way xs ys) zs ≡ met way xs (met way ys zs)
met_met Forward xs ys zs = append_assoc xs ys zs
met_met Backward xs ys zs = sym (append_assoc zs ys xs)

pub length_met : (way : LayoutDirection) (xs ys : List ℕ) → length (met way xs ys) ≡ length xs + length ys
length_met Forward xs ys = length-append xs ys
length_met Backward xs ys = length-append ys xs ∙ omega arith

-- what of a stretch a walk leaves that was cut at c
abbrev pub cut_off : Bool → Stretch → Place → Stretch
cut_off up a c = cond up (between c a.end) (between a.start c)

-- the glyphs between two boundaries, in reading order
abbrev glyphs_of : (Place → ℕ) → Bool → Stretch → List ℕ
glyphs_of at agrees a = turned agrees (upto (at a.start) (at a.end))

reverse_cut : (low mid high : ℕ) → low ≤ mid → mid ≤ high → reverse (upto low high) ≡ reverse (upto mid high) ++ reverse (upto low mid)
reverse_cut low mid high i j = ap reverse (upto_cut low mid high i j) ∙ reverse-append (upto low mid) (upto mid high)

cut_glyphs : (at : Place → ℕ) (agrees : Bool) (way : LayoutDirection) (a : Stretch) (c : Place) → at a.start ≤ at c → at c ≤ at a.end →
    let up = cond agrees (forward way) (not (forward way)) in glyphs_of at agrees a ≡ met way (glyphs_of at agrees (cut_to up a c)) (glyphs_of at agrees (cut_off up a c))
cut_glyphs at true Forward a c i j = upto_cut (at a.start) (at c) (at a.end) i j
cut_glyphs at true Backward a c i j = upto_cut (at a.start) (at c) (at a.end) i j
cut_glyphs at false Forward a c i j = reverse_cut (at a.start) (at c) (at a.end) i j
cut_glyphs at false Backward a c i j = reverse_cut (at a.start) (at c) (at a.end) i j

module _ (t : Text) (sp : Span) where
  pub held_cut : (way : LayoutDirection) (a : Stretch) (c : Place) → boundary t sp a.start ≤ boundary t sp c → boundary t sp c ≤ boundary t sp a.end →
      held t sp a ≡ met way (held t sp (cut_to (goes_up t.direction sp way) a c)) (held t sp (cut_off (goes_up t.direction sp way) a c))
  held_cut way a c = cut_glyphs (boundary t sp) (congruent t.direction sp.level) way a c

  pub length_held : (a : Stretch) → length (held t sp a) ≡ boundary t sp a.end - boundary t sp a.start
  length_held a = length_upto (congruent t.direction sp.level) (boundary t sp a.start) (boundary t sp a.end)

  pub length_cut : (up : Bool) (a : Stretch) (c : Place) → length (held t sp (cut_to up a c)) ≡ passed up (boundary t sp a.start) (boundary t sp c) (boundary t sp a.end)
  length_cut true a c = length_held (between a.start c)
  length_cut false a c = length_held (between c a.end)

  held_none : (a : Stretch) → same_place a.start a.end ≡ true → held t sp a ≡ []
  held_none a e =
      ap (λ (i : ℕ). turned (congruent t.direction sp.level) (upto (boundary t sp a.start) i)) (sym (same_boundary t sp a.start a.end e))
      ∙ upto_none (congruent t.direction sp.level) (boundary t sp a.start)

module _ (t : Text) where
  shown_push : (rs : List VlRange) (r : VlRange) → shown t (rs ++ r ∷ []) ≡ shown t rs ++ shown_by t r
  shown_push [] r = append-nil (shown_by t r)
  shown_push (q ∷ rs) r = ap (λ (l : List ℕ). shown_by t q ++ l) (shown_push rs r) ∙ sym (append_assoc (shown_by t q) (shown t rs) (shown_by t r))

  one_more : (way : LayoutDirection) (rs : List VlRange) (r : VlRange) → shown t (in_order way (rs ++ r ∷ [])) ≡ met way (shown t (in_order way rs)) (shown_by t r)
  one_more Forward rs r = shown_push rs r
  one_more Backward rs r = ap (shown t) (reverse-append rs (r ∷ []))

  -- one range more, also where it is left out since its ends are equal
  pub shown_kept : (way : LayoutDirection) (rs : List VlRange) (s : ℕ) (a : Stretch) → shown t (in_order way (kept rs (range_of t s a))) ≡ met way (shown t (in_order way rs)) (held t (span_at t s) a)
  shown_kept way rs s a =
      cond_both (same_place a.start a.end) rs (rs ++ range_of t s a ∷ []) (λ (l : List VlRange). shown t (in_order way l) ≡ met way (shown t (in_order way rs)) (held t (span_at t s) a))
      (λ e. sym (met_none way (shown t (in_order way rs))) ∙ ap (met way (shown t (in_order way rs))) (sym (held_none t (span_at t s) a e)))
      (λ _. one_more way rs (range_of t s a))

  -- what is ahead, by the span that a walk meets first
  ahead_last : (p : Position) (at n : ℕ) → ahead_from t p at (suc n) ≡ ahead_from t p at n ++ held t (span_at t (at + n)) (ahead_of t p (at + n))
  ahead_last p at zero =
      let e : at + 0 ≡ at = omega arith in
      append-nil (held t (span_at t at) (ahead_of t p at)) ∙ ap (λ (s : ℕ). held t (span_at t s) (ahead_of t p s)) (sym e)
  ahead_last p at (suc n) =
      let e : at + 1 + n ≡ at + suc n = omega arith in
      let own = held t (span_at t at) (ahead_of t p at) in
      ap (λ (l : List ℕ). own ++ l) (ahead_last p (at + 1) n)
      ∙ sym (append_assoc own (ahead_from t p (at + 1) n) (held t (span_at t (at + 1 + n)) (ahead_of t p (at + 1 + n))))
      ∙ ap (λ (s : ℕ). ahead_from t p at (suc n) ++ held t (span_at t s) (ahead_of t p s)) e

  pub ahead_pick : (p : Position) (way : LayoutDirection) (at n : ℕ) →
      let s = next (forward way) at n in ahead_from t p at (suc n) ≡ met way (held t (span_at t s) (ahead_of t p s)) (ahead_from t p (later (forward way) at) n)
  ahead_pick p Forward at n = refl
  ahead_pick p Backward at n = ahead_last p at n
