-- One span more of a walk, and the ends
use Rattle.std.proofs.Common.{◌≡◌, ℕ, suc, ◌+◌, ◌-◌, ◌*◌, ◌≤◌, Bool, true, false, List, [], ◌++◌, length, drop, sym, ap, ◌∙◌, arith}
use Rattle.std.proofs.lemmas.Bool.{cond-true, cond-false}
use Rattle.measure.specs.declared.measure.Measure.{Ghosts}
use Rattle.paragraph.specs.Reading.{exists}
use Rattle.paragraph.specs.Text.{Text, Sound, span_at}
use Rattle.paragraph.specs.declared.place.Position.{Position}
use Rattle.paragraph.specs.declared.span.Span.{Span}
use Rattle.paragraph.specs.Aheads.{text_at}
use Rattle.walk.specs.Parts.{forward, goes_up, later, next}
use Rattle.walk.specs.Steps.{as_part, counted, put_at, range_at}
use Rattle.walk.specs.Walk.{Lay, Part, kept, nothing, part_of, told, walks, with_part}
use Rattle.walk.specs.declared.line.LayoutDirection.{LayoutDirection}
use Rattle.walk.specs.declared.line.Rule.{Rule}
use Rattle.walk.specs.declared.line.VlRange.{VlRange}
use Rattle.walk.specs.declared.line.Walked.{Walked}
use Rattle.walk.specs.declared.span_part.SpanPart.{SpanPart}
use Rattle.walk.specs.Widths.{ahead_of}
use Rattle.walk.specs.declared.places.Places.{Places}
use Rattle.walk.specs.declared.span_ahead.SpanAhead.{SpanAhead}
use Rattle.walk.proofs.Aheads.{span_named}
use Rattle.walk.proofs.Orders.{later_in}
use Rattle.walk.proofs.Progress.{AtSpan, WalkedAll, all_of, as_lay}
use Rattle.walk.proofs.Puts.{counted_kept, counted_le, put_kept}

module _ {S W : Type 0} (k : Ghosts S W) (m : S) (t : Text) (p : Position) (rule : Rule W) (way : LayoutDirection) (sound : Sound t) (stands : exists t p ≡ true) where
  -- before the first span
  pub starts : (out : List VlRange) (line : Walked W) {at n : ℕ} → at ≡ p.span → n ≡ length t.spans - p.span → line ≡ record { ranges = 0; blanks = 0; laid = 0; width = k.nil_of m; flagged = false } → AtSpan k m t p rule way out out line at n
  starts out line {at} {n} at_is n_is is =
      record {
        ranges = [];
        counts = sym (ap (λ (l : Walked W). l.ranges) is);
        goes = ap (λ (l : Walked W). walks k m t p rule way (as_lay [] l) at n) is ∙ ap (λ (i : ℕ). walks k m t p rule way (nothing k m t p rule) i n) at_is ∙ ap (walks k m t p rule way (nothing k m t p rule) p.span) n_is;
        written = λ h. sym (ap (λ (l : Walked W). drop l.ranges out) is);
        there = omega (arith, at_is, n_is, span_named t p stands);
        few = omega (arith, n_is, ap (λ (l : Walked W). l.ranges) is);
        blanks = omega (arith, n_is, ap (λ (l : Walked W). l.blanks) is, sound.few_spans);
        laid = omega (arith, n_is, ap (λ (l : Walked W). l.laid) is, sound.few_spans);
        unflagged = ap (λ (l : Walked W). l.flagged) is;
      }

  -- after the last span
  pub walked_through : {before after : List VlRange} {line : Walked W} {at n : ℕ} → n ≡ 0 → AtSpan k m t p rule way before after line at n → WalkedAll k m t p rule way before after line
  walked_through {before} {line = line} {at} {n} none here =
      let all = ap (walks k m t p rule way (as_lay here.ranges line) at) (sym none) ∙ here.goes in
      record {
        tells = ap (λ (i : ℕ). record { ranges = i; blanks = line.blanks; laid = line.laid; width = line.width; flagged = line.flagged }) (sym here.counts) ∙ ap told all;
        few = omega (arith, here.few);
        written = λ r. here.written r ∙ ap (λ (l : Lay W). l.ranges ++ drop line.ranges before) all;
      }

  -- at the span s, of which `a` is ahead, and then the j spans from f on
  module _ {before after : List VlRange} {line : Walked W} {at n s f j : ℕ} {fw : Bool} {sp : Span} (here : AtSpan k m t p rule way before after line at n)
      (n_is : n ≡ suc j) (fw_is : fw ≡ forward way) (s_is : s ≡ next fw at j) (f_is : f ≡ later fw at) (sp_is : sp ≡ span_at t s) where
    pub later_there : f + j ≤ length t.spans
    later_there = omega (arith, here.there, (later_in fw at).1)

    s_here : next (forward way) at j ≡ s
    s_here = sym (s_is ∙ ap (λ (b : Bool). next b at j) fw_is)

    f_here : later (forward way) at ≡ f
    f_here = sym (f_is ∙ ap (λ (b : Bool). later b at) fw_is)

    walk_on : (l : Lay W) (q : Part W) → q ≡ part_of k m t p rule way l s f j → q.flagged ≡ false → walks k m t p rule way (with_part k m t p rule l s q) f j ≡ walks k m t p rule way l at n
    walk_on l q q_is e =
        let Q = part_of k m t p rule way l s f j in
        let whole : walks k m t p rule way l at (suc j) ≡ walks k m t p rule way (with_part k m t p rule l s Q) f j =
        rw (s_here, f_here) (cond-false Q.flagged (with_part k m t p rule l s Q) (walks k m t p rule way (with_part k m t p rule l s Q) f j) (ap (λ (y : Part W). y.flagged) (sym q_is) ∙ e)) in
        ap (λ (y : Part W). walks k m t p rule way (with_part k m t p rule l s y) f j) q_is ∙ sym whole ∙ ap (λ (i : ℕ). walks k m t p rule way l at i) (sym n_is)

    walk_cut : (l : Lay W) (q : Part W) → q ≡ part_of k m t p rule way l s f j → q.flagged ≡ true → walks k m t p rule way l at n ≡ with_part k m t p rule l s q
    walk_cut l q q_is e =
        let Q = part_of k m t p rule way l s f j in
        let whole : walks k m t p rule way l at (suc j) ≡ with_part k m t p rule l s Q =
        rw (s_here, f_here) (cond-true Q.flagged (with_part k m t p rule l s Q) (walks k m t p rule way (with_part k m t p rule l s Q) f j) (ap (λ (y : Part W). y.flagged) (sym q_is) ∙ e)) in
        ap (λ (i : ℕ). walks k m t p rule way l at i) n_is ∙ whole ∙ ap (λ (y : Part W). with_part k m t p rule l s y) (sym q_is)

    -- what is laid of it, by the names that the walk has for its parts
    pub part_is : (own : SpanAhead) (spans : Places) {up : Bool} → text_at own.ahead ≡ t → own.ahead.position ≡ p → own.span ≡ sp → own.stretch ≡ ahead_of t p s → up ≡ goes_up t.direction own.span way → spans.first ≡ f → spans.count ≡ j →
        all_of k m rule own up line spans ≡ part_of k m t p rule way (as_lay [] line) s f j
    part_is own spans {up} t_is p_is own_is a_is up_is first_is count_is = rw (t_is, p_is, a_is, up_is, own_is, sp_is, first_is, count_is)

    -- The line with what was laid of it
    module _ {q : SpanPart W} {line2 : Walked W} {out2 : List VlRange} (q_is : as_part q ≡ part_of k m t p rule way (as_lay [] line) s f j)
        (line2_is : line2 ≡ record { ranges = counted line.ranges (range_at s q.stretch sp.level); blanks = q.blanks; laid = q.laid; width = k.sum_of m line.width q.width; flagged = q.flagged })
        (out2_is : out2 ≡ put_at after line.ranges (range_at s q.stretch sp.level)) where
      count_is : line2.ranges ≡ counted line.ranges (range_at s q.stretch sp.level)
      count_is = ap (λ (l : Walked W). l.ranges) line2_is

      all_long : length (kept here.ranges (range_at s q.stretch sp.level)) ≡ line2.ranges
      all_long = counted_kept here.ranges line.ranges (range_at s q.stretch sp.level) here.counts ∙ sym count_is

      still_few : line2.ranges + j ≤ length t.spans - p.span
      still_few = omega (arith, here.few, count_is, counted_le line.ranges (range_at s q.stretch sp.level))

      all_written : length t.spans - p.span ≤ length before → out2 ≡ kept here.ranges (range_at s q.stretch sp.level) ++ drop line2.ranges before
      all_written h =
          out2_is
          ∙ put_kept here.ranges before after line.ranges (range_at s q.stretch sp.level) here.counts (omega (arith, here.few)) (here.written h)
          ∙ ap (λ (i : ℕ). kept here.ranges (range_at s q.stretch sp.level) ++ drop i before) (sym count_is)

      lay_is : as_lay (kept here.ranges (range_at s q.stretch sp.level)) line2 ≡ with_part k m t p rule (as_lay here.ranges line) s (as_part q)
      lay_is =
          ap (λ (l : Walked W). as_lay (kept here.ranges (range_at s q.stretch sp.level)) l) line2_is
          ∙ ap (λ (z : Span). as_lay (kept here.ranges (range_at s q.stretch z.level)) (record { ranges = 0; blanks = q.blanks; laid = q.laid; width = k.sum_of m line.width q.width; flagged = q.flagged })) sp_is

      -- it was walked to its end
      pub span_through : (c : ℕ) → c ≤ 4096 → q.flagged ≡ false → q.blanks ≤ line.blanks + c → q.laid ≤ line.laid + 16384 * c → AtSpan k m t p rule way before out2 line2 f j
      span_through c few unflagged more_blanks more_laid =
          record {
            ranges = kept here.ranges (range_at s q.stretch sp.level);
            counts = all_long;
            goes = ap (λ (l : Lay W). walks k m t p rule way l f j) lay_is ∙ walk_on (as_lay here.ranges line) (as_part q) q_is unflagged ∙ here.goes;
            written = all_written;
            there = later_there;
            few = still_few;
            blanks = omega (arith, here.blanks, ap (λ (l : Walked W). l.blanks) line2_is);
            laid = omega (arith, here.laid, ap (λ (l : Walked W). l.laid) line2_is);
            unflagged = ap (λ (l : Walked W). l.flagged) line2_is ∙ unflagged;
          }

      -- a word of it overflowed
      pub span_ended : q.flagged ≡ true → WalkedAll k m t p rule way before out2 line2
      span_ended flagged =
          let whole = lay_is ∙ sym (walk_cut (as_lay here.ranges line) (as_part q) q_is flagged) ∙ here.goes in
          record {
            tells = ap (λ (i : ℕ). record { ranges = i; blanks = line2.blanks; laid = line2.laid; width = line2.width; flagged = line2.flagged }) (sym all_long) ∙ ap told whole;
            few = omega (arith, still_few);
            written = λ r. all_written r ∙ ap (λ (l : Lay W). l.ranges ++ drop line2.ranges before) whole;
          }
