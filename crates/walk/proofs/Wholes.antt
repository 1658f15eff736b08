-- The ranges of all that is ahead: written one by one, and those of a walk in which no word overflowed
use Rattle.std.proofs.Common.{◌≡◌, ℕ, zero, suc, ◌+◌, ◌-◌, ◌<◌, ◌≤◌, Bool, false, cond, List, [], ◌++◌, length, drop, sym, refl, ap, ◌∙◌, arith}
use Rattle.std.proofs.lemmas.Bool.{cond_both, false≢true}
use Rattle.measure.specs.declared.measure.Measure.{Ghosts}
use Rattle.paragraph.specs.Reading.{ahead_in}
use Rattle.paragraph.specs.Text.{Text, span_at, word_at}
use Rattle.paragraph.specs.declared.place.Position.{Position}
use Rattle.paragraph.specs.declared.place.Stretch.{Stretch}
use Rattle.paragraph.specs.declared.span.Span.{Span}
use Rattle.walk.specs.Parts.{later, next, part_size}
use Rattle.walk.specs.Steps.{counted, put_at, range_at}
use Rattle.walk.specs.Walk.{Lay, Part, cut_part, in_span, kept, lay, nothing, part_of, range_of, walks, with_part}
use Rattle.walk.specs.Whole.{whole_from, whole_ranges}
use Rattle.walk.specs.Widths.{ahead_of, overflow, part_width, rest_width}
use Rattle.walk.specs.declared.line.LayoutDirection.TheVariants.{Forward}
use Rattle.walk.specs.declared.line.Rule.{Rule}
use Rattle.walk.specs.declared.line.VlRange.{VlRange}
use Rattle.walk.proofs.Puts.{counted_kept, counted_le, put_kept}

module _ {S W : Type 0} (k : Ghosts S W) (m : S) (t : Text) (p : Position) (rule : Rule W) where
  span_whole : (sp : Span) (a : Stretch) (up : Bool) (first count : ℕ) (T R : W) (blanks laid at n : ℕ) → (in_span k m t p rule sp a up first count T R blanks laid at n).flagged ≡ false → (in_span k m t p rule sp a up first count T R blanks laid at n).stretch ≡ a
  span_whole sp a up first count T R blanks laid at zero = λ _. refl
  span_whole sp a up first count T R blanks laid at (suc n) =
      let w = next up at n in
      let word = word_at t (sp.offset + w) in
      cond_both (overflow k m rule (k.sum_of m T R) (part_width k m t sp a w) (rest_width k m t p sp a (later up at) n first count) (part_size a w word))
      (cut_part k m t p rule sp a up T R blanks laid w)
      (in_span k m t p rule sp a up first count T (k.sum_of m R (part_width k m t sp a w)) (cond word.blank (blanks + 1) blanks) (laid + part_size a w word) (later up at) n)
      (λ (q : Part W). q.flagged ≡ false → q.stretch ≡ a) (λ _ e. absurd (false≢true (sym e)))
      (λ _. span_whole sp a up first count T (k.sum_of m R (part_width k m t sp a w)) (cond word.blank (blanks + 1) blanks) (laid + part_size a w word) (later up at) n)

  part_whole : (l : Lay W) (s first count : ℕ) → (part_of k m t p rule Forward l s first count).flagged ≡ false → (part_of k m t p rule Forward l s first count).stretch ≡ ahead_of t p s
  part_whole l s first count = span_whole (span_at t s) (ahead_of t p s) _ first count l.width (k.nil_of m) l.blanks l.laid (ahead_of t p s).start.word _

  walks_whole : (l : Lay W) (at n : ℕ) → (walks k m t p rule Forward l at n).flagged ≡ false → (walks k m t p rule Forward l at n).ranges ≡ whole_from t p l.ranges at n
  walks_whole l at zero = λ _. refl
  walks_whole l at (suc n) =
      let q = part_of k m t p rule Forward l at (at + 1) n in
      cond_both q.flagged (with_part k m t p rule l at q) (walks k m t p rule Forward (with_part k m t p rule l at q) (at + 1) n) (λ (x : Lay W). x.flagged ≡ false → x.ranges ≡ whole_from t p l.ranges at (suc n))
      (λ f e. absurd (false≢true (sym e ∙ f)))
      (λ f e. walks_whole (with_part k m t p rule l at q) (at + 1) n e ∙ ap (λ (b : Stretch). whole_from t p (kept l.ranges (range_of t at b)) (at + 1) n) (part_whole l at (at + 1) n f))

  -- the ranges of a walk in which no word overflowed
  pub lay_whole : (lay k m t p rule Forward).flagged ≡ false → (lay k m t p rule Forward).ranges ≡ whole_ranges t p
  lay_whole = walks_whole (nothing k m t p rule) p.span (length t.spans - p.span)

-- Before the span s, where `count` ranges were written. The list was `before` and is `after`
pub record AtRange (t : Text) (p : Position) (before after : List VlRange) (count s : ℕ) : Type 0 where
  pub ranges : List VlRange
  pub counts : length ranges ≡ count
  pub goes : whole_from t p ranges s (length t.spans - s) ≡ whole_ranges t p
  pub written : length t.spans - p.span ≤ length before → after ≡ ranges ++ drop count before
  pub few : count + p.span ≤ s

module _ (t : Text) (p : Position) where
  pub none_put : (out : List VlRange) → AtRange t p out out 0 p.span
  none_put out = record { ranges = []; counts = refl; goes = refl; written = λ _. refl; few = omega arith }

  module _ {before after out : List VlRange} {count count2 s : ℕ} {sp : Span} {a : Stretch} (here : AtRange t p before after count s) (there : s < length t.spans) (sp_is : sp ≡ span_at t s) (a_is : a ≡ ahead_in t.direction p s sp)
      (count_is : count2 ≡ counted count (range_at s a sp.level)) (out_is : out ≡ put_at after count (range_at s a sp.level)) where
    the_range : range_at s a sp.level ≡ range_of t s (ahead_of t p s)
    the_range =
        ap (λ (b : Stretch). range_at s b sp.level) a_is
        ∙ ap (λ (z : Span). range_at s (ahead_in t.direction p s z) z.level) sp_is

    one_on : whole_from t p (kept here.ranges (range_at s a sp.level)) (s + 1) (length t.spans - (s + 1)) ≡ whole_from t p here.ranges s (length t.spans - s)
    one_on =
        let n : length t.spans - s ≡ suc (length t.spans - (s + 1)) = omega arith in
        rw n (ap (λ (r : VlRange). whole_from t p (kept here.ranges r) (s + 1) (length t.spans - (s + 1))) the_range)

    pub one_put : AtRange t p before out count2 (s + 1)
    one_put =
        record {
          ranges = kept here.ranges (range_at s a sp.level);
          counts = counted_kept here.ranges count (range_at s a sp.level) here.counts ∙ sym count_is;
          goes = one_on ∙ here.goes;
          written = λ h.
              out_is
              ∙ put_kept here.ranges before after count (range_at s a sp.level) here.counts (omega (arith, here.few)) (here.written h)
              ∙ ap (λ (i : ℕ). kept here.ranges (range_at s a sp.level) ++ drop i before) (sym count_is);
          few = omega (arith, here.few, count_is, counted_le count (range_at s a sp.level));
        }

  pub all_put : {before after : List VlRange} {count s : ℕ} → AtRange t p before after count s → length t.spans ≤ s → (count ≡ length (whole_ranges t p)) × (length t.spans - p.span ≤ length before → after ≡ whole_ranges t p ++ drop count before)
  all_put {before} {after} {count} {s} here past =
      let n : length t.spans - s ≡ 0 = omega arith in
      let all : here.ranges ≡ whole_ranges t p = ap (whole_from t p here.ranges s) (sym n) ∙ here.goes in
      (sym here.counts ∙ ap length all, λ h. here.written h ∙ ap (λ (rs : List VlRange). rs ++ drop count before) all)
