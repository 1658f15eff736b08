-- One word more of a walk in a span, and its end
use Rattle.std.proofs.Common.{◌≡◌, ℕ, ◌+◌, ◌*◌, ◌<◌, ◌≤◌, Bool, true, false, cond, sym, ap, ◌∙◌, arith}
use Rattle.measure.specs.declared.measure.Measure.{Ghosts}
use Rattle.paragraph.specs.Text.{Text, Sound, word_at}
use Rattle.paragraph.specs.declared.place.Position.{Position}
use Rattle.paragraph.specs.declared.place.Stretch.{Stretch}
use Rattle.paragraph.specs.declared.span.Span.{Span}
use Rattle.walk.specs.Inside.{Inside}
use Rattle.walk.specs.Parts.{later, next, part_size, words_in}
use Rattle.walk.specs.Places.{Follows}
use Rattle.walk.specs.Steps.{as_part}
use Rattle.walk.specs.Walk.{Part, cut_part, in_span}
use Rattle.walk.specs.Widths.{overflow, part_width, rest_width}
use Rattle.walk.specs.declared.line.Rule.{Rule}
use Rattle.walk.specs.declared.places.Places.{Places}
use Rattle.walk.specs.declared.span_part.SpanPart.{SpanPart}
use Rattle.walk.proofs.Orders.{rest_reached, word_reached}
use Rattle.walk.proofs.Progress.{AtWord}

tick_le : (b : Bool) (n : ℕ) → cond b (n + 1) n ≤ n + 1
tick_le true n = omega arith
tick_le false n = omega arith

module _ {S W : Type 0} (k : Ghosts S W) (m : S) (t : Text) (p : Position) (rule : Rule W) (T : W) (sp : Span) (a : Stretch) (up : Bool) (first count : ℕ) where
  -- before the first word
  pub enters : {part : SpanPart W} {ws : Places} (blanks laid : ℕ) → ws.up ≡ up → ws.first ≡ a.start.word → ws.count ≡ words_in a → part ≡ record { stretch = a; width = k.nil_of m; blanks = blanks; laid = laid; flagged = false } →
      AtWord k m t p rule T sp a up first count (in_span k m t p rule sp a up first count T (k.nil_of m) blanks laid a.start.word (words_in a)) (blanks + words_in a) (laid + 16384 * words_in a) part ws
  enters {part} {ws} blanks laid up_is first_is count_is is =
      record {
        as_up = up_is;
        reaches = (omega (arith, first_is), omega (arith, first_is, count_is));
        goes = ap (λ (q : SpanPart W). in_span k m t p rule sp a up first count T q.width q.blanks q.laid ws.first ws.count) is
            ∙ ap (λ (i : ℕ). in_span k m t p rule sp a up first count T (k.nil_of m) blanks laid i ws.count) first_is
            ∙ ap (λ (n : ℕ). in_span k m t p rule sp a up first count T (k.nil_of m) blanks laid a.start.word n) count_is;
        blanks = omega (arith, count_is, ap (λ (q : SpanPart W). q.blanks) is);
        laid = omega (arith, count_is, ap (λ (q : SpanPart W). q.laid) is);
        stretch_is = ap (λ (q : SpanPart W). q.stretch) is;
        unflagged = ap (λ (q : SpanPart W). q.flagged) is;
      }

-- how many glyphs of a word are ahead
pub size_small : (t : Text) (sp : Span) (a : Stretch) → Sound t → Inside t sp a a.start.word (words_in a) → (w : ℕ) → a.start.word ≤ w → w < a.start.word + words_in a → part_size a w (word_at t (sp.offset + w)) ≤ 16384
size_small t sp a sound inside w low high = omega (arith, inside.high_len w low high, inside.within w low high, sound.few_glyphs)

module _ {S W : Type 0} (k : Ghosts S W) (m : S) (t : Text) (p : Position) (rule : Rule W) {T : W} {sp : Span} {a : Stretch} {up : Bool} {first count : ℕ} {goal : Part W} {B L : ℕ} where
  -- after the last word
  pub all_walked : {part : SpanPart W} {ws : Places} → ws.count ≡ 0 → AtWord k m t p rule T sp a up first count goal B L part ws → as_part part ≡ goal
  all_walked {part} {ws} h here =
      ap (λ (b : Stretch). record { stretch = b; width = part.width; blanks = part.blanks; laid = part.laid; flagged = part.flagged }) here.stretch_is
      ∙ ap (λ (b : Bool). record { stretch = a; width = part.width; blanks = part.blanks; laid = part.laid; flagged = b }) here.unflagged
      ∙ sym (ap (in_span k m t p rule sp a up first count T part.width part.blanks part.laid ws.first) h)
      ∙ here.goes

  -- at the word w, of the width x, and then the words vs
  module _ {part : SpanPart W} {ws vs : Places} {w : ℕ} (here : AtWord k m t p rule T sp a up first count goal B L part ws) (f : Follows ws vs w) where
    w_is : w ≡ next up ws.first vs.count
    w_is = f.place ∙ ap (λ (b : Bool). next b ws.first vs.count) here.as_up

    l_is : vs.first ≡ later up ws.first
    l_is = f.later_first ∙ ap (λ (b : Bool). later b ws.first) here.as_up

    module _ {x before : W} (x_is : x ≡ part_width k m t sp a w) (before_is : before ≡ k.sum_of m T part.width) where
      test_is : overflow k m rule before x (rest_width k m t p sp a vs.first vs.count first count) (part_size a w (word_at t (sp.offset + w))) ≡ overflow k m rule (k.sum_of m T part.width) (part_width k m t sp a (next up ws.first vs.count)) (rest_width k m t p sp a (later up ws.first) vs.count first count) (part_size a (next up ws.first vs.count) (word_at t (sp.offset + next up ws.first vs.count)))
      test_is = rw (before_is, x_is, w_is, l_is)

      -- it fits
      pub word_on : Sound t → Inside t sp a a.start.word (words_in a) → {part2 : SpanPart W} → false ≡ overflow k m rule before x (rest_width k m t p sp a vs.first vs.count first count) (part_size a w (word_at t (sp.offset + w))) →
          part2 ≡ record { stretch = part.stretch; width = k.sum_of m part.width x; blanks = cond (word_at t (sp.offset + w)).blank (part.blanks + 1) part.blanks; laid = part.laid + part_size a w (word_at t (sp.offset + w)); flagged = part.flagged } →
          AtWord k m t p rule T sp a up first count goal B L part2 vs
      word_on sound inside {part2} o part2_is =
          let laid_is : part2.laid ≡ part.laid + part_size a w (word_at t (sp.offset + w)) = ap (λ (q : SpanPart W). q.laid) part2_is in
          let blanks_is : part2.blanks ≡ cond (word_at t (sp.offset + w)).blank (part.blanks + 1) part.blanks = ap (λ (q : SpanPart W). q.blanks) part2_is in
          let width_is : part2.width ≡ k.sum_of m part.width x = ap (λ (q : SpanPart W). q.width) part2_is in
          let e = sym test_is ∙ sym o in
          let n_is = f.counts in
          let on : in_span k m t p rule sp a up first count T part2.width part2.blanks part2.laid vs.first vs.count ≡ in_span k m t p rule sp a up first count T part.width part.blanks part.laid ws.first ws.count =
          rw (n_is, e, width_is, blanks_is, laid_is, x_is, w_is, l_is) in
          let reached = word_reached f a here.reaches in
          record {
            as_up = f.as_up ∙ here.as_up;
            reaches = rest_reached f a here.reaches;
            goes = on ∙ here.goes;
            blanks = omega (arith, here.blanks, f.counts, blanks_is, tick_le (word_at t (sp.offset + w)).blank part.blanks);
            laid = omega (arith, here.laid, f.counts, laid_is, size_small t sp a sound inside w reached.0 reached.1);
            stretch_is = ap (λ (q : SpanPart W). q.stretch) part2_is ∙ here.stretch_is;
            unflagged = ap (λ (q : SpanPart W). q.flagged) part2_is ∙ here.unflagged;
          }

      -- it overflows
      pub word_cut : {q : SpanPart W} → true ≡ overflow k m rule before x (rest_width k m t p sp a vs.first vs.count first count) (part_size a w (word_at t (sp.offset + w))) →
          as_part q ≡ cut_part k m t p rule sp a up T part.width part.blanks part.laid w → as_part q ≡ goal
      word_cut {q} o q_is =
          let e = sym test_is ∙ sym o in
          let n_is = f.counts in
          let ended : in_span k m t p rule sp a up first count T part.width part.blanks part.laid ws.first ws.count ≡ cut_part k m t p rule sp a up T part.width part.blanks part.laid w =
          rw (n_is, e, w_is) in
          q_is ∙ sym ended ∙ here.goes
