-- One word more, or one span more, of what is added up
use Rattle.std.proofs.Common.{◌≡◌, ℕ, suc, ◌+◌, ◌-◌, ◌<◌, ap, ◌∙◌, arith}
use Rattle.measure.specs.declared.measure.Measure.{Ghosts}
use Rattle.paragraph.specs.Text.{Text, span_at}
use Rattle.paragraph.specs.declared.place.Position.{Position}
use Rattle.paragraph.specs.declared.place.Stretch.{Stretch}
use Rattle.paragraph.specs.declared.span.Span.{Span}
use Rattle.walk.specs.Parts.{words_in}
use Rattle.walk.specs.Widths.{ahead_of, part_width, words_width, spans_width}

module _ {S W : Type 0} (k : Ghosts S W) (m : S) (t : Text) where
  pub words_more : (sp : Span) (a : Stretch) (x y v : W) (w end : ℕ) → w < end → y ≡ part_width k m t sp a w → v ≡ k.sum_of m x y → words_width k m t sp a v (w + 1) (end - (w + 1)) ≡ words_width k m t sp a x w (end - w)
  words_more sp a x y v w end h p q =
      let n : end - w ≡ suc (end - (w + 1)) = omega arith in
      let e : v ≡ k.sum_of m x (part_width k m t sp a w) = cc in
      rw (n, e)

  pub spans_more : (p : Position) (x v : W) (sp : Span) (a : Stretch) (s end i n : ℕ) → s < end → sp ≡ span_at t s → a ≡ ahead_of t p s → i ≡ a.start.word → n ≡ words_in a → v ≡ words_width k m t sp a x i n → spans_width k m t p v (s + 1) (end - (s + 1)) ≡ spans_width k m t p x s (end - s)
  spans_more p x v sp a s end i c h sp_is a_is i_is c_is v_is =
      let n : end - s ≡ suc (end - (s + 1)) = omega arith in
      let e : v ≡ words_width k m t (span_at t s) (ahead_of t p s) x (ahead_of t p s).start.word (words_in (ahead_of t p s)) =
      v_is
      ∙ ap (λ (j : ℕ). words_width k m t sp a x j c) i_is
      ∙ ap (words_width k m t sp a x a.start.word) c_is
      ∙ ap (λ (b : Stretch). words_width k m t sp b x b.start.word (words_in b)) a_is
      ∙ ap (λ (b : Span). words_width k m t b (ahead_of t p s) x (ahead_of t p s).start.word (words_in (ahead_of t p s))) sp_is in
      rw (n, e)
