-- What is ahead of a position stands in the tables
use Rattle.std.proofs.Common.{◌≡◌, ℕ, ◌+◌, ◌<◌, ◌≤◌, Bool, true, false, cond, eqb, length, sym, refl, ap, ◌∙◌, subst, arith}
use Rattle.std.proofs.lemmas.Bool.{eqb-true}
use Rattle.std.proofs.lemmas.Bool.Decides.{nat_tests}
use Rattle.paragraph.specs.Reading.{ahead_in, between, edge, whole, exists, glyphs_of_word}
use Rattle.paragraph.specs.Text.{Text, Sound, congruent, span_at}
use Rattle.paragraph.specs.declared.place.Place.{Place}
use Rattle.paragraph.specs.declared.place.Position.{Position}
use Rattle.paragraph.specs.declared.place.Stretch.{Stretch}
use Rattle.paragraph.specs.declared.span.Span.{Span}
use Rattle.walk.specs.Inside.{Inside}
use Rattle.walk.specs.Parts.{words_in}
use Rattle.walk.specs.Widths.{ahead_of}
use Rattle.paragraph.proofs.Growth.{word_ends_within, span_ends_within}

-- a position that exists names a span, or stands at the end of a paragraph without any
pub span_named : (t : Text) (p : Position) → exists t p ≡ true → p.span ≤ length t.spans
span_named t p e = grind (arith, nat_tests)

-- of a span, the position's place exists in it
module _ (t : Text) (p : Position) (e : exists t p ≡ true) (h : p.span < length t.spans) where
  pub word_named : p.place.word ≤ (span_at t p.span).len
  word_named = grind (arith, nat_tests)

  pub glyph_named : p.place.glyph ≤ glyphs_of_word t (span_at t p.span) p.place.word
  glyph_named = grind (arith, nat_tests)

module _ (t : Text) (sound : Sound t) (s : ℕ) where
  whole_inside : Inside t (span_at t s) (whole (span_at t s)) 0 (words_in (whole (span_at t s)))
  whole_inside =
      record {
        there = omega (arith, span_ends_within t sound s);
        low_high = λ w l h. grind (arith, nat_tests);
        high_len = λ w l h. grind (arith, nat_tests);
        within = λ w l h. word_ends_within t sound ((span_at t s).offset + w);
      }

  module _ (c : Place) (word_in : c.word ≤ (span_at t s).len) (glyph_in : c.glyph ≤ glyphs_of_word t (span_at t s) c.word) where
    after_inside : Inside t (span_at t s) (between c (edge (span_at t s).len)) c.word (words_in (between c (edge (span_at t s).len)))
    after_inside =
        record {
          there = omega (arith, span_ends_within t sound s);
          low_high = λ w l h. grind (arith, nat_tests);
          high_len = λ w l h. grind (arith, nat_tests);
          within = λ w l h. word_ends_within t sound ((span_at t s).offset + w);
        }

    ends : words_in (between (edge 0) c) ≤ (span_at t s).len
    ends = grind (arith, nat_tests)

    before_inside : Inside t (span_at t s) (between (edge 0) c) 0 (words_in (between (edge 0) c))
    before_inside =
        record {
          there = omega (arith, ends, span_ends_within t sound s);
          low_high = λ w l h. grind (arith, nat_tests);
          high_len = λ w l h. grind (arith, nat_tests);
          within = λ w l h. word_ends_within t sound ((span_at t s).offset + w);
        }

module _ (t : Text) (p : Position) (s : ℕ) (sound : Sound t) (e : exists t p ≡ true) (h : s < length t.spans) where
  -- what is proved of all of the span and, if it is the position's, of its parts before and behind the place
  pub each_way : (P : Stretch → Type 0) → P (whole (span_at t s)) →
      ((c : Place) → c.word ≤ (span_at t s).len → c.glyph ≤ glyphs_of_word t (span_at t s) c.word → P (between c (edge (span_at t s).len)) × P (between (edge 0) c)) → P (ahead_of t p s)
  each_way P all part = by (eqb s p.span) refl (congruent t.direction (span_at t s).level)
    where
      by : (b : Bool) → eqb s p.span ≡ b → (d : Bool) → P (cond b (cond d (between p.place (edge (span_at t s).len)) (between (edge 0) p.place)) (whole (span_at t s)))
      by false q d = all
      by true q d =
          let o : s ≡ p.span = eqb-true s p.span q in
          let hp : p.span < length t.spans = omega arith in
          let both = part p.place (rw o (word_named t p e hp)) (rw o (glyph_named t p e hp)) in
          elim d as (λ v. P (cond v (between p.place (edge (span_at t s).len)) (between (edge 0) p.place))) [ true ↦ both.0 | false ↦ both.1 ]

  -- of what is ahead in the span s
  module _ (sp : Span) (sp_is : sp ≡ span_at t s) (a : Stretch) (a_is : a ≡ ahead_in t.direction p s sp) where
    pub stretch_is : a ≡ ahead_of t p s
    stretch_is = a_is ∙ ap (ahead_in t.direction p s) sp_is

    pub ahead_inside : (n : ℕ) → n ≡ words_in a → Inside t sp a a.start.word n
    ahead_inside n n_is =
        let all = each_way (λ b. Inside t (span_at t s) b b.start.word (words_in b)) (whole_inside t sound s) (λ c w g. (after_inside t sound s c w g, before_inside t sound s c w g)) in
        let own = subst (λ (b : Stretch). Inside t (span_at t s) b b.start.word (words_in b)) (sym stretch_is) all in
        subst (λ (b : Span). Inside t b a a.start.word n) (sym sp_is) (subst (λ (j : ℕ). Inside t (span_at t s) a a.start.word j) (sym n_is) own)
