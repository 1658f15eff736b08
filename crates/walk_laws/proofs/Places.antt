-- Places of a span and their order, and the word offsets that they go by
use Rattle.std.proofs.Common.{◌≡◌, ℕ, ◌+◌, ◌<◌, ◌≤◌, Bool, true, false, cond, ◌&&◌, eqb, ltb, leb, ◌⊎◌, length, sym, refl, ap, ◌∙◌, subst, inl, inr, arith}
use Rattle.std.proofs.lemmas.Bool.{and_parts, and_from, cond-true, cond-false, cond_both, eqb-true, ltb-true, lt-ltb, le-ltb, leb-true, le-leb, cases_lt}
use Rattle.std.proofs.lemmas.Bool.Decides.{nat_tests}
use Rattle.paragraph.specs.Reading.{boundary, glyphs_of_word, place_in, edge, whole, between, exists}
use Rattle.paragraph.specs.Text.{Text, Sound, word_at, span_at, congruent}
use Rattle.paragraph.specs.declared.place.Place.{Place}
use Rattle.paragraph.specs.declared.place.Position.{Position}
use Rattle.paragraph.specs.declared.place.Stretch.{Stretch}
use Rattle.paragraph.specs.declared.span.Span.{Span}
use Rattle.walk.specs.Walk.{same_place}
use Rattle.walk.specs.Widths.{ahead_of}
use Rattle.walk_laws.specs.Laws.{PlaceBefore}

-- where the word w of a span begins, and how many glyphs it has
abbrev pub first_of : Text → Span → ℕ → ℕ
first_of t sp w = (word_at t (sp.offset + w)).offset

abbrev pub size_of : Text → Span → ℕ → ℕ
size_of t sp w = (word_at t (sp.offset + w)).len

pub first_next : (t : Text) (sp : Span) → Sound t → (w : ℕ) → first_of t sp (w + 1) ≡ first_of t sp w + size_of t sp w
first_next t sp sound w =
    let e : sp.offset + (w + 1) ≡ sp.offset + w + 1 = omega arith in
    ap (λ (i : ℕ). (word_at t i).offset) e ∙ sound.words_next (sp.offset + w)

-- a place exists, by numbers
pub record Inside (t : Text) (sp : Span) (c : Place) : Type 0 where
  pub word_most : c.word ≤ sp.len
  pub glyph_most : c.word < sp.len → c.glyph ≤ size_of t sp c.word
  pub at_end : sp.len ≤ c.word → c.glyph ≡ 0

pub inside : (t : Text) (sp : Span) (c : Place) → place_in t sp c ≡ true → Inside t sp c
inside t sp c h =
    let parts = and_parts (leb c.word sp.len) (leb c.glyph (glyphs_of_word t sp c.word)) h in
    let most = leb-true c.glyph (glyphs_of_word t sp c.word) parts.1 in
    record {
      word_most = leb-true c.word sp.len parts.0;
      glyph_most = λ l. omega (arith, cond-true (ltb c.word sp.len) (size_of t sp c.word) 0 (lt-ltb c.word sp.len l));
      at_end = λ l. omega (arith, cond-false (ltb c.word sp.len) (size_of t sp c.word) 0 (le-ltb c.word sp.len l));
    }

pub place_from_inside : (t : Text) (sp : Span) (c : Place) → Inside t sp c → place_in t sp c ≡ true
place_from_inside t sp c h = and_from (leb c.word sp.len) (leb c.glyph (glyphs_of_word t sp c.word)) (le-leb c.word sp.len h.word_most) (le-leb c.glyph (glyphs_of_word t sp c.word) (by (cases_lt c.word sp.len)))
  where
    by : (c.word < sp.len) ⊎ (sp.len ≤ c.word) → c.glyph ≤ glyphs_of_word t sp c.word
    by (inl l) = omega (arith, cond-true (ltb c.word sp.len) (size_of t sp c.word) 0 (lt-ltb c.word sp.len l), h.glyph_most l)
    by (inr l) = omega (arith, h.at_end l)

-- a place stands before another, or is the same
abbrev pub NotAfter : Place → Place → Type 0
NotAfter a b = (a.word < b.word) ⊎ ((a.word ≡ b.word) × (a.glyph ≤ b.glyph))

pub before_unless_same : (a b : Place) → same_place a b ≡ false → NotAfter a b → PlaceBefore a b
before_unless_same a b h (inl l) = inl l
before_unless_same a b h (inr (e, l)) = inr (e, grind (arith, nat_tests))

pub same_boundary : (t : Text) (sp : Span) (a b : Place) → same_place a b ≡ true → boundary t sp a ≡ boundary t sp b
same_boundary t sp a b h =
    let w : a.word ≡ b.word = grind (arith, nat_tests) in
    let g : a.glyph ≡ b.glyph = grind (arith, nat_tests) in
    rw (w, g)

-- a part of a span: its two places exist, the first not after the second
pub record PartOfSpan (t : Text) (sp : Span) (a : Stretch) : Type 0 where
  pub start_in : Inside t sp a.start
  pub end_in : Inside t sp a.end
  pub in_order : NotAfter a.start a.end

edge_in : (t : Text) (sp : Span) (w : ℕ) → w ≤ sp.len → Inside t sp (edge w)
edge_in t sp w l = record { word_most = l; glyph_most = λ _. omega arith; at_end = λ _. refl }

from_first : (c : Place) → NotAfter (edge 0) c
from_first c = by (cases_lt 0 c.word)
  where
    by : (0 < c.word) ⊎ (c.word ≤ 0) → NotAfter (edge 0) c
    by (inl l) = inl l
    by (inr l) = inr (omega arith, omega arith)

to_last : (t : Text) (sp : Span) (c : Place) → Inside t sp c → NotAfter c (edge sp.len)
to_last t sp c h = by (cases_lt c.word sp.len)
  where
    by : (c.word < sp.len) ⊎ (sp.len ≤ c.word) → NotAfter c (edge sp.len)
    by (inl l) = inl l
    by (inr l) = inr (omega (arith, h.word_most), omega (arith, h.at_end l))

-- a position that exists stands in its span, also where the paragraph has no span
pub record Existing (t : Text) (p : Position) : Type 0 where
  pub span_most : p.span ≤ length t.spans
  pub place_inside : Inside t (span_at t p.span) p.place

pub existing : (t : Text) (p : Position) → exists t p ≡ true → Existing t p
existing t p h = by (cases_lt 0 (length t.spans))
  where
    own : Bool
    own = ltb p.span (length t.spans) && place_in t (span_at t p.span) p.place

    none : Bool
    none = eqb p.span 0 && (eqb p.place.word 0 && eqb p.place.glyph 0)

    by : (0 < length t.spans) ⊎ (length t.spans ≤ 0) → Existing t p
    by (inl l) =
        let here : own ≡ true = sym (cond-true (ltb 0 (length t.spans)) own none (lt-ltb 0 (length t.spans) l)) ∙ h in
        let parts = and_parts (ltb p.span (length t.spans)) (place_in t (span_at t p.span) p.place) here in
        record { span_most = omega (arith, ltb-true p.span (length t.spans) parts.0); place_inside = inside t (span_at t p.span) p.place parts.1 }
    by (inr l) =
        let here : none ≡ true = sym (cond-false (ltb 0 (length t.spans)) own none (le-ltb 0 (length t.spans) l)) ∙ h in
        let parts = and_parts (eqb p.span 0) (eqb p.place.word 0 && eqb p.place.glyph 0) here in
        let zeros = and_parts (eqb p.place.word 0) (eqb p.place.glyph 0) parts.1 in
        let w = eqb-true p.place.word 0 zeros.0 in
        let g = eqb-true p.place.glyph 0 zeros.1 in
        record { span_most = omega (arith, eqb-true p.span 0 parts.0); place_inside = record { word_most = omega arith; glyph_most = λ _. omega arith; at_end = λ _. g } }

-- so what is ahead in any span is a part of it
pub ahead_part : (t : Text) (p : Position) → exists t p ≡ true → (s : ℕ) → PartOfSpan t (span_at t s) (ahead_of t p s)
ahead_part t p h s =
    cond_both (eqb s p.span) (cond (congruent t.direction sp.level) (between p.place (edge sp.len)) (between (edge 0) p.place)) (whole sp) (PartOfSpan t sp)
    (λ e. own (subst (λ (i : ℕ). Inside t (span_at t i) p.place) (sym (eqb-true s p.span e)) (existing t p h).place_inside))
    (λ _. record { start_in = first; end_in = last; in_order = from_first (edge sp.len) })
  where
    sp : Span
    sp = span_at t s

    first : Inside t sp (edge 0)
    first = edge_in t sp 0 (omega arith)

    last : Inside t sp (edge sp.len)
    last = edge_in t sp sp.len (omega arith)

    own : Inside t sp p.place → PartOfSpan t sp (cond (congruent t.direction sp.level) (between p.place (edge sp.len)) (between (edge 0) p.place))
    own here =
        cond_both (congruent t.direction sp.level) (between p.place (edge sp.len)) (between (edge 0) p.place) (PartOfSpan t sp)
        (λ _. record { start_in = here; end_in = last; in_order = to_last t sp p.place here })
        (λ _. record { start_in = first; end_in = here; in_order = from_first p.place })
