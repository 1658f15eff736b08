-- What a walk lays stays in the tables: its counts are small, and the last range of a forward walk ends at a position
use Rattle.std.proofs.Common.{◌≡◌, ℕ, zero, suc, ◌+◌, ◌-◌, ◌*◌, ◌<◌, ◌≤◌, Bool, true, false, cond, eqb, ltb, leb, List, [], ◌∷◌, ◌++◌, length, Some, sym, refl, ap, ◌∙◌, subst, arith}
use Rattle.std.proofs.lemmas.List.{length_push}
use Rattle.std.proofs.lemmas.Bool.{cond_both, cond-true, and_from, le-leb, lt-ltb}
use Rattle.std.proofs.lemmas.Bool.Decides.{nat_tests}
use Rattle.measure.specs.declared.measure.Measure.{Ghosts}
use Rattle.paragraph.specs.Reading.{between, edge, whole, exists, place_in, glyphs_of_word}
use Rattle.paragraph.specs.Text.{Text, Sound, congruent, span_at, word_at}
use Rattle.paragraph.specs.declared.place.Place.{Place}
use Rattle.paragraph.specs.declared.place.Position.{Position}
use Rattle.paragraph.specs.declared.place.Stretch.{Stretch}
use Rattle.paragraph.specs.declared.span.Span.{Span}
use Rattle.walk.proofs.Aheads.{span_named, each_way, ahead_inside}
use Rattle.walk.proofs.Fits.{cut_in, taken_in}
use Rattle.walk.proofs.Orders.{next_in, later_in, inside_next, inside_later}
use Rattle.paragraph.proofs.Growth.{span_ends_within}
use Rattle.walk.specs.Fit.{cut}
use Rattle.walk.specs.Inside.{Inside}
use Rattle.walk.specs.Parts.{words_in, low, part_size, row_of, forward, goes_up, next, later}
use Rattle.walk.specs.Walk.{Part, Lay, cut_to, in_span, with_part, part_of, walks, nothing, lay, kept, range_of, same_place}
use Rattle.walk.specs.Widths.{ahead_of, part_width, rest_width, overflow}
use Rattle.walk.specs.declared.line.LayoutDirection.{LayoutDirection}
use Rattle.walk.specs.declared.line.LayoutDirection.TheVariants.{Forward}
use Rattle.walk.specs.declared.line.Rule.{Rule}
use Rattle.walk.specs.declared.line.VlRange.{VlRange}
use Rattle.layout.specs.Ellipsis.{last_of}
use Rattle.layout.specs.Lines.{ends_at}
use Rattle.layout.proofs.Ends.{last_push}

-- where a stretch ends for a walk up the table or down
end_of : Bool → Stretch → Place
end_of up a = cond up a.end a.start

cut_ends : (up : Bool) (a : Stretch) (c : Place) → end_of up (cut_to up a c) ≡ c
unfolding end_of
cut_ends true a c = refl
cut_ends false a c = refl

up_is : (c : Bool) → cond c true false ≡ c
up_is true = refl
up_is false = refl

-- the last of some ranges ends at a position, and there are no more ranges than spans up to there
abbrev pub Ends : Text → List VlRange → Type 0
Ends t rs = (r : VlRange) → last_of rs ≡ Some r → (exists t (ends_at t r.span r) ≡ true) × (length rs ≤ (ends_at t r.span r).span + 1)

none_ends : (t : Text) → Ends t []
none_ends t r e = absurd cc

kept_ends : (t : Text) (rs : List VlRange) (s : ℕ) (a : Stretch) → s < length t.spans → place_in t (span_at t s) (end_of (congruent t.direction (span_at t s).level) a) ≡ true → length rs ≤ s → Ends t rs → Ends t (kept rs (range_of t s a)) × (length (kept rs (range_of t s a)) ≤ s + 1)
unfolding end_of
kept_ends t rs s a h there few ends =
    let r = range_of t s a in
    let n = length t.spans in
    let place = cond (congruent t.direction (span_at t s).level) a.end a.start in
    let stands : exists t (record { span = s; place = place }) ≡ true = cond-true (ltb 0 n) _ _ (lt-ltb 0 n (omega arith)) ∙ and_from (ltb s n) (place_in t (span_at t s) place) (lt-ltb s n h) there in
    let long = length_push rs r in
    let last = last_push rs r in
    cond_both (same_place a.start a.end) rs (rs ++ r ∷ []) (λ (ys : List VlRange). Ends t ys × (length ys ≤ s + 1))
    (λ _. (ends, omega arith))
    (λ _. (
      (λ r' e.
          let same : r ≡ r' = cc in
          subst (λ (y : VlRange). (exists t (ends_at t y.span y) ≡ true) × (length (rs ++ r ∷ []) ≤ (ends_at t y.span y).span + 1)) same (stands, omega (arith, long))),
      omega (arith, long),
    ))

module _ {S W : Type 0} (k : Ghosts S W) (m : S) (t : Text) (p : Position) (rule : Rule W) (sound : Sound t) where
  module _ (sp : Span) (a : Stretch) (up : Bool) (first count : ℕ) (T : W) where
    size_small : (w : ℕ) → Inside t sp a w 1 → part_size a w (word_at t (sp.offset + w)) ≤ 16384
    size_small w i = omega (arith, i.high_len w (omega arith) (omega arith), i.within w (omega arith) (omega arith), sound.few_glyphs)

    Small : ℕ → ℕ → ℕ → Part W → Type 0
    Small blanks laid n q = (q.blanks ≤ blanks + n) × (q.laid ≤ laid + 16384 * n)

    in_span_small : (R : W) (blanks laid at n : ℕ) → Inside t sp a at n → Small blanks laid n (in_span k m t p rule sp a up first count T R blanks laid at n)
    unfolding Small
    in_span_small R blanks laid at zero i = (omega arith, omega arith)
    in_span_small R blanks laid at (suc n) i =
        let w = next up at n in
        let word = word_at t (sp.offset + w) in
        let small : part_size a w word ≤ 16384 = size_small w (inside_next t sp a at (suc n) i up n refl w refl) in
        let more = cond word.blank (blanks + 1) blanks in
        let more_is : more ≤ blanks + 1 = cond_both word.blank (blanks + 1) blanks (λ b. b ≤ blanks + 1) (λ _. omega arith) (λ _. omega arith) in
        let on = in_span_small (k.sum_of m R (part_width k m t sp a w)) more (laid + part_size a w word) (later up at) n (inside_later t sp a at (suc n) i up n refl (later up at) refl) in
        cond_both (overflow k m rule (k.sum_of m T R) (part_width k m t sp a w) (rest_width k m t p sp a (later up at) n first count) (part_size a w word)) _ _ (Small blanks laid (suc n))
        (λ _. (omega arith, omega (arith, taken_in k m (row_of t.glyphs word) up (k.sum_of m T R) rule laid (low a w) (part_size a w word) _ refl)))
        (λ _. (omega (arith, on.0), omega (arith, on.1)))

    in_span_ends : (R : W) (blanks laid at n : ℕ) → Inside t sp a at n → at + n ≤ sp.len → place_in t sp (end_of up a) ≡ true → place_in t sp (end_of up (in_span k m t p rule sp a up first count T R blanks laid at n).stretch) ≡ true
    in_span_ends R blanks laid at zero i h e = e
    in_span_ends R blanks laid at (suc n) i h e =
        let w = next up at n in
        let word = word_at t (sp.offset + w) in
        let i' = inside_next t sp a at (suc n) i up n refl w refl in
        let w_in : w < sp.len = omega (arith, (next_in up at n).1) in
        let len_is : glyphs_of_word t sp w ≡ word.len = cond-true (ltb w sp.len) word.len 0 (lt-ltb w sp.len w_in) in
        let c = (cut k m rule (row_of t.glyphs word) up (k.sum_of m T R) laid (low a w) (part_size a w word)).0 in
        let c_in : c ≤ glyphs_of_word t sp w = omega (arith, len_is, (cut_in k m (row_of t.glyphs word) up (k.sum_of m T R) rule laid (low a w) (part_size a w word)).1, i'.low_high w (omega arith) (omega arith), i'.high_len w (omega arith) (omega arith)) in
        let there : place_in t sp (record { word = w; glyph = c }) ≡ true = and_from (leb w sp.len) (leb c (glyphs_of_word t sp w)) (le-leb w sp.len (omega arith)) (le-leb c (glyphs_of_word t sp w) c_in) in
        cond_both (overflow k m rule (k.sum_of m T R) (part_width k m t sp a w) (rest_width k m t p sp a (later up at) n first count) (part_size a w word)) _ _ (λ (q : Part W). place_in t sp (end_of up q.stretch) ≡ true)
        (λ _. ap (place_in t sp) (cut_ends up a (record { word = w; glyph = c })) ∙ there)
        (λ _. in_span_ends (k.sum_of m R (part_width k m t sp a w)) (cond word.blank (blanks + 1) blanks) (laid + part_size a w word) (later up at) n (inside_later t sp a at (suc n) i up n refl (later up at) refl) (omega (arith, (later_in up at).1)) e)

  module _ (stands : exists t p ≡ true) where
    module _ (s : ℕ) (h : s < length t.spans) where
      ahead_words : (ahead_of t p s).start.word + words_in (ahead_of t p s) ≤ (span_at t s).len
      ahead_words =
          each_way t p s sound stands h (λ b. b.start.word + words_in b ≤ (span_at t s).len) (omega arith)
          (λ c w g. (omega arith, grind (arith, nat_tests)))

      inside : Inside t (span_at t s) (ahead_of t p s) (ahead_of t p s).start.word (words_in (ahead_of t p s))
      inside = ahead_inside t p s sound stands h (span_at t s) refl (ahead_of t p s) refl (words_in (ahead_of t p s)) refl

      -- what is ahead ends at the span's closing edge
      ahead_ends : place_in t (span_at t s) (end_of (congruent t.direction (span_at t s).level) (ahead_of t p s)) ≡ true
      unfolding end_of
      ahead_ends = by (eqb s p.span) (congruent t.direction (span_at t s).level)
        where
          there : (w : ℕ) → w ≤ (span_at t s).len → place_in t (span_at t s) (edge w) ≡ true
          there w l = and_from (leb w (span_at t s).len) (leb 0 (glyphs_of_word t (span_at t s) w)) (le-leb w (span_at t s).len l) (le-leb 0 (glyphs_of_word t (span_at t s) w) (omega arith))

          by : (b d : Bool) → place_in t (span_at t s) (end_of d (cond b (cond d (between p.place (edge (span_at t s).len)) (between (edge 0) p.place)) (whole (span_at t s)))) ≡ true
          by true true = there (span_at t s).len (omega arith)
          by true false = there 0 (omega arith)
          by false true = there (span_at t s).len (omega arith)
          by false false = there 0 (omega arith)

      part_small : (way : LayoutDirection) (l : Lay W) (first count : ℕ) → ((part_of k m t p rule way l s first count).blanks ≤ l.blanks + 4096) × ((part_of k m t p rule way l s first count).laid ≤ l.laid + 67108864)
      unfolding Small
      part_small way l first count =
          let a = ahead_of t p s in
          let n_small : words_in a ≤ 4096 = omega (arith, ahead_words, span_ends_within t sound s, sound.few_words) in
          let both = in_span_small (span_at t s) a (goes_up t.direction (span_at t s) way) first count l.width (k.nil_of m) l.blanks l.laid a.start.word (words_in a) inside in
          (omega (arith, both.0), omega (arith, both.1))

      part_ends : (l : Lay W) (first count : ℕ) → place_in t (span_at t s) (end_of (congruent t.direction (span_at t s).level) (part_of k m t p rule Forward l s first count).stretch) ≡ true
      part_ends l first count =
          let a = ahead_of t p s in
          let c = congruent t.direction (span_at t s).level in
          let up = goes_up t.direction (span_at t s) Forward in
          let e : up ≡ c = up_is c in
          let own = in_span_ends (span_at t s) a up first count l.width (k.nil_of m) l.blanks l.laid a.start.word (words_in a) inside ahead_words (subst (λ (b : Bool). place_in t (span_at t s) (end_of b a) ≡ true) (sym e) ahead_ends) in
          subst (λ (b : Bool). place_in t (span_at t s) (end_of b (part_of k m t p rule Forward l s first count).stretch) ≡ true) e own

    walks_small : (way : LayoutDirection) (l : Lay W) (at n : ℕ) → at + n ≤ length t.spans → ((walks k m t p rule way l at n).blanks ≤ l.blanks + 4096 * n) × ((walks k m t p rule way l at n).laid ≤ l.laid + 67108864 * n)
    walks_small way l at zero h = (omega arith, omega arith)
    walks_small way l at (suc n) h =
        let s = next (forward way) at n in
        let q = part_of k m t p rule way l s (later (forward way) at) n in
        let here = part_small s (omega (arith, (next_in (forward way) at n).1)) way l (later (forward way) at) n in
        let on = walks_small way (with_part k m t p rule l s q) (later (forward way) at) n (omega (arith, (later_in (forward way) at).1)) in
        cond_both q.flagged _ _ (λ (x : Lay W). (x.blanks ≤ l.blanks + 4096 * suc n) × (x.laid ≤ l.laid + 67108864 * suc n))
        (λ _. (omega (arith, here.0), omega (arith, here.1)))
        (λ _. (omega (arith, here.0, on.0), omega (arith, here.1, on.1)))

    pub lay_small : (way : LayoutDirection) → ((lay k m t p rule way).blanks ≤ 1048576) × ((lay k m t p rule way).laid ≤ 17179869184)
    lay_small way =
        let both = walks_small way (nothing k m t p rule) p.span (length t.spans - p.span) (omega (arith, span_named t p stands)) in
        (omega (arith, both.0, sound.few_spans), omega (arith, both.1, sound.few_spans))

    walks_ends : (l : Lay W) (at n : ℕ) → at + n ≤ length t.spans → length l.ranges ≤ at → Ends t l.ranges → Ends t (walks k m t p rule Forward l at n).ranges
    walks_ends l at zero h few ends = ends
    walks_ends l at (suc n) h few ends =
        let q = part_of k m t p rule Forward l at (at + 1) n in
        let here = kept_ends t l.ranges at q.stretch (omega arith) (part_ends at (omega arith) l (at + 1) n) few ends in
        cond_both q.flagged (with_part k m t p rule l at q) (walks k m t p rule Forward (with_part k m t p rule l at q) (at + 1) n) (λ (x : Lay W). Ends t x.ranges)
        (λ _. here.0)
        (λ _. walks_ends (with_part k m t p rule l at q) (at + 1) n (omega arith) here.1 here.0)

    pub lay_ends : Ends t (lay k m t p rule Forward).ranges
    lay_ends = walks_ends (nothing k m t p rule) p.span (length t.spans - p.span) (omega (arith, span_named t p stands)) (omega arith) (none_ends t)
