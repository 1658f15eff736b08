-- A walk that takes a line: it shows a glyph if one is ahead, and on an exact measure it passes the width only by a single glyph
use Rattle.std.proofs.Common.{◌≡◌, ℕ, zero, suc, ◌+◌, ◌-◌, ◌^◌, ◌<◌, ◌≤◌, Bool, true, false, eqb, ltb, ◌⊎◌, List, length, sym, refl, ap, ◌∙◌, inl, inr, arith}
use mathlib.Core.Bool.{false≢true}
use Rattle.std.proofs.lemmas.Bool.{and_parts, cond_both, eqb-true, eqb-false, ltb-true, cases_Bool}
use Rattle.glyph.specs.declared.glyph.Glyph.{Glyph}
use Rattle.measure.specs.Exact.{Exact}
use Rattle.measure.specs.declared.measure.Measure.{Ghosts}
use Rattle.paragraph.specs.Reading.{held, ahead, ahead_from, exists}
use Rattle.paragraph.specs.Text.{Text, Sound, word_at, span_at}
use Rattle.paragraph.specs.declared.place.Position.{Position}
use Rattle.paragraph.specs.declared.place.Stretch.{Stretch}
use Rattle.paragraph.specs.declared.span.Span.{Span}
use Rattle.paragraph.specs.declared.word.Word.{Word}
use Rattle.walk.specs.Fit.{width_at, fits, cut}
use Rattle.walk.specs.Parts.{words_in, low, part_size, row_of, forward, goes_up, next, later}
use Rattle.walk.specs.Walk.{Part, Lay, taken, cut_part, with_part, part_of, nothing, lay}
use Rattle.walk.specs.Widths.{ahead_of, part_width}
use Rattle.walk.specs.declared.line.LayoutDirection.{LayoutDirection}
use Rattle.walk.specs.declared.line.Rule.{Rule}
use Rattle.walk.specs.declared.line.Rule.TheVariants.{Taking}
use Rattle.walk_laws.specs.Laws.{SomeTaken, TakingLaw, WalkLaw}
use Rattle.walk_laws.specs.Shown.{adds_up, shown}
use Rattle.walk_laws.proofs.Cuts.{Among, fits_among}
use Rattle.walk_laws.proofs.Flags.{Keeps, Within, taking_keeps, part_small, part_by, walk_by, flag_law}
use Rattle.walk_laws.proofs.Held.{length_met}
use Rattle.walk_laws.proofs.Laid.{going_fits, going_cut, line_more, width_law}
use Rattle.walk_laws.proofs.Numbers.{so_far}
use Rattle.walk_laws.proofs.Places.{PartOfSpan, ahead_part}
use Rattle.walk_laws.proofs.Runs.{in_span_by, walks_by}
use Rattle.walk_laws.proofs.Sums.{first_taken}
use Rattle.walk_laws.proofs.Walks.{walk_law}

-- of n + 1 places, a cut among those that are left behind the first took one at least, and just one if it is where the walk would go on
took_one : (up : Bool) (at n c : ℕ) → Among (later up at) n c → 0 < taken up at (suc n) c
took_one true at n c (i, j) = omega arith
took_one false at n c (i, j) = omega arith

took_just_one : (up : Bool) (at n c : ℕ) → c ≡ next up (later up at) n → taken up at (suc n) c ≡ 1
took_just_one true at n c e = omega arith
took_just_one false at n c e = omega arith

module _ {S W : Type 0} (k : Ghosts S W) (m : S) (width : W) where
  cut_some : (row : List Glyph) (up : Bool) (before : W) (laid at n : ℕ) → 0 < n → 0 < laid + taken up at n (cut k m (Taking width) row up before laid at n).0
  cut_some row up before laid at zero l = absurd (omega arith)
  cut_some row up before laid at (suc n) l =
      let g = k.sum_of m (k.nil_of m) (width_at k m row (next up at n)) in
      cond_both (eqb laid 0) (fits k m row up before width g (later up at) n) (next up at (suc n), k.nil_of m) (λ (got : ℕ × W). 0 < laid + taken up at (suc n) got.0)
      (λ _. omega (arith, took_one up at n _ (fits_among k m row up before width g (later up at) n)))
      (λ e. let z = eqb-false laid 0 e in omega arith)

  module _ (t : Text) (p : Position) where
    abbrev rule : Rule W
    rule = Taking width

    flagged_some : (way : LayoutDirection) → (lay k m t p rule way).flagged ≡ true → 0 < (lay k m t p rule way).laid
    flagged_some way =
        walks_by k m t p rule way (λ (l : Lay W) (_ _ : ℕ). l.flagged ≡ false) (λ (r : Lay W). r.flagged ≡ true → 0 < r.laid)
        (λ l at n _ e _. span_some (next (forward way) at n) (later (forward way) at) n l e)
        (λ l at n _ e. e)
        (λ l at f z. absurd (false≢true (sym f ∙ z)))
        (nothing k m t p rule) p.span (length t.spans - p.span) refl
      where
        span_some : (s first count : ℕ) (l : Lay W) → (part_of k m t p rule way l s first count).flagged ≡ true → 0 < (part_of k m t p rule way l s first count).laid
        span_some s first count l =
            let sp = span_at t s in
            let a = ahead_of t p s in
            let up = goes_up t.direction sp way in
            in_span_by k m t p rule sp a up first count l.width (λ (_ : W) (_ _ _ : ℕ). Unit {0}) (λ (q : Part W). q.flagged ≡ true → 0 < q.laid)
            (λ R blanks laid at n _ over _.
            let w = next up at n in
            let word = word_at t (sp.offset + w) in
            cut_some (row_of t.glyphs word) up (k.sum_of m l.width R) laid (low a w) (part_size a w word) (ltb-true 0 (part_size a w word) (and_parts (ltb 0 (part_size a w word)) (k.over_of m (k.sum_of m (k.sum_of m l.width R) (part_width k m t sp a w)) width) over).0))
            (λ _ _ _ _ _ _. tt)
            (λ _ _ _ _ _ z. absurd (false≢true z))
            (k.nil_of m) l.blanks l.laid a.start.word (words_in a) tt

    pub some_taken : Sound t → exists t p ≡ true → (way : LayoutDirection) → SomeTaken t p (lay k m t p rule way)
    some_taken sound here way some = by (cases_Bool (lay k m t p rule way).flagged)
      where
        law : WalkLaw t p way (lay k m t p rule way)
        law = walk_law k m t p rule sound here way

        by : ((lay k m t p rule way).flagged ≡ true) ⊎ ((lay k m t p rule way).flagged ≡ false) → 0 < (lay k m t p rule way).laid
        by (inl e) = flagged_some way e
        by (inr e) =
            omega (arith, law.counted, ap length law.parted, length_met way (shown t (lay k m t p rule way).ranges) law.leaves, ap length (law.all_shown e))

module _ {S W : Type 0} (k : Ghosts S W) (m : S) (number : W → ℕ) (glyph : Glyph → ℕ) (from : ℕ → W) (exact : Exact k m number glyph from) (t : Text) where
  cut_taken : (width : W) (word : Word) (up : Bool) (before : W) (laid at n : ℕ) → at + n ≤ word.len → number before + so_far glyph t (word.offset + (at + n)) < so_far glyph t (word.offset + at) + 2 ^ 32 → number before ≤ number width →
      let got = cut k m (Taking width) (row_of t.glyphs word) up before laid at n in (number before + number got.1 ≤ number width) ⊎ (laid + taken up at n got.0 ≡ 1)
  cut_taken width word up before laid at zero fit small fits = inl (omega (arith, exact.nilled))
  cut_taken width word up before laid at (suc n) fit small in_width =
      cond_both (eqb laid 0) (fits k m row up before width g (later up at) n) (next up at (suc n), k.nil_of m) (λ (got : ℕ × W). (number before + number got.1 ≤ number width) ⊎ (laid + taken up at (suc n) got.0 ≡ 1))
      (λ e. by (eqb-true laid 0 e) (first_taken k m number glyph from exact t word up before width at n fit small).1.fits_or_none)
      (λ _. inl (omega (arith, exact.nilled)))
    where
      row : List Glyph
      row = row_of t.glyphs word

      g : W
      g = k.sum_of m (k.nil_of m) (width_at k m row (next up at n))

      by : laid ≡ 0 → (number before + number (fits k m row up before width g (later up at) n).1 ≤ number width) ⊎ (((fits k m row up before width g (later up at) n).0 ≡ next up (later up at) n) × (number (fits k m row up before width g (later up at) n).1 ≡ number g)) → (number before + number (fits k m row up before width g (later up at) n).1 ≤ number width) ⊎ (laid + taken up at (suc n) (fits k m row up before width g (later up at) n).0 ≡ 1)
      by e (inl l) = inl l
      by e (inr (c, _)) = inr (omega (arith, e, took_just_one up at n (fits k m row up before width g (later up at) n).0 c))

  module _ (sound : Sound t) (p : Position) (here : exists t p ≡ true) (width : W) where
    abbrev takes : Rule W
    takes = Taking width

    keeps : Keeps k m number takes (number width) 0
    keeps = taking_keeps k m number glyph from exact width

    module _ (sp : Span) (a : Stretch) (part : PartOfSpan t sp a) (up : Bool) (T : W) (small : number T + adds_up glyph t (held t sp a) < 2 ^ 32) where
      part_taken : (R : W) (blanks laid at n : ℕ) → Within number glyph t sp a up T (number width) R at (suc n) → let q = cut_part k m t p takes sp a up T R blanks laid (next up at n) in (number T + number q.width ≤ number width) ⊎ (q.laid ≡ 1)
      part_taken R blanks laid at n (going, fits) = by (cut_taken width word up (k.sum_of m T R) laid (low a w) (part_size a w word) few.0 few.2 (omega (arith, few.1, fits)))
        where
          w : ℕ
          w = next up at n

          word : Word
          word = word_at t (sp.offset + w)

          got : ℕ × W
          got = cut k m takes (row_of t.glyphs word) up (k.sum_of m T R) laid (low a w) (part_size a w word)

          few : (low a w + part_size a w word ≤ word.len) × (number (k.sum_of m T R) ≡ number T + number R) × (number (k.sum_of m T R) + so_far glyph t (word.offset + (low a w + part_size a w word)) < so_far glyph t (word.offset + low a w) + 2 ^ 32)
          few = going_fits k m number glyph from exact t sound p takes sp a part up T small R at n going

          by : (number (k.sum_of m T R) + number got.1 ≤ number width) ⊎ (laid + taken up (low a w) (part_size a w word) got.0 ≡ 1) → (number T + number (k.sum_of m R got.1) ≤ number width) ⊎ (laid + taken up (low a w) (part_size a w word) got.0 ≡ 1)
          by (inl l) = inl (omega (arith, l, few.1, (going_cut k m number glyph from exact t sound p takes sp a part up T small R blanks laid at n going).0))
          by (inr e) = inr e

    module _ (way : LayoutDirection) where
      line_taken : (l : Lay W) (at n : ℕ) → number l.width + adds_up glyph t (ahead_from t p at (suc n)) + 0 < 2 ^ 32 → number l.width ≤ number width →
          let s = next (forward way) at n in
          let r = with_part k m t p takes l s (part_of k m t p takes way l s (later (forward way) at) n) in
          (number r.width ≤ number width) ⊎ (r.laid ≡ 1)
      line_taken l at n small fits =
          by (part_by k m number glyph from exact t sound p here takes (number width) 0 keeps way l at n small fits (λ (q : Part W). (number l.width + number q.width ≤ number width) ⊎ (q.laid ≡ 1))
          (λ R blanks laid w c so _. part_taken (span_at t s) (ahead_of t p s) (ahead_part t p here s) (goes_up t.direction (span_at t s) way) l.width few R blanks laid w c so)
          (λ R _ _ w so. inl so.1))
        where
          s : ℕ
          s = next (forward way) at n

          q : Part W
          q = part_of k m t p takes way l s (later (forward way) at) n

          few : number l.width + adds_up glyph t (held t (span_at t s) (ahead_of t p s)) < 2 ^ 32
          few = part_small k m number glyph from exact t sound p here takes (number width) 0 keeps way l at n small fits

          by : (number l.width + number q.width ≤ number width) ⊎ (q.laid ≡ 1) → (number (with_part k m t p takes l s q).width ≤ number width) ⊎ (q.laid ≡ 1)
          by (inl i) = inl (omega (arith, i, line_more k m number glyph from exact t sound p takes here way l s (later (forward way) at) n few))
          by (inr e) = inr e

      pub taking_law : adds_up glyph t (ahead t p) < 2 ^ 32 → TakingLaw number glyph t p width (lay k m t p takes way)
      taking_law small = record {
        flagged_when = flag_law k m number glyph from exact t sound p here takes (number width) 0 keeps way (omega arith);
        width_is = width_law k m number glyph from exact t sound p takes here way small;
        width_most =
            walk_by k m number glyph from exact t sound p here takes (number width) 0 keeps way (omega arith) (λ (_ : Lay W). Unit {0}) (λ (r : Lay W). (number r.width ≤ number width) ⊎ (r.laid ≡ 1))
            (λ _ _ _ _ _ _ _. tt)
            (λ l at n few fits _ _ _. line_taken l at n few fits)
            (λ l _ _ fits _. inl fits)
            tt;
      }
