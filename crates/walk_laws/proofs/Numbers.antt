-- On an exact measure, widths of glyphs, words and spans are sums over the table of glyphs
use Rattle.std.proofs.Common.{◌≡◌, ℕ, zero, suc, ◌+◌, ◌-◌, ◌^◌, ◌<◌, ◌≤◌, true, ◌⊎◌, List, [], ◌∷◌, map, length, get_or, take, drop, fold, sum_by, sum, sym, ap, ◌∙◌, inl, inr, arith}
use Rattle.std.proofs.lemmas.List.{drop_more, drop_all, take-map, drop-map, get_or-take, get_or-drop, get_or_past}
use Rattle.std.proofs.lemmas.List.Sums.{sum_by-cons, sum_by-append, sum-map}
use Rattle.std.proofs.lemmas.Bool.{cases_lt}
use Rattle.glyph.specs.declared.glyph.Glyph.{Glyph}
use Rattle.measure.specs.Exact.{Exact}
use Rattle.measure.specs.declared.measure.Measure.{Ghosts}
use Rattle.paragraph.specs.Reading.{boundary, held, ahead_from, exists}
use Rattle.paragraph.specs.Text.{Text, Sound, span_at, congruent}
use Rattle.paragraph.specs.declared.place.Position.{Position}
use Rattle.paragraph.specs.declared.place.Stretch.{Stretch}
use Rattle.paragraph.specs.declared.span.Span.{Span}
use Rattle.paragraph.specs.declared.word.Word.{Word}
use Rattle.walk.specs.Fit.{width_at}
use Rattle.walk.specs.Parts.{words_in, low, high, glyphs_between, row_of}
use Rattle.walk.specs.Widths.{ahead_of, part_width, words_width, spans_width}
use Rattle.walk_laws.specs.Shown.{adds_up}
use Rattle.walk_laws.proofs.Intervals.{below, sum_upto, below_rises}
use Rattle.walk_laws.proofs.Joins.{join, WordPart, word_part, joins_first, joins_last, join_rises, ends_in_order}
use Rattle.walk_laws.proofs.Places.{first_of, size_of, PartOfSpan, ahead_part}

-- a list's sum between two places
abbrev nth : List ℕ → ℕ → ℕ
nth xs i = get_or xs i 0

below_past : (xs : List ℕ) (i n : ℕ) → length xs ≤ i → below (nth xs) (i + n) ≡ below (nth xs) i
below_past xs i zero h = ap (below (nth xs)) (omega arith)
below_past xs i (suc n) h =
    let one : i + suc n ≡ suc (i + n) = omega arith in
    let e : below (nth xs) (i + suc n) ≡ below (nth xs) (i + n) + nth xs (i + n) = ap (below (nth xs)) one in
    omega (arith, below_past xs i n h, get_or_past xs (i + n) 0 (omega arith))

pub sum_between : (xs : List ℕ) (i n : ℕ) → below (nth xs) i + sum (take n (drop i xs)) ≡ below (nth xs) (i + n)
sum_between xs i zero = let e : below (nth xs) i ≡ below (nth xs) (i + 0) = ap (below (nth xs)) (omega arith) in omega arith
sum_between xs i (suc n) = by (cases_lt i (length xs)) (sum_between xs (i + 1) n)
  where
    by : (i < length xs) ⊎ (length xs ≤ i) → below (nth xs) (i + 1) + sum (take n (drop (i + 1) xs)) ≡ below (nth xs) (i + 1 + n) → below (nth xs) i + sum (take (suc n) (drop i xs)) ≡ below (nth xs) (i + suc n)
    by (inl l) ih =
        let one : i + 1 ≡ suc i = omega arith in
        let e : below (nth xs) (i + 1) ≡ below (nth xs) i + nth xs i = ap (below (nth xs)) one in
        let f : below (nth xs) (i + 1 + n) ≡ below (nth xs) (i + suc n) = ap (below (nth xs)) (omega arith) in
        let g : sum (take (suc n) (drop i xs)) ≡ nth xs i + sum (take n (drop (i + 1) xs)) = ap (λ (l : List ℕ). sum (take (suc n) l)) (drop_more xs i 0 l) ∙ sum_by-cons (λ x. x) (nth xs i) (take n (drop (i + 1) xs)) in
        omega arith
    by (inr l) ih =
        let g : sum (take (suc n) (drop i xs)) ≡ 0 = ap (λ (l : List ℕ). sum (take (suc n) l)) (drop_all i xs l) in
        omega (arith, below_past xs i (suc n) l)

module _ (glyph : Glyph → ℕ) (gs : List Glyph) where
  -- the number of the glyph i of a table
  abbrev pub worth : ℕ → ℕ
  worth i = get_or (map glyph gs) i 0

  map_between : (i n : ℕ) → map glyph (take n (drop i gs)) ≡ take n (drop i (map glyph gs))
  map_between i n = sym (take-map glyph n (drop i gs)) ∙ ap (take n) (sym (drop-map glyph i gs))

  sum_glyphs : (from to : ℕ) → from ≤ to → below worth from + sum_by glyph (glyphs_between gs from to) ≡ below worth to
  sum_glyphs from to l =
      let e : below worth (from + (to - from)) ≡ below worth to = ap (below worth) (omega arith) in
      let f : sum_by glyph (glyphs_between gs from to) ≡ sum (take (to - from) (drop from (map glyph gs))) = sym (sum-map glyph (glyphs_between gs from to)) ∙ ap sum (map_between from (to - from)) in
      omega (arith, sum_between (map glyph gs) from (to - from))

  worth_in_row : (word : Word) (i : ℕ) → i < word.len → get_or (map glyph (row_of gs word)) i 0 ≡ worth (word.offset + i)
  worth_in_row word i l =
      let n = word.offset + word.len - word.offset in
      let m : i < n = omega arith in
      ap (λ (xs : List ℕ). get_or xs i 0) (map_between word.offset n) ∙ get_or-take n (drop word.offset (map glyph gs)) i 0 m ∙ get_or-drop word.offset (map glyph gs) i 0

-- what all the glyphs of a text below a boundary add up to
abbrev pub so_far : (Glyph → ℕ) → Text → ℕ → ℕ
so_far glyph t = below (worth glyph t.glyphs)

module _ {S W : Type 0} (k : Ghosts S W) (m : S) (number : W → ℕ) (glyph : Glyph → ℕ) (from : ℕ → W) (exact : Exact k m number glyph from) where
  pub row_number : (w : W) (gs : List Glyph) → number w + sum_by glyph gs < 2 ^ 32 → number (fold (λ (v : W) (g : Glyph). k.sum_of m v (k.width_of m g)) w gs) ≡ number w + sum_by glyph gs
  row_number w [] h = omega arith
  row_number w (g ∷ gs) h =
      let more = sum_by-cons glyph g gs in
      let one = exact.meant g in
      let both : number (k.sum_of m w (k.width_of m g)) ≡ number w + glyph g = exact.sums w (k.width_of m g) (omega arith) ∙ omega arith in
      row_number (k.sum_of m w (k.width_of m g)) gs (omega arith) ∙ omega arith

  number_at : (row : List Glyph) (i : ℕ) → number (width_at k m row i) ≡ get_or (map glyph row) i 0
  number_at [] i = exact.nilled
  number_at (g ∷ row) zero = exact.meant g
  number_at (g ∷ row) (suc i) = number_at row i

  module _ (t : Text) where
    -- one glyph of a word
    pub glyph_number : (word : Word) (i : ℕ) → i < word.len → so_far glyph t (word.offset + (i + 1)) ≡ so_far glyph t (word.offset + i) + number (width_at k m (row_of t.glyphs word) i)
    glyph_number word i l =
        let one : word.offset + (i + 1) ≡ suc (word.offset + i) = omega arith in
        ap (so_far glyph t) one ∙ ap (λ (x : ℕ). so_far glyph t (word.offset + i) + x) (sym (number_at (row_of t.glyphs word) i ∙ worth_in_row glyph t.glyphs word i l))

    -- a stretch of a span
    pub sum_held : (sp : Span) (a : Stretch) → boundary t sp a.start ≤ boundary t sp a.end → so_far glyph t (boundary t sp a.start) + adds_up glyph t (held t sp a) ≡ so_far glyph t (boundary t sp a.end)
    sum_held sp a l = sum_upto (worth glyph t.glyphs) (congruent t.direction sp.level) (boundary t sp a.start) (boundary t sp a.end) l

    module _ (sp : Span) (sound : Sound t) (a : Stretch) (part : PartOfSpan t sp a) where
      pub sums_rise : (v w : ℕ) → v ≤ w → so_far glyph t (join t sp a v) ≤ so_far glyph t (join t sp a w)
      sums_rise v w l = below_rises (worth glyph t.glyphs) (join t sp a v) (join t sp a w) (join_rises t sp sound a v w l)

      pub part_number : (w : ℕ) → WordPart t sp a w → so_far glyph t (join t sp a (w + 1)) < so_far glyph t (join t sp a w) + 2 ^ 32 → so_far glyph t (join t sp a w) + number (part_width k m t sp a w) ≡ so_far glyph t (join t sp a (w + 1))
      part_number w word h =
          let row = glyphs_between t.glyphs (first_of t sp w + low a w) (first_of t sp w + high a w (size_of t sp w)) in
          let s = sum_glyphs glyph t.glyphs (first_of t sp w + low a w) (first_of t sp w + high a w (size_of t sp w)) (omega (arith, word.low_high)) in
          let b = ap (so_far glyph t) word.begins in
          let e = ap (so_far glyph t) word.ends in
          omega (arith, row_number (k.nil_of m) row (omega (arith, exact.nilled)), exact.nilled)

      pub words_number : (x : W) (at n : ℕ) → a.start.word ≤ at → at + n ≤ a.start.word + words_in a → number x + so_far glyph t (join t sp a (at + n)) < so_far glyph t (join t sp a at) + 2 ^ 32 → so_far glyph t (join t sp a at) + number (words_width k m t sp a x at n) ≡ number x + so_far glyph t (join t sp a (at + n))
      words_number x at zero i j h = let e : so_far glyph t (join t sp a at) ≡ so_far glyph t (join t sp a (at + 0)) = ap (λ (w : ℕ). so_far glyph t (join t sp a w)) (omega arith) in omega arith
      words_number x at (suc n) i j h =
          let y = part_width k m t sp a at in
          let e : so_far glyph t (join t sp a (at + 1 + n)) ≡ so_far glyph t (join t sp a (at + suc n)) = ap (λ (w : ℕ). so_far glyph t (join t sp a w)) (omega arith) in
          let up = sums_rise (at + 1) (at + 1 + n) (omega arith) in
          let one = part_number at (word_part t sp sound a part at i (omega arith)) (omega arith) in
          let s = exact.sums x y (omega arith) in
          omega (arith, words_number (k.sum_of m x y) (at + 1) n (omega arith) (omega arith) (omega arith))

    module _ (p : Position) (sound : Sound t) (here : exists t p ≡ true) where
      span_number : (x : W) (s : ℕ) → number x + adds_up glyph t (held t (span_at t s) (ahead_of t p s)) < 2 ^ 32 →
          number (words_width k m t (span_at t s) (ahead_of t p s) x (ahead_of t p s).start.word (words_in (ahead_of t p s))) ≡ number x + adds_up glyph t (held t (span_at t s) (ahead_of t p s))
      span_number x s h =
          let sp = span_at t s in
          let a = ahead_of t p s in
          let part = ahead_part t p here s in
          let b = ap (so_far glyph t) (joins_first t sp sound a part) in
          let e = ap (so_far glyph t) (joins_last t sp sound a part) in
          let all = sum_held sp a (ends_in_order t sp sound a part) in
          omega (arith, words_number sp sound a part x a.start.word (words_in a) (omega arith) (omega arith) (omega arith))

      pub spans_number : (x : W) (s n : ℕ) → number x + adds_up glyph t (ahead_from t p s n) < 2 ^ 32 → number (spans_width k m t p x s n) ≡ number x + adds_up glyph t (ahead_from t p s n)
      spans_number x s zero h = omega arith
      spans_number x s (suc n) h =
          let a = ahead_of t p s in
          let y = words_width k m t (span_at t s) a x a.start.word (words_in a) in
          let both = sum_by-append (worth glyph t.glyphs) (held t (span_at t s) a) (ahead_from t p (s + 1) n) in
          let one = span_number x s (omega arith) in
          spans_number y (s + 1) n (omega arith) ∙ omega arith
