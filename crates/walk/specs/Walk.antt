-- A walk over what is ahead of a position
use Rattle.std.specs.Prelude.{ℕ, zero, suc, ◌+◌, ◌-◌, Bool, true, false, cond, ◌&&◌, List, [], ◌∷◌, ◌++◌, reverse, length, Some, ◌==◌}
use Rattle.measure.specs.declared.measure.Measure.{Ghosts}
use Rattle.paragraph.specs.Reading.{between}
use Rattle.paragraph.specs.Text.{Text, word_at, span_at}
use Rattle.paragraph.specs.declared.place.Place.{Place}
use Rattle.paragraph.specs.declared.place.Position.{Position}
use Rattle.paragraph.specs.declared.place.Stretch.{Stretch}
use Rattle.paragraph.specs.declared.span.Span.{Span}
use Rattle.walk.specs.Fit.{cut}
use Rattle.walk.specs.Parts.{words_in, low, part_size, row_of, forward, goes_up, next, later}
use Rattle.walk.specs.Widths.{ahead_of, part_width, rest_width, overflow}
use Rattle.walk.specs.declared.line.LayoutDirection.{LayoutDirection}
use Rattle.walk.specs.declared.line.LayoutDirection.TheVariants.{Forward, Backward}
use Rattle.walk.specs.declared.line.Rule.{Rule}
use Rattle.walk.specs.declared.line.VlRange.{VlRange}
use Rattle.walk.specs.declared.line.Walked.{Walked}

abbrev pub same_place : Place → Place → Bool
same_place a b = a.word == b.word && a.glyph == b.glyph

-- the range of a stretch of the span s
abbrev pub range_of : Text → ℕ → Stretch → VlRange
range_of t s a = record { span = Some s; start = a.start; end = a.end; level = (span_at t s).level }

-- one more range, unless its ends are equal
abbrev pub kept : List VlRange → VlRange → List VlRange
kept rs r = cond (same_place r.start r.end) rs (rs ++ r ∷ [])

-- the stretch between the place where the walk came into the span and the cut
abbrev pub cut_to : Bool → Stretch → Place → Stretch
cut_to up a c = cond up (between a.start c) (between c a.end)

-- how many of the n glyphs from `at` on were taken up to the cut
abbrev pub taken : Bool → ℕ → ℕ → ℕ → ℕ
taken up at n c = cond up (c - at) (at + n - c)

-- what a walk laid of a span, its width, and the blanks and glyphs of the line so far
pub record Part (W : Type 0) : Type 0 where
  pub stretch : Stretch
  pub width : W
  pub blanks : ℕ
  pub laid : ℕ
  pub flagged : Bool

-- what a walk laid
pub record Lay (W : Type 0) : Type 0 where
  pub ranges : List VlRange
  pub blanks : ℕ
  pub laid : ℕ
  pub width : W
  pub flagged : Bool

-- after a backward walk the ranges are turned into reading order
abbrev pub in_order : LayoutDirection → List VlRange → List VlRange
in_order Forward rs = rs
in_order Backward rs = reverse rs

module _ {S W : Type 0} (k : Ghosts S W) (m : S) (t : Text) (p : Position) (rule : Rule W) where
  -- What was laid of the span where its word w overflowed. T is the width of finished spans, R that of this span's walked words
  abbrev pub cut_part : Span → Stretch → Bool → W → W → ℕ → ℕ → ℕ → Part W
  cut_part sp a up T R blanks laid w =
      let word = word_at t (sp.offset + w) in
      let got = cut k m rule (row_of t.glyphs word) up (k.sum_of m T R) laid (low a w) (part_size a w word) in
      record {
        stretch = cut_to up a (record { word = w; glyph = got.0 });
        width = k.sum_of m R got.1;
        blanks = blanks;
        laid = laid + taken up (low a w) (part_size a w word) got.0;
        flagged = true;
      }

  -- The walk in a span of which `a` is ahead, up its table or down, where the n words from `at` on are still to walk, and then the `count` spans from
  -- `first` on
  abbrev pub in_span : Span → Stretch → Bool → ℕ → ℕ → W → W → ℕ → ℕ → ℕ → ℕ → Part W
  in_span sp a up first count T R blanks laid at zero =
      record { stretch = a; width = R; blanks = blanks; laid = laid; flagged = false }
  in_span sp a up first count T R blanks laid at (suc n) =
      let w = next up at n in
      let word = word_at t (sp.offset + w) in
      cond (overflow k m rule (k.sum_of m T R) (part_width k m t sp a w) (rest_width k m t p sp a (later up at) n first count) (part_size a w word))
      (cut_part sp a up T R blanks laid w)
      (in_span sp a up first count T (k.sum_of m R (part_width k m t sp a w)) (cond word.blank (blanks + 1) blanks) (laid + part_size a w word) (later up at) n)

  -- the line with what was laid of the span s
  abbrev pub with_part : Lay W → ℕ → Part W → Lay W
  with_part l s q =
      record {
        ranges = kept l.ranges (range_of t s q.stretch);
        blanks = q.blanks;
        laid = q.laid;
        width = k.sum_of m l.width q.width;
        flagged = q.flagged;
      }

  -- what the walk lays of the span s when it comes to it
  abbrev pub part_of : LayoutDirection → Lay W → ℕ → ℕ → ℕ → Part W
  part_of way l s first count =
      let sp = span_at t s in
      let a = ahead_of t p s in
      in_span sp a (goes_up t.direction sp way) first count l.width (k.nil_of m) l.blanks l.laid a.start.word (words_in a)

  -- The walk, where the n spans from `at` on are still to walk: the first word that overflows ends it
  abbrev pub walks : LayoutDirection → Lay W → ℕ → ℕ → Lay W
  walks way l at zero = l
  walks way l at (suc n) =
      let s = next (forward way) at n in
      let q = part_of way l s (later (forward way) at) n in
      cond q.flagged (with_part l s q) (walks way (with_part l s q) (later (forward way) at) n)

  abbrev pub nothing : Lay W
  nothing = record { ranges = []; blanks = 0; laid = 0; width = k.nil_of m; flagged = false }

  -- the whole walk, its ranges in the order in which it comes to them
  abbrev pub walked : LayoutDirection → Lay W
  walked way = walks way nothing p.span (length t.spans - p.span)

  -- the whole walk, its ranges in reading order
  abbrev pub lay : LayoutDirection → Lay W
  lay way =
      let l = walked way in
      record { ranges = in_order way l.ranges; blanks = l.blanks; laid = l.laid; width = l.width; flagged = l.flagged }

-- what a walk tells of what it laid
abbrev pub told : {W : Type 0} → Lay W → Walked W
told l = record { ranges = length l.ranges; blanks = l.blanks; laid = l.laid; width = l.width; flagged = l.flagged }
