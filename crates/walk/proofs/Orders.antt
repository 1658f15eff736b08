-- What a walk visits lies in what was left
use Rattle.std.proofs.Common.{◌≡◌, ℕ, suc, ◌+◌, ◌<◌, ◌≤◌, Bool, true, false, arith}
use Rattle.paragraph.specs.declared.place.Stretch.{Stretch}
use Rattle.paragraph.specs.Text.{Text}
use Rattle.paragraph.specs.declared.span.Span.{Span}
use Rattle.walk.specs.Inside.{Inside, Reaches, ReachesAll}
use Rattle.walk.specs.Parts.{next, later}
use Rattle.walk.specs.Places.{Follows}
use Rattle.walk.specs.declared.places.Places.{Places}

pub next_in : (up : Bool) (at n : ℕ) → (at ≤ next up at n) × (next up at n ≤ at + n)
next_in true at n = (omega arith, omega arith)
next_in false at n = (omega arith, omega arith)

pub later_in : (up : Bool) (at : ℕ) → (at ≤ later up at) × (later up at ≤ at + 1)
later_in true at = (omega arith, omega arith)
later_in false at = (omega arith, omega arith)

-- the place that is visited, and those that are left then
module _ {s t : Places} {w : ℕ} (f : Follows s t w) where
  pub visited : (s.first ≤ w) × (w < s.first + s.count)
  visited =
      let o = next_in s.up s.first t.count in
      (omega (arith, o.0, f.place), omega (arith, o.1, f.place, f.counts))

  pub left : (s.first ≤ t.first) × (t.first + t.count ≤ s.first + s.count)
  left =
      let o = later_in s.up s.first in
      (omega (arith, o.0, f.later_first), omega (arith, o.1, f.later_first, f.counts))

  module _ (a : Stretch) (all : ReachesAll a s) where
    pub word_reached : Reaches a w
    word_reached = (omega (arith, all.0, visited.0), omega (arith, all.1, visited.1))

    pub rest_reached : ReachesAll a t
    rest_reached = (omega (arith, all.0, left.0), omega (arith, all.1, left.1))

module _ (t : Text) (sp : Span) (a : Stretch) (at n : ℕ) (inside : Inside t sp a at n) where
  -- some of the words
  inside_some : (l j : ℕ) → at ≤ l → l + j ≤ at + n → Inside t sp a l j
  inside_some l j lo hi =
      record {
        there = omega (arith, inside.there);
        low_high = λ w h i. inside.low_high w (omega arith) (omega arith);
        high_len = λ w h i. inside.high_len w (omega arith) (omega arith);
        within = λ w h i. inside.within w (omega arith) (omega arith);
      }

  -- the word that comes next, and those that are left then
  module _ (up : Bool) (j : ℕ) (n_is : n ≡ suc j) where
    pub inside_next : (w : ℕ) → w ≡ next up at j → Inside t sp a w 1
    inside_next w e = inside_some w 1 (omega (arith, (next_in up at j).0)) (omega (arith, (next_in up at j).1))

    pub inside_later : (l : ℕ) → l ≡ later up at → Inside t sp a l j
    inside_later l e = inside_some l j (omega (arith, (later_in up at).0)) (omega (arith, (later_in up at).1))
