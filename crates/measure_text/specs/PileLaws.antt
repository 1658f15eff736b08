-- Several trackings in turn
use Rattle.std.proofs.Common.{ℕ, ◌≤◌, List, [], ◌∷◌, rules}
use Rattle.measure.specs.Layers.{tracked}
use Rattle.measure.specs.declared.tracking.LetterSpacing.{LetterSpacing}
use Rattle.measure_text.specs.Piles.{tracked_all}

one_small : (spacing n : ℕ) → tracked spacing n ≤ 131071
one_small spacing n = search rules

-- small numbers stay small
pub all_small : (spacings : List LetterSpacing) (n : ℕ) → n ≤ 131071 → tracked_all spacings n ≤ 131071
all_small [] n h = h
all_small (s ∷ spacings) n h = all_small spacings (tracked s.spacing n) (one_small s.spacing n)
