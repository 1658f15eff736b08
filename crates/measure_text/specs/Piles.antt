-- Several trackings as one layer
use Rattle.std.specs.Prelude.{ℕ, List, take, fold}
use Rattle.measure.specs.Layers.{tracked}
use Rattle.measure.specs.declared.tracking.LetterSpacing.{LetterSpacing}
use Rattle.measure_text.specs.declared.pile.Pile.{Pile}

-- a number after each of some trackings in turn
abbrev pub tracked_all : List LetterSpacing → ℕ → ℕ
tracked_all spacings n = fold (λ m s. tracked s.spacing m) n spacings

-- the trackings in use
abbrev pub piled : Pile → List LetterSpacing
piled p = take p.used p.spacings

abbrev pub pile_number : Pile → ℕ → ℕ
pile_number p n = tracked_all (piled p) n
