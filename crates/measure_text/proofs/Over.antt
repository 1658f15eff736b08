-- One tracking more over a pile
use Rattle.std.proofs.Common.{◌≡◌, ℕ, ◌+◌, ◌<◌, List, length, take, set, ap, ◌∙◌}
use Rattle.std.proofs.lemmas.List.{take_more_set}
use Rattle.std.proofs.lemmas.List.Sums.{fold_push}
use Rattle.measure.specs.Layers.{tracked}
use Rattle.measure.specs.declared.tracking.LetterSpacing.{LetterSpacing}
use Rattle.measure_text.specs.Piles.{tracked_all}

pub one_over : (spacings : List LetterSpacing) (i : ℕ) (s : LetterSpacing) (n : ℕ) → i < length spacings → tracked_all (take (i + 1) (set spacings i s)) n ≡ tracked s.spacing (tracked_all (take i spacings) n)
one_over spacings i s n h = ap (λ ss. tracked_all ss n) (take_more_set spacings i s h) ∙ fold_push (λ m t. tracked t.spacing m) n (take i spacings) s
