-- The ranges of all that is ahead of a position
use Rattle.std.specs.Prelude.{ℕ, zero, suc, ◌+◌, ◌-◌, List, [], length}
use Rattle.paragraph.specs.Text.{Text}
use Rattle.paragraph.specs.declared.place.Position.{Position}
use Rattle.walk.specs.Walk.{kept, range_of}
use Rattle.walk.specs.Widths.{ahead_of}
use Rattle.walk.specs.declared.line.VlRange.{VlRange}

-- the ranges of what is ahead in the n spans from s on, behind those that there are already
abbrev pub whole_from : Text → Position → List VlRange → ℕ → ℕ → List VlRange
whole_from t p rs s zero = rs
whole_from t p rs s (suc n) = whole_from t p (kept rs (range_of t s (ahead_of t p s))) (s + 1) n

abbrev pub whole_ranges : Text → Position → List VlRange
whole_ranges t p = whole_from t p [] p.span (length t.spans - p.span)
