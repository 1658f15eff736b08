-- What the code holds of a walk, read as what the definitions speak of
use Rattle.std.specs.Prelude.{ℕ, ◌+◌, cond, List, Some, slice_set}
use Rattle.paragraph.specs.declared.place.Stretch.{Stretch}
use Rattle.walk.specs.Walk.{Part, same_place}
use Rattle.walk.specs.declared.line.VlRange.{VlRange}
use Rattle.walk.specs.declared.span_part.SpanPart.{SpanPart}

abbrev pub as_part : {W : Type 0} → SpanPart W → Part W
as_part q = record { stretch = q.stretch; width = q.width; blanks = q.blanks; laid = q.laid; flagged = q.flagged }

-- the range of a stretch of the span s, at a level
abbrev pub range_at : ℕ → Stretch → ℕ → VlRange
range_at s a level = record { span = Some s; start = a.start; end = a.end; level = level }

-- how many ranges there are with one more, unless its ends are equal
abbrev pub counted : ℕ → VlRange → ℕ
counted n r = cond (same_place r.start r.end) n (n + 1)

-- the list with the range at the place n, unless its ends are equal; where the list has no such place it stays as it is
abbrev pub put_at : List VlRange → ℕ → VlRange → List VlRange
put_at out n r = cond (same_place r.start r.end) out (slice_set out n r)
