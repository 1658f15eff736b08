-- The range of the ellipsis, and its level
use Rattle.std.specs.Prelude.{ℕ, cond, List, [], ◌∷◌, reverse, Some, None, Option, ◌==◌}
use Rattle.paragraph.specs.Reading.{edge}
use Rattle.paragraph.specs.declared.direction.Direction.{Direction}
use Rattle.paragraph.specs.declared.direction.Direction.TheVariants.{LeftToRight, RightToLeft}
use Rattle.walk.specs.declared.line.LayoutDirection.{LayoutDirection}
use Rattle.walk.specs.declared.line.LayoutDirection.TheVariants.{Forward, Backward}
use Rattle.walk.specs.declared.line.VlRange.{VlRange}

-- the ellipsis names no span and runs from (0, 0) to (1, 0)
abbrev pub ellipsis_range : ℕ → VlRange
ellipsis_range level = record { span = None; start = edge 0; end = edge 1; level = level }

-- the paragraph's own level
abbrev pub paragraph_level : Direction → ℕ
paragraph_level LeftToRight = 0
paragraph_level RightToLeft = 1

-- the first and the last range of a list
abbrev pub first_of : List VlRange → Option VlRange
first_of [] = None
first_of (r ∷ rs) = Some r

abbrev pub last_of : List VlRange → Option VlRange
last_of rs = first_of (reverse rs)

-- The ellipsis has the level that both its neighbours share, the only neighbour's, or else the paragraph's
abbrev pub level_between : Direction → Option VlRange → Option VlRange → ℕ
level_between d None None = paragraph_level d
level_between d (Some a) None = a.level
level_between d None (Some b) = b.level
level_between d (Some a) (Some b) = cond (a.level == b.level) a.level (paragraph_level d)

-- The ellipsis stands where a walk ended: all that it laid stands before the ellipsis if it went forward, and behind it if it went back
abbrev pub before_of : LayoutDirection → List VlRange → List VlRange
before_of Forward rs = rs
before_of Backward rs = []

abbrev pub behind_of : LayoutDirection → List VlRange → List VlRange
behind_of Forward rs = []
behind_of Backward rs = rs
