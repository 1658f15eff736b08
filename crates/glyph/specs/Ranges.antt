-- docs/RULES.md, "The paragraph"
-- The ranges of a glyph's fields
use Rattle.std.specs.Prelude.{Bool, true, false, ◌&&◌, pos, Some, None, Option, nat_le, Float}
use Rattle.std.specs.Float.{fin}
use Rattle.std.specs.Float.Ieee.{le}
use Rattle.glyph.specs.declared.glyph.Glyph.{Glyph}

-- the floats 0, 64 and 4096
abbrev pub float_0 : Float
float_0 = fin false 0 (pos 0)

-- 64 as a binary32
abbrev pub float_64 : Float
float_64 = fin false 1 (pos 6)

-- 4,096 as a binary32
abbrev pub float_4096 : Float
float_4096 = fin false 1 (pos 12)

-- from 0 to a largest number. A NaN compares with nothing, so it is outside; -0.0 equals 0.0, so it is inside
abbrev pub from_zero_to : Float → Float → Bool
from_zero_to most x = le float_0 x && le x most

-- from 0 to 64 ems
abbrev pub advance_in : Float → Bool
advance_in x = from_zero_to float_64 x

-- from 0 to 4096 points
abbrev pub size_in : Float → Bool
size_in x = from_zero_to float_4096 x

-- a size of its own is in range, if the glyph has one
abbrev pub own_size_in : Option Float → Bool
own_size_in None = true
own_size_in (Some x) = size_in x

-- each field in its range: the start not after the end, the advance, the own size, 2 cells at most
abbrev pub glyph_in : Glyph → Bool
glyph_in g = nat_le g.start g.end && (advance_in g.advance && (own_size_in g.size && nat_le g.cells 2))
