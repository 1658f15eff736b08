-- docs/RULES.md, "Measures"
-- Widths in points: each is one operation of IEEE 754's binary32, rounded once
use Rattle.std.specs.Prelude.{Bool, false, cond, ◌&&◌, pos, Some, None, Option, Float}
use Rattle.std.specs.Float.Ieee.{mul, sub, div, lt, le}
use Rattle.std.specs.Float.{float_is_finite, fin, binary32}
use Rattle.glyph.specs.Ranges.{float_0}
use Rattle.glyph.specs.declared.glyph.Glyph.{Glyph}

-- 2 as a binary32
abbrev pub float_2 : Float
float_2 = fin false 1 (pos 1)

-- a glyph's own size, or else the measure's
abbrev pub size_of : Float → Option Float → Float
size_of size None = size
size_of size (Some own) = own

-- that size times the advance
abbrev pub point_width : Float → Glyph → Float
point_width size g = mul binary32 (size_of size g.size) g.advance

-- the number d where it is above 0, and else 0: a NaN is above nothing, and -0.0 is not above 0
abbrev pub not_below_nil : Float → Float
not_below_nil d = cond (lt float_0 d) d float_0

-- the difference, which stops at nil
abbrev pub point_difference : Float → Float → Float
point_difference a b = not_below_nil (sub binary32 a b)

-- half of a width
abbrev pub point_half : Float → Float
point_half a = div binary32 a float_2

-- finite and not below 0; -0.0 is not below 0
abbrev pub point_lawful : Float → Bool
point_lawful a = float_is_finite a && le float_0 a
