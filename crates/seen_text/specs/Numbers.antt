-- Numbers in a line: decimals with single spaces between them
use Rattle.std.specs.Prelude.{ℕ, List, [], ◌∷◌, ◌++◌, decimal}
use Rattle.std.specs.List.{flat_map}

-- a space and a number
abbrev pub spaced : ℕ → List ℕ
spaced n = 32 ∷ decimal n

-- no numbers are an empty line; else the first is written, and each other with a space before it
abbrev pub spelled : List ℕ → List ℕ
spelled [] = []
spelled (n ∷ ns) = decimal n ++ flat_map spaced ns
