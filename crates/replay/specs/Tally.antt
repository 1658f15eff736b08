-- How many lines were replayed, and how many of them differ
use Rattle.std.specs.Prelude.{ℕ, List, ◌++◌, codes, decimal}

-- `LINES lines, DIFFER differ`
abbrev pub tally_bytes : ℕ → ℕ → List ℕ
tally_bytes lines differ = decimal lines ++ (codes " lines, " ++ (decimal differ ++ codes " differ"))
