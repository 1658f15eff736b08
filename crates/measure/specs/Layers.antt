-- docs/RULES.md, "Measures"
-- Layers over exact measures: each changes the numbers that glyphs mean
use Rattle.std.specs.Prelude.{ℕ, ◌+◌, min, cond, ◌==◌}

-- Tracking: a number of 0 stays 0, any other gets the spacing added, up to 131071
abbrev pub tracked : ℕ → ℕ → ℕ
tracked spacing n = cond (n == 0) 0 (min (n + spacing) 131071)
