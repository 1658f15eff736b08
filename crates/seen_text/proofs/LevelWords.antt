-- A line of levels, whose words are decimals
use Rattle.std.proofs.Common.{◌≡◌, ℕ, ◌<◌, ◌≤◌, List, [], ◌∷◌, map, length, decimal, sym, refl, ap, ◌∙◌, arith, length-append}
use Rattle.std.specs.List.{flat_map, join_with_byte}
use Rattle.std.proofs.lemmas.List.Splits.{join_with_byte-slice_split}
use Rattle.std.proofs.lemmas.Fmt.{decimal_nonempty, digits_decimal, decimal_injective}
use Rattle.std.proofs.lemmas.Str.Parse.{not_in_digits}
use Rattle.seen_text.specs.Format.{Lacks, Levels}
use Rattle.seen_text.specs.Numbers.{spaced, spelled}
use Rattle.seen_text.proofs.Lines.{own}
use Rattle.seen_text.proofs.Parts.{joined, one_list, parts, parts_are}

abbrev pub Small : ℕ → Type 0
Small n = n ≤ 126

pub no_space : (n : ℕ) → Small n → Lacks 32 (decimal n)
no_space n l p pl e = not_in_digits own (decimal n) 32 (digits_decimal own n (omega arith)) (λ (lo, hi). omega arith) p pl e

pub apart : (n m : ℕ) → Small n → Small m → decimal n ≡ decimal m → n ≡ m
apart n m a b e = decimal_injective n m (omega arith) (omega arith) e

-- a line of levels that is not empty
pub line_parts : (line levels : List ℕ) → 0 < length line → Levels levels → line ≡ spelled levels → parts 32 line ≡ map decimal levels
line_parts line [] some all is = absurd (omega (arith, ap length is))
line_parts line (n ∷ levels) some all is = ap (parts 32) is ∙ parts_are 32 decimal Small no_space (decimal n) levels (no_space n all.0) all.1

joined_levels : (levels : List ℕ) → join_with_byte 32 (map decimal levels) ≡ spelled levels
joined_levels [] = refl
joined_levels (n ∷ levels) = joined 32 decimal (decimal n) levels

pub spelt_so : (line levels : List ℕ) → parts 32 line ≡ map decimal levels → line ≡ spelled levels
spelt_so line levels e = sym (join_with_byte-slice_split 32 line) ∙ ap (join_with_byte 32) e ∙ joined_levels levels

-- a line spells levels in one way
pub same_levels : (ns ms : List ℕ) → Levels ns → Levels ms → spelled ns ≡ spelled ms → ns ≡ ms
same_levels [] [] a b e = refl
same_levels [] (m ∷ ms) a b e = absurd (omega (arith, ap length e, length-append (decimal m) (flat_map spaced ms), decimal_nonempty m (omega (arith, b.0))))
same_levels (n ∷ ns) [] a b e = absurd (omega (arith, ap length e, length-append (decimal n) (flat_map spaced ns), decimal_nonempty n (omega (arith, a.0))))
same_levels (n ∷ ns) (m ∷ ms) a b e =
    one_list decimal Small apart (n ∷ ns) (m ∷ ms) a b
    (sym (parts_are 32 decimal Small no_space (decimal n) ns (no_space n a.0) a.1) ∙ ap (parts 32) e ∙ parts_are 32 decimal Small no_space (decimal m) ms (no_space m b.0) b.1)
