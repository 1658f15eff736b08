-- What single fields say
use Rattle.std.specs.Prelude.{◌≡◌, ℕ, ◌^◌, ◌<◌, ◌≤◌, true, false, List, ◌∷◌, ◌++◌, length, pos, Some, None, decimal, Option, ◌≢◌, from_bits, slice_index, Float, Result, Ok, Err, OkIff, ◌+◌, IsErr, MatchOption, MatchResult}
use Rattle.std.specs.Result.{result_ok}
use Rattle.std.specs.Float.{binary32}
use Rattle.std.specs.Float.Ieee.{of_int}
use Rattle.std.specs.Float.Parse.{is_float_text}
use Rattle.std.specs.Str.Parse.{IsNumeral, without_leading_plus, digits_value}

-- the byte does not occur
abbrev pub Lacks : ℕ → List ℕ → Type 0
Lacks byte bytes = (p : ℕ) → p < length bytes → slice_index bytes p ≢ byte

-- a line is cut at its first space into a field and what is left; without a space it is one field, and nothing is left
abbrev pub FirstField : Option (List ℕ) → Option (List ℕ) → Option (List ℕ) → Type 0
FirstField None field left = (field ≡ None) × (left ≡ None)
FirstField (Some line) None left = ⊥
FirstField (Some line) (Some field) None = (field ≡ line) × Lacks 32 line
FirstField (Some line) (Some field) (Some left) = (line ≡ field ++ (32 ∷ left)) × Lacks 32 field

-- what the next field says, where Says tells what a single field says; where there is none left, that is a fault
pub record NextSays {T E : Type 0} (Says : List ℕ → Option T → Type 0) (before : Option (List ℕ)) (r : Result T E) (after : Option (List ℕ)) : Type 0 where
  pub field : Option (List ℕ)
  pub cut : FirstField before field after
  pub said : MatchOption field (IsErr r) (λ f. Says f (result_ok r))

-- r is the number n of a type whose numbers end before `bound`, and an error where n is none of them
abbrev pub IsConverted : {N E : Type 0} → ℕ → (N → ℕ) → ℕ → Result N E → Type 0
IsConverted bound number_of n r = MatchResult r (λ x. (number_of x ≡ n) × (n < bound)) (λ _. ¬ (n < bound))

-- a type that has the numbers of 0 to `most`, and into which just these are converted, each to itself
abbrev pub ConvertsUpTo : {N E : Type 0} → ℕ → (N → ℕ) → (ℕ → Result N E → Type 0) → Type 0
ConvertsUpTo {N} {E} most number_of Gives = (most < 2 ^ 64) × ((n : ℕ) (r : Result N E) → Gives n r → IsConverted (most + 1) number_of n r)

is_converted : {E : Type 0} (bound n : ℕ) (r : Result ℕ E) → OkIff r (n < bound) n → IsConverted bound (λ m. m) n r
is_converted bound n (Ok x) h = (h.1, h.0)
is_converted bound n (Err e) h = h

pub converts_up_to : {E : Type 0} (most : ℕ) → most < 2 ^ 64 → ConvertsUpTo {N = ℕ} {E = E} most (λ m. m) (λ n r. OkIff r (n < most + 1) n)
converts_up_to most small = (small, λ n r h. is_converted (most + 1) n r h)

-- a field writes a whole number of 0 to `most` as a decimal, with no sign and no leading zero, or it writes none
abbrev pub Writes : ℕ → List ℕ → Option ℕ → Type 0
Writes most field None = (n : ℕ) → n ≤ most → field ≢ decimal n
Writes most field (Some n) = (n ≤ most) × (field ≡ decimal n)

-- digits in hex, with or without a plus before them, that fit 32 bits are a float's bits
abbrev pub ReadsBits : List ℕ → Option Float → Type 0
ReadsBits digits None = IsNumeral 16 (without_leading_plus digits) → digits_value 16 (without_leading_plus digits) < 2 ^ 32 → ⊥
ReadsBits digits (Some x) = IsNumeral 16 (without_leading_plus digits) × (digits_value 16 (without_leading_plus digits) < 2 ^ 32) × (x ≡ from_bits binary32 (digits_value 16 (without_leading_plus digits)))

-- a float as Rust reads it; of a whole number that fits 32 bits it is known which float is the nearest
abbrev pub ReadsDecimal : List ℕ → Option Float → Type 0
ReadsDecimal field None = is_float_text field ≡ false
ReadsDecimal field (Some x) = (is_float_text field ≡ true) × (IsNumeral 10 (without_leading_plus field) → digits_value 10 (without_leading_plus field) < 2 ^ 32 → x ≡ of_int binary32 (pos (digits_value 10 (without_leading_plus field))))

-- a field that begins `0x` says a float by its bits, any other in decimals
pub record ReadsFloat (field : List ℕ) (r : Option Float) : Type 0 where
  pub by_bits : (digits : List ℕ) → field ≡ 48 ∷ (120 ∷ digits) → ReadsBits digits r
  pub by_decimals : ((digits : List ℕ) → field ≢ 48 ∷ (120 ∷ digits)) → ReadsDecimal field r
