-- Words that write a number as a decimal
use Rattle.std.proofs.Common.{◌≡◌, ℕ, zero, suc, ◌^◌, ◌<◌, ◌≤◌, List, length, get_or, Ok, Err, Some, decimal, Option, Result, sym, ap, ◌∙◌, ⊎_elim, arith, length-drop}
use Rattle.std.specs.Result.{result_ok}
use Rattle.std.specs.Str.Parse.{AllDigits, ParsesUnsigned, digits_value}
use Rattle.std.proofs.lemmas.Fmt.{decimal_digit, decimal-digits_value, first_decimal, parse-decimal}
use Rattle.std.proofs.lemmas.Str.Parse.{IsNumeralModel, without_leading_plus_plus, numerals_by_value, parse_plain, tells_digits}
use Rattle.std.proofs.lemmas.Result.{OkIff-at_ok}
use Rattle.std.proofs.lemmas.Bool.{cases_lt}

-- what a word that is read as a number is
own : IsNumeralModel (AllDigits 10) (digits_value 10)
own = numerals_by_value (AllDigits 10) tells_digits

-- r is what the word is read as
module _ {E : Type 0} (word : List ℕ) (r : Result ℕ E) (reads : ParsesUnsigned 64 10 word r) where
  -- a word that writes a number is read as this number
  pub read_back : (n : ℕ) → n < 2 ^ 64 → word ≡ decimal n → r ≡ Ok n
  read_back n small is = parse-decimal 64 n word r small small is reads

  pub fits : (n : ℕ) → r ≡ Ok n → n ≤ 18446744073709551615
  fits n is = let read = OkIff-at_ok r _ _ n reads is in omega (arith, read.0.1, read.1)

  no_plus : (n : ℕ) → r ≡ Ok n → (1 < length word → 48 < get_or word 0 0) → get_or word 0 0 ≡ 43 → ⊥
  no_plus n is plain e =
      let numeral = (OkIff-at_ok r _ _ n reads is).0.0 in
      omega (arith, numeral.0, ap length (without_leading_plus_plus word e), length-drop 1 word, plain (omega (arith, numeral.0, ap length (without_leading_plus_plus word e), length-drop 1 word)))

  -- a word with no sign and no leading zero that is read as a number writes it
  pub written_so : (n : ℕ) → r ≡ Ok n → (1 < length word → 48 < get_or word 0 0) → word ≡ decimal n
  written_so n is plain =
      let read = OkIff-at_ok r _ _ n (parse_plain own 64 word r reads (no_plus n is plain)) is in
      let one_zero : get_or word 0 0 ≡ 48 → length word ≡ 1 = λ e. ⊎_elim (λ long. absurd (omega (arith, plain long))) (λ short. omega (arith, read.0.1)) (cases_lt 1 (length word)) in
      sym (decimal-digits_value own word read.0.0 read.0.1 one_zero read.0.2) ∙ ap decimal (sym read.1)

-- the first byte of a number of more than one digit is above that of 0
pub no_leading_zero : (word : List ℕ) (n : ℕ) → n < 2 ^ 64 → word ≡ decimal n → 1 < length word → 48 < get_or word 0 0
no_leading_zero word zero small is long = absurd (omega (arith, ap length (is ∙ decimal_digit 0 (omega arith))))
no_leading_zero word (suc n) small is long = omega (arith, first_decimal (suc n) (omega arith) small, ap (λ (t : List ℕ). get_or t 0 0) is)

-- what `ok` makes of one reading
pub kept : {T E : Type 0} (r : Result T E) (o : Option T) (x : T) → o ≡ result_ok r → r ≡ Ok x → o ≡ Some x
kept r o x e is = e ∙ ap result_ok is

pub was_read : {T E : Type 0} (r : Result T E) (o : Option T) (x : T) → o ≡ result_ok r → o ≡ Some x → r ≡ Ok x
was_read (Ok y) o x e is = cc
was_read (Err d) o x e is = cc
