-- Numbers in a line, one after another
use Rattle.std.proofs.Common.{◌≡◌, ℕ, zero, suc, ◌<◌, ◌≤◌, List, length, get_or, Ok, IsUtf8, decimal, Result, sym, ap, ◌∙◌, subst, ⊎_elim, arith, length-drop}
use Rattle.std.specs.Str.Parse.{AllDigits, ParsesUnsigned, digits_value}
use Rattle.std.proofs.lemmas.Fmt.{IsAscii-decimal, decimal_digit, decimal-digits_value, first_decimal, parse-decimal}
use Rattle.std.proofs.lemmas.Str.Parse.{IsNumeralModel, without_leading_plus_plus, numerals_by_value, parse_plain, tells_digits}
use Rattle.std.proofs.lemmas.Result.{OkIff-at_ok}
use Rattle.std.proofs.lemmas.Str.{IsUtf8-from_ascii}
use Rattle.std.proofs.lemmas.Bool.{cases_lt}

-- what a word that is read as a number is
pub own : IsNumeralModel (AllDigits 10) (digits_value 10)
own = numerals_by_value (AllDigits 10) tells_digits

-- `text` is the word as a text, and r is what it is read as
module _ {E : Type 0} (word text : List ℕ) (r : Result ℕ E) (same : text ≡ word) (reads : ParsesUnsigned 8 10 text r) where
  -- a word that writes a level is read as this level
  pub read_back : (level : ℕ) → level ≤ 126 → word ≡ decimal level → r ≡ Ok level
  read_back level small is = parse-decimal 8 level text r (omega arith) (omega arith) (same ∙ is) reads

  no_plus : (n : ℕ) → r ≡ Ok n → (1 < length text → 48 < get_or text 0 0) → get_or text 0 0 ≡ 43 → ⊥
  no_plus n is plain e =
      let numeral = (OkIff-at_ok r _ _ n reads is).0.0 in
      omega (arith, numeral.0, ap length (without_leading_plus_plus text e), length-drop 1 text, plain (omega (arith, numeral.0, ap length (without_leading_plus_plus text e), length-drop 1 text)))

  -- a word with no sign and no leading zero that is read as a number writes it
  pub written_so : (n : ℕ) → r ≡ Ok n → (1 < length word → 48 < get_or word 0 0) → word ≡ decimal n
  written_so n is plain_word =
      let plain : 1 < length text → 48 < get_or text 0 0 = subst (λ (t : List ℕ). 1 < length t → 48 < get_or t 0 0) (sym same) plain_word in
      let read = OkIff-at_ok r _ _ n (parse_plain own 8 text r reads (no_plus n is plain)) is in
      let one_zero : get_or text 0 0 ≡ 48 → length text ≡ 1 = λ e. ⊎_elim (λ long. absurd (omega (arith, plain long))) (λ short. omega (arith, read.0.1)) (cases_lt 1 (length text)) in
      sym same ∙ sym (decimal-digits_value own text read.0.0 read.0.1 one_zero (omega (arith, read.0.2))) ∙ ap decimal (sym read.1)

-- the first byte of a level of more than one digit is above that of 0
pub no_leading_zero : (word : List ℕ) (level : ℕ) → level ≤ 126 → word ≡ decimal level → 1 < length word → 48 < get_or word 0 0
no_leading_zero word zero small is long = absurd (omega (arith, ap length (is ∙ decimal_digit 0 (omega arith))))
no_leading_zero word (suc n) small is long = omega (arith, first_decimal (suc n) (omega arith) (omega arith), ap (λ (t : List ℕ). get_or t 0 0) is)

pub level_utf8 : (word : List ℕ) (level : ℕ) → level ≤ 126 → word ≡ decimal level → IsUtf8 word
level_utf8 word level small is = subst IsUtf8 (sym is) (IsUtf8-from_ascii (decimal level) (IsAscii-decimal level (omega arith)))

-- two answers of one reading
pub same_level : {E : Type 0} (r : Result ℕ E) (m n : ℕ) → r ≡ Ok m → r ≡ Ok n → m ≡ n
same_level r m n p q = cc
