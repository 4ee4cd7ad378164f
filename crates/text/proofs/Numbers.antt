-- A number as std parses it, and as `number_within` reads it.
use Rattle.std.proofs.Common.{◌≡◌, ℕ, ◌^◌, ◌<◌, true, false, List, length, Result, Ok, Err, Some, None, sym, ap, ◌∙◌, arith, rules}
use Rattle.std.specs.Char.{is_ascii_digit}
use Rattle.std.specs.List.{list_all}
use Rattle.std.specs.Result.{OkIff, result_ok}
use Rattle.std.specs.Str.{IsUtf8}
use Rattle.std.specs.Str.Parse.{ParsesUnsigned, digits_value}
use Rattle.std.proofs.lemmas.Bool.{cond-true, cond-false, lt-ltb, ltb-true, and_from, and_parts, false_from_ne_true}
use Rattle.std.proofs.lemmas.Fmt.{IsAscii-from_digits, decimal_nonempty, digits_decimal, digits_value-decimal}
use Rattle.std.specs.Fmt.{decimal}
use Rattle.std.proofs.lemmas.Str.{IsUtf8-from_ascii}
use Rattle.std.proofs.lemmas.Str.Parse.{IsNumeralModel, numerals_by_value, parse_digits}
use Rattle.text.specs.Number.{number_of, number_within}

pub own : IsNumeralModel (λ ds. list_all is_ascii_digit ds ≡ true) (digits_value 10)
own = numerals_by_value _ (search rules)

told : {E : Type 0} (bits : ℕ) (text : List ℕ) (r : Result ℕ E) → list_all is_ascii_digit text ≡ true → OkIff r ((0 < length text) × (digits_value 10 text < 2 ^ bits)) (digits_value 10 text) → result_ok r ≡ number_within bits text
told bits text (Ok x) digits h =
    ap Some h.1 ∙ sym (cond-true _ (Some (digits_value 10 text)) None (and_from _ _ (and_from _ _ digits (lt-ltb _ _ h.0.0)) (lt-ltb _ _ h.0.1)))
told bits text (Err e) digits h =
    sym (cond-false _ (Some (digits_value 10 text)) None (false_from_ne_true _ (λ all.
    let parts = and_parts _ _ all in
    h (ltb-true _ _ (and_parts _ _ parts.0).1, ltb-true _ _ parts.1))))

pub parsed : {E : Type 0} (bits : ℕ) (text : List ℕ) (r : Result ℕ E) → list_all is_ascii_digit text ≡ true → ParsesUnsigned bits 10 text r → result_ok r ≡ number_within bits text
parsed bits text r digits h = told bits text r digits (parse_digits own bits text r h digits)

pub undecoded : (text : List ℕ) → ¬ (IsUtf8 text) → list_all is_ascii_digit text ≡ false
undecoded text h = false_from_ne_true _ (λ all. h (IsUtf8-from_ascii text (IsAscii-from_digits text (own.to text all))))

-- a number that was printed reads as itself
pub number_of-decimal : (n : ℕ) → n < 2 ^ 32 → number_of (decimal n) ≡ Some n
number_of-decimal n h =
    let small : n < 2 ^ 64 = omega arith in
    let value : digits_value 10 (decimal n) ≡ n = digits_value-decimal own n small in
    cond-true _ (Some (digits_value 10 (decimal n))) None
    (and_from _ _ (and_from _ _ (digits_decimal own n small) (lt-ltb _ _ (decimal_nonempty n small))) (lt-ltb _ _ (rw value h)))
    ∙ ap Some value
