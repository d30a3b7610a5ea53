-- What callers may cite of numbers in decimal digits (this project's own): what is printed of a number reads back as
-- the number.
use Rattle.std.proofs.Common.{◌≡◌, ℕ, ◌+◌, ◌-◌, ◌*◌, ◌^◌, ◌<◌, ◌≤◌, true, List, [], ◌∷◌, Some, decimal, refl, ap, ◌∙◌}
use Rattle.std.proofs.Common.{arith}
use Rattle.std.specs.List.{list_all}
use Rattle.std.specs.Char.{digit_value}
use Rattle.std.specs.Str.Parse.{AllDigits, digits_value_after}
use Rattle.std.proofs.lemmas.Bool.{and_from, le-leb}
use Rattle.std.proofs.lemmas.Str.{digit_value_digit}
use Rattle.std.proofs.lemmas.Str.Parse.{digit_from_value}
use Rattle.std.proofs.lemmas.Fmt.{decimal_is_IsNumeral}
use Rattle.text_lines.specs.Digits.{is_digit, value_from, number_up_to}

-- digits have one value
value_same : (digits : List ℕ) (value : ℕ) → AllDigits 10 digits
    → value_from value digits ≡ digits_value_after 10 value digits
value_same [] value all = refl
value_same (c ∷ digits) value all =
    let here = digit_value_digit c (digit_from_value c all.0) in
    let same : 10 * value + (c - 48) ≡ value * 10 + digit_value c = omega arith in
    ap (λ v. value_from v digits) same ∙ value_same digits (value * 10 + digit_value c) all.1

-- and each of them is one
digits_are : (digits : List ℕ) → AllDigits 10 digits → list_all is_digit digits ≡ true
digits_are [] all = refl
digits_are (c ∷ digits) all =
    let here = digit_from_value c all.0 in
    and_from _ _ (and_from _ _ (le-leb 48 c (omega arith)) (le-leb c 57 (omega arith))) (digits_are digits all.1)

-- for callers
pub decimal_back : (n most : ℕ) → n ≤ most → n < 2 ^ 64 → number_up_to most (decimal n) ≡ Some n
decimal_back n most small fits =
    let numeral = decimal_is_IsNumeral n (omega (arith, fits)) in
    let is : value_from 0 (decimal n) ≡ n = value_same (decimal n) 0 numeral.0.1 ∙ numeral.1 in
    let all_digits = digits_are (decimal n) numeral.0.1 in
    let inside = le-leb (value_from 0 (decimal n)) most (omega (arith, is, small)) in
    rw (all_digits, inside) (ap Some is)
