-- What callers may cite of numbers in a plan file (this project's own): what is printed of a number reads back as the
-- number.
use Rattle.std.proofs.Common.{◌≡◌, ℕ, ◌^◌, ◌<◌, false, List, [], ◌∷◌, length, get_or, Some, decimal, refl, ◌∙◌, arith}
use Rattle.std.specs.Prelude.{◌==◌}
use Rattle.std.proofs.lemmas.Bool.{ne_eqb}
use Rattle.std.proofs.lemmas.Fmt.{decimal_is_IsNumeral, first_decimal}
use Rattle.text_lines.specs.Digits.{number_up_to}
use Rattle.text_lines.specs.laws.DigitsLaws.{decimal_back}
use Rattle.text_plan.specs.PlanFile.{number_of}

-- digits without a leading zero
no_zero : (digits : List ℕ) → 0 < length digits → 48 < get_or digits 0 0
    → number_of digits ≡ number_up_to 4294967295 digits
no_zero [] some first = absurd (omega arith)
no_zero (c ∷ digits) some first =
    let plain : (c == 48) ≡ false = ne_eqb c 48 (λ e. omega arith) in
    rw plain refl

-- for callers
pub number_back : (n : ℕ) → 0 < n → n < 2 ^ 32 → number_of (decimal n) ≡ Some n
number_back n some small =
    let numeral = decimal_is_IsNumeral n (omega arith) in
    no_zero (decimal n) numeral.0.0 (first_decimal n some (omega arith))
    ∙ decimal_back n 4294967295 (omega arith) (omega arith)
