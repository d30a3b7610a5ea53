-- The byte that ends a number in decimal digits: no digit, or one too many.
use Rattle.std.proofs.Common.{◌≡◌, ℕ, ◌+◌, ◌-◌, ◌*◌, ◌<◌, ◌≤◌, List, [], ◌∷◌, false, inl, inr, ◌∙◌, arith}
use Rattle.std.specs.Prelude.{Some, None, ◌&&◌, nat_le, if◌then◌else◌}
use Rattle.std.specs.List.{list_all}
use Rattle.std.proofs.lemmas.Bool.{cases_Bool}
use Rattle.text_lines.specs.Digits.{is_digit, value_from, number_up_to}

-- a digit more is no less
value_grows : (value : ℕ) (digits : List ℕ) → value ≤ value_from value digits
value_grows value [] = omega arith
value_grows value (c ∷ digits) = omega (arith, value_grows (10 * value + (c - 48)) digits)

no_digits : (most : ℕ) (digits : List ℕ) → list_all is_digit digits ≡ false → None ≡ number_up_to most digits
no_digits most digits other = grind (arith, other)

too_many : (most : ℕ) (digits : List ℕ) → most < value_from 0 digits → None ≡ number_up_to most digits
too_many most digits large =
    elim (cases_Bool (list_all is_digit digits)) [
      | inl e ↦ grind (arith, e, large)
      | inr e ↦ no_digits most digits e
    ]

pub refused_digit : (most : ℕ) (digits : List ℕ) (value d : ℕ) (rest : List ℕ)
    → list_all is_digit digits ≡ list_all is_digit (d ∷ rest) → value_from 0 digits ≡ value_from value (d ∷ rest)
    → None ≡ (if is_digit d && nat_le (10 * value + (d - 48)) most then Some (10 * value + (d - 48)) else None)
    → None ≡ number_up_to most digits
refused_digit most digits value d rest digit whole refused =
    elim (cases_Bool (is_digit d)) [
      | inl e ↦ (
          let large : most < 10 * value + (d - 48) = grind (arith, e, refused) in
          too_many most digits (omega (arith, large, whole, value_grows (10 * value + (d - 48)) rest))
          )
      | inr e ↦ no_digits most digits (digit ∙ grind (arith, e))
    ]
