-- A number in decimal digits, in ASCII.
use Rattle.std.specs.Prelude.{ℕ, ◌+◌, ◌-◌, ◌*◌, ◌&&◌, nat_le, Bool, List, [], ◌∷◌, Option, None, Some, if◌then◌else◌}
use Rattle.std.specs.List.{list_all}

-- a decimal digit
abbrev pub is_digit : ℕ → Bool
is_digit c = nat_le 48 c && nat_le c 57

-- the number of decimal digits behind others
abbrev pub value_from : ℕ → List ℕ → ℕ
value_from value [] = value
value_from value (c ∷ digits) = value_from (10 * value + (c - 48)) digits

-- the number that these bytes are, where they are digits and it is no more than this
abbrev pub number_up_to : ℕ → List ℕ → Option ℕ
number_up_to most digits =
    if list_all is_digit digits && nat_le (value_from 0 digits) most then Some (value_from 0 digits) else None
