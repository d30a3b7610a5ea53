-- What a decimal number without leading zeros begins with. This project's own.
use Rattle.std.specs.Prelude.{ℕ, Bool, false, nat_le, ◌&&◌, List, [], ◌∷◌}
use Rattle.text_lines.specs.Digits.{is_digit}

-- with a digit, which is 0 only where no other follows
abbrev pub begins_plain : List ℕ → Bool
begins_plain [] = false
begins_plain (c ∷ []) = is_digit c
begins_plain (c ∷ d ∷ digits) = nat_le 49 c && nat_le c 57
