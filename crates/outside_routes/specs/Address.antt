-- The address of a link, as it is spelled: a host, a colon and a port. This project's own.
use Rattle.std.specs.Prelude.{ℕ, ◌&&◌, ◌==◌, nat_le, nat_lt, Bool, false, List, [], ◌∷◌, length, Option, None, Some}
use Rattle.std.specs.Prelude.{if◌then◌else◌}
use Rattle.text_lines.specs.Digits.{number_up_to}

-- a byte before what is cut
abbrev pub behind_byte : ℕ → List ℕ → Option (List ℕ × List ℕ) → Option (List ℕ × List ℕ)
behind_byte c rest None = if c == 58 then Some ([], rest) else None
behind_byte c rest (Some cut) = Some (c ∷ cut.0, cut.1)

-- what stands before the last colon and behind it, where there is one
abbrev pub cut_at_last_colon : List ℕ → Option (List ℕ × List ℕ)
cut_at_last_colon [] = None
cut_at_last_colon (c ∷ rest) = behind_byte c rest (cut_at_last_colon rest)

-- it is there, and no less than this
abbrev pub is_from : ℕ → Option ℕ → Bool
is_from least None = false
is_from least (Some number) = nat_le least number

-- a decimal number up to 65,535 without leading zeros, and no less than the least one
abbrev pub is_port : ℕ → List ℕ → Bool
is_port least [] = false
is_port least (c ∷ []) = is_from least (number_up_to 65535 (c ∷ []))
is_port least (c ∷ d ∷ digits) = if c == 48 then false else is_from least (number_up_to 65535 (c ∷ d ∷ digits))

abbrev pub are_host_and_port : ℕ → Option (List ℕ × List ℕ) → Bool
are_host_and_port least None = false
are_host_and_port least (Some cut) = nat_lt 0 (length cut.0) && is_port least cut.1

-- a host, which is not empty, the last colon, and a port
abbrev pub is_address : ℕ → List ℕ → Bool
is_address least text = are_host_and_port least (cut_at_last_colon text)
