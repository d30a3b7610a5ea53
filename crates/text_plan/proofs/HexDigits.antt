-- The hexadecimal digits of one byte more.
use Rattle.std.proofs.Common.{◌≡◌, ℕ, ◌+◌, ◌/◌, ◌%◌, ◌<◌, List, [], ◌∷◌, ◌++◌, length, drop, get_or, append_assoc, sym}
use Rattle.std.proofs.Common.{ap, ◌∙◌, arith}
use Rattle.std.proofs.lemmas.Bool.Decides.{nat_tests}
use Rattle.std.proofs.lemmas.List.{at_drop_more}
use Rattle.text_plan.specs.PlanLines.{hex_digit, hex_text}

pub is_ascii : (n digit : ℕ) → n < 16 → digit ≡ hex_digit n → digit < 128
is_ascii n digit small is = grind (arith, nat_tests)

-- behind a text, where its digits and those that are left make up a whole
pub byte_more : (bytes : List ℕ) (i : ℕ) (text high low all : List ℕ) → i < length bytes
    → high ≡ text ++ hex_digit (get_or bytes i 0 / 16) ∷ [] → low ≡ high ++ hex_digit (get_or bytes i 0 % 16) ∷ []
    → text ++ hex_text (drop i bytes) ≡ all → low ++ hex_text (drop (i + 1) bytes) ≡ all
byte_more bytes i text high low all within first second so =
    let rest = hex_text (drop (i + 1) bytes) in
    let a = hex_digit (get_or bytes i 0 / 16) in
    let b = hex_digit (get_or bytes i 0 % 16) in
    rw (second, first) (append_assoc (text ++ a ∷ []) (b ∷ []) rest
    ∙ (append_assoc text (a ∷ []) (b ∷ rest)
    ∙ (ap (λ t. text ++ t) (sym (at_drop_more hex_text bytes i 0 within)) ∙ so)))
