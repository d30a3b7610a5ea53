-- The decimal digits of a number: how many there are, and the last one.
use Rattle.std.proofs.Common.{◌≡◌, ℕ, ◌+◌, ◌/◌, ◌%◌, ◌^◌, ◌<◌, ◌≤◌, List, [], ◌∷◌, ◌++◌, length, append_assoc}
use Rattle.std.proofs.Common.{length-append, ap, sym, ◌∙◌, arith}
use Rattle.std.specs.Fmt.{decimal}
use Rattle.std.proofs.lemmas.Fmt.{length-decimal-le, decimal_step}

pub number_fits : (n : ℕ) → n < 2 ^ 64 → length (decimal n) ≤ 20
number_fits n small = length-decimal-le 20 n (omega arith) (omega (arith, small)) small

pub count_fits : (n : ℕ) → n < 2 ^ 32 → length (decimal n) ≤ 10
count_fits n small = length-decimal-le 10 n (omega arith) (omega (arith, small)) (omega (arith, small))

pub byte_fits : (n : ℕ) → n < 2 ^ 8 → length (decimal n) ≤ 3
byte_fits n small = length-decimal-le 3 n (omega arith) (omega (arith, small)) (omega (arith, small))

-- a number of two digits or more: that of all digits but the last, and the last
pub digits_more : (n : ℕ) → 10 ≤ n → n < 2 ^ 64 → length (decimal n) ≡ length (decimal (n / 10)) + 1
digits_more n big small = ap length (decimal_step n big small) ∙ length-append (decimal (n / 10)) ((48 + n % 10) ∷ [])

pub text_more : (n : ℕ) (old front all : List ℕ) → 10 ≤ n → n < 2 ^ 64
    → front ≡ old ++ decimal (n / 10) → all ≡ front ++ ((48 + n % 10) ∷ []) → all ≡ old ++ decimal n
text_more n old front all big small begun ended =
    ended ∙ ap (λ xs. xs ++ ((48 + n % 10) ∷ [])) begun ∙ append_assoc old (decimal (n / 10)) ((48 + n % 10) ∷ [])
    ∙ ap (λ xs. old ++ xs) (sym (decimal_step n big small))
