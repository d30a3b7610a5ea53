-- A number in decimal digits without leading zeros, as std reads it.
use Rattle.std.proofs.Common.{◌≡◌, ◌≢◌, ℕ, ◌+◌, ◌-◌, ◌*◌, ◌^◌, ◌<◌, true, List, [], ◌∷◌, length, get_or, Some, Result}
use Rattle.std.proofs.Common.{Ok, Err, inl, inr, refl, ap, arith}
use Rattle.std.specs.Prelude.{nat_le}
use Rattle.std.specs.List.{list_all}
use Rattle.std.specs.Result.{OkIff, result_ok}
use Rattle.std.specs.Str.Parse.{ParsesUnsigned}
use Rattle.std.proofs.lemmas.Bool.{and_parts, and_from, leb-true, le-leb, cases_Bool}
use Rattle.std.proofs.lemmas.Str.Parse.{IsDigitsTest, FoldsDigits, IsNumeralModel, numerals_by_fold, parse_plain}
use Rattle.text_lines.specs.Digits.{is_digit, value_from, number_up_to}
use Rattle.text_script.specs.Script.{is_plain}
use Rattle.pet_text.specs.Words.{plain_number}
use Rattle.pet_text.specs.inside.PlainNumbers.{begins_plain}

abbrev AreDigits : List ℕ → Type 0
AreDigits digits = list_all is_digit digits ≡ true

digits_test : IsDigitsTest AreDigits
digits_test = record {
  empty = refl;
  parts = λ c cs all.
      let both = and_parts (is_digit c) (list_all is_digit cs) all in
      let bounds = and_parts (nat_le 48 c) (nat_le c 57) both.0 in
      ((leb-true 48 c bounds.0, leb-true c 57 bounds.1), both.1);
  more = λ c cs inside all. and_from _ _ (and_from _ _ (le-leb 48 c inside.0) (le-leb c 57 inside.1)) all;
}

folded : FoldsDigits value_from
folded = record {
  empty = λ n. refl;
  more = λ n c cs inside.
      let same : 10 * n + (c - 48) ≡ n * 10 + (c - 48) = omega arith in ap (λ v. value_from v cs) same;
}

own : IsNumeralModel AreDigits (value_from 0)
own = numerals_by_fold AreDigits digits_test value_from folded

-- the number that std reads
same_number : {E : Type 0} (word : List ℕ) (r : Result ℕ E) → 0 < length word
    → OkIff r (AreDigits word × (0 < length word) × (value_from 0 word < 2 ^ 64)) (value_from 0 word)
    → result_ok r ≡ number_up_to 18446744073709551615 word
same_number word (Ok n) some is =
    let small = le-leb (value_from 0 word) 18446744073709551615 (omega (arith, is.0.2)) in
    rw (is.0.0, small) (ap Some is.1)
same_number word (Err e) some is =
    elim (cases_Bool (list_all is_digit word)) [
      | inl all ↦ (
          elim (cases_Bool (nat_le (value_from 0 word) 18446744073709551615)) [
            | inl small ↦ absurd (is (all, some, let le = leb-true _ _ small in omega (arith, le)))
            | inr large ↦ rw (all, large) refl
          ]
          )
      | inr other ↦ rw other refl
    ]

-- a word that begins so
record Begins (word : List ℕ) : Type 0 where
  pub plain : is_plain word ≡ true
  pub some : 0 < length word
  pub unsigned : get_or word 0 0 ≢ 43

begins : (word : List ℕ) → begins_plain word ≡ true → Begins word
begins [] is = absurd (cc)
begins (c ∷ []) is =
    let bounds = and_parts (nat_le 48 c) (nat_le c 57) is in
    let first = leb-true 48 c bounds.0 in
    record { plain = refl; some = omega arith; unsigned = λ plus. omega (arith, first, plus) }
begins (c ∷ d ∷ digits) is =
    let bounds = and_parts (nat_le 49 c) (nat_le c 57) is in
    let first = leb-true 49 c bounds.0 in
    record {
      plain = grind (arith, first);
      some = omega arith;
      unsigned = λ plus. omega (arith, first, plus);
    }

-- for the one function that reads it
pub plain_read : {E : Type 0} (word : List ℕ) (r : Result ℕ E) → ParsesUnsigned 64 10 word r
    → begins_plain word ≡ true → result_ok r ≡ plain_number word
plain_read word r parsed is =
    let has = begins word is in
    rw has.plain (same_number word r has.some (parse_plain own 64 word r parsed has.unsigned))
