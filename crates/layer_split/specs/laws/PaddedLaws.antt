-- What callers know of a layer that is filled up to whole words: as many as half its bytes, rounded up. This project's
-- own.
use Rattle.std.proofs.Common.{◌≡◌, ℕ, ◌*◌, ◌%◌, List, [], ◌∷◌, ◌++◌, length, false, ap, ◌∙◌, arith, inl, inr}
use Rattle.std.specs.Prelude.{◌==◌}
use Rattle.std.specs.Int.{div_ceil}
use Rattle.std.proofs.lemmas.Bool.{cond-true, cond-false, cases_Bool}
use Rattle.std.proofs.lemmas.Bool.Decides.{nat_tests}
use Rattle.std.proofs.lemmas.List.{length-append}
use Rattle.layer_split.specs.Layers.{padded, padded_by}

pub padded_length : (bytes : List ℕ) → length (padded bytes) ≡ div_ceil (length bytes) 2 * 2
padded_length bytes = elim (cases_Bool (length bytes % 2 == 1)) [
  | inl e ↦
      let odd : length bytes % 2 ≡ 1 = grind (arith, nat_tests) in
      ap length (cond-true (length bytes % 2 == 1) (bytes ++ 0 ∷ []) bytes e) ∙ length-append bytes (0 ∷ [])
      ∙ (omega arith)
  | inr e ↦
      let even : length bytes % 2 ≡ 0 = grind (arith, nat_tests) in
      ap length (cond-false (length bytes % 2 == 1) (bytes ++ 0 ∷ []) bytes e) ∙ (omega arith)
]

-- a layer in words of one byte is its bytes
pub padded_bytewise : (bytes : List ℕ) → padded_by 1 bytes ≡ bytes
padded_bytewise bytes =
    let none : length bytes % 1 ≡ 0 = omega arith in
    let e : (length bytes % 1 == 1) ≡ false = grind (arith, nat_tests) in
    cond-false (length bytes % 1 == 1) (bytes ++ 0 ∷ []) bytes e
