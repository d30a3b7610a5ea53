-- What callers may cite of rows of equal lengths (this project's own): they list the lengths again, and each can be
-- read.
use Rattle.std.proofs.Common.{◌≡◌, ℕ, suc, ◌+◌, ◌^◌, ◌<◌, ◌≤◌, List, [], ◌∷◌, ◌++◌, length, replicate, refl, ap, ◌∙◌}
use Rattle.std.proofs.Common.{arith, inl, inr}
use Rattle.std.specs.Prelude.{◌==◌, ⊤}
use Rattle.std.specs.List.{flat_map}
use Rattle.std.proofs.lemmas.Bool.{cases_Bool, eqb-true, cond-true, cond-false, cond_both}
use Rattle.text_plan.specs.PlanLines.{with_length, rows_of}

-- the lengths that rows list
abbrev pub lengths_in : List (ℕ × ℕ) → List ℕ
lengths_in rows = flat_map (λ row. replicate row.1 row.0) rows

with_length_back : (size : ℕ) (rows : List (ℕ × ℕ)) → lengths_in (with_length size rows) ≡ size ∷ lengths_in rows
with_length_back size [] = refl
with_length_back size (row ∷ rows) =
    elim (cases_Bool (size == row.0)) [
      | inl same ↦
          let more : row.1 + 1 ≡ suc row.1 = omega arith in
          ap lengths_in (cond-true (size == row.0) ((size, row.1 + 1) ∷ rows) ((size, 1) ∷ row ∷ rows) same)
          ∙ ap (λ times. replicate times size ++ lengths_in rows) more
          ∙ ap (λ s. size ∷ (replicate row.1 s ++ lengths_in rows)) (eqb-true size row.0 same)
      | inr other ↦
          ap lengths_in (cond-false (size == row.0) ((size, row.1 + 1) ∷ rows) ((size, 1) ∷ row ∷ rows) other)
    ]

-- for callers: the rows list the lengths again
pub rows_back : (ns : List ℕ) → flat_map (λ row. replicate row.1 row.0) (rows_of ns) ≡ ns
rows_back [] = refl
rows_back (size ∷ sizes) = with_length_back size (rows_of sizes) ∙ ap (λ list. size ∷ list) (rows_back sizes)

-- each length can be read
abbrev pub AllFit : List ℕ → Type 0
AllFit [] = ⊤
AllFit (size ∷ sizes) = (0 < size) × (size < 2 ^ 32) × AllFit sizes

-- each row can be, where so many are few
abbrev pub RowsFit : ℕ → List (ℕ × ℕ) → Type 0
RowsFit most [] = ⊤
RowsFit most (row ∷ rows) = (0 < row.0) × (row.0 < 2 ^ 32) × (0 < row.1) × (row.1 ≤ most) × RowsFit most rows

rows_more : (most : ℕ) (rows : List (ℕ × ℕ)) → RowsFit most rows → RowsFit (suc most) rows
rows_more most [] fit = tt
rows_more most (row ∷ rows) fit = (fit.0, fit.1, fit.2, omega (arith, fit.3), rows_more most rows fit.4)

with_length_fits : (size most : ℕ) (rows : List (ℕ × ℕ)) → 0 < size → size < 2 ^ 32 → RowsFit most rows
    → (0 < length (with_length size rows)) × RowsFit (suc most) (with_length size rows)
with_length_fits size most [] some small fit = (omega arith, (some, small, omega arith, omega arith, tt))
with_length_fits size most (row ∷ rows) some small fit =
    cond_both (size == row.0) ((size, row.1 + 1) ∷ rows) ((size, 1) ∷ row ∷ rows)
    (λ found. (0 < length found) × RowsFit (suc most) found)
    (λ same. (omega arith, (some, small, omega arith, omega (arith, fit.3), rows_more most rows fit.4)))
    (λ other. (omega arith, (some, small, omega arith, omega arith, rows_more most (row ∷ rows) fit)))

-- there is a row, and each can be read
pub rows_fit : (sizes : List ℕ) → AllFit sizes
    → (0 < length sizes → 0 < length (rows_of sizes)) × RowsFit (length sizes) (rows_of sizes)
rows_fit [] fit = (λ some. absurd (omega arith), tt)
rows_fit (size ∷ sizes) fit =
    let more = with_length_fits size (length sizes) (rows_of sizes) fit.0 fit.1 (rows_fit sizes fit.2).1 in
    (λ some. more.0, more.1)
