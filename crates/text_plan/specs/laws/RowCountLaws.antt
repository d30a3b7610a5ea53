-- How many rows lengths have (this project's own): what one length more, a front left out and a run of equal ones make
-- of
-- the number.
use Rattle.std.proofs.Common.{◌≡◌, ◌≢◌, ℕ, zero, suc, ◌+◌, ◌<◌, ◌≤◌, List, [], ◌∷◌, ◌++◌, length, get_or, drop}
use Rattle.std.proofs.Common.{replicate, refl, sym, ap, ◌∙◌, arith, inl, inr}
use Rattle.std.specs.Prelude.{◌==◌}
use Rattle.std.proofs.lemmas.Bool.{cases_eq, eq-eqb, ne_eqb, cond-true, cond-false, cond_both}
use Rattle.stripe_plan.specs.declared.layer.LayerSize.{LayerSize}
use Rattle.stripe_plan.specs.Layers.{words_of, needs_of}
use Rattle.text_plan.specs.PlanLines.{with_length, rows_of}

-- there is a first row, of this length
abbrev pub FirstIs : ℕ → List (ℕ × ℕ) → Type 0
FirstIs size [] = ⊥
FirstIs size (row ∷ rows) = row.0 ≡ size

pub with_length-first : (size : ℕ) (rows : List (ℕ × ℕ)) → FirstIs size (with_length size rows)
with_length-first size [] = refl
with_length-first size (row ∷ rows) =
    cond_both (size == row.0) ((size, row.1 + 1) ∷ rows) ((size, 1) ∷ row ∷ rows) (FirstIs size) (λ same. refl)
    (λ other. refl)

-- one length more is at most one row more
pub count-bounds : (size : ℕ) (rows : List (ℕ × ℕ))
    → (length rows ≤ length (with_length size rows)) × (length (with_length size rows) ≤ length rows + 1)
count-bounds size [] = (omega arith, omega arith)
count-bounds size (row ∷ rows) =
    cond_both (size == row.0) ((size, row.1 + 1) ∷ rows) ((size, 1) ∷ row ∷ rows)
    (λ found. (length (row ∷ rows) ≤ length found) × (length found ≤ length (row ∷ rows) + 1))
    (λ same. (omega arith, omega arith)) (λ other. (omega arith, omega arith))

-- none, where it is that of the first row
pub count-same : (size : ℕ) (rows : List (ℕ × ℕ)) → FirstIs size rows → length (with_length size rows) ≡ length rows
count-same size [] first = absurd first
count-same size (row ∷ rows) first =
    ap length (cond-true (size == row.0) ((size, row.1 + 1) ∷ rows) ((size, 1) ∷ row ∷ rows)
    (eq-eqb size row.0 (sym first)))

-- words that are left out at the front take no row more
pub count-drop : (skip : ℕ) (sizes : List ℕ) → length (rows_of (drop skip sizes)) ≤ length (rows_of sizes)
count-drop zero sizes = omega arith
count-drop (suc skip) [] = omega arith
count-drop (suc skip) (size ∷ sizes) = omega (arith, count-drop skip sizes, (count-bounds size (rows_of sizes)).0)

-- and at least one row, where the first that is left is another
pub count-drop_other : (skip : ℕ) (sizes : List ℕ) → skip < length sizes → get_or sizes 0 0 ≢ get_or sizes skip 0
    → length (rows_of (drop skip sizes)) + 1 ≤ length (rows_of sizes)
count-drop_other zero sizes inside other = absurd (other refl)
count-drop_other (suc skip) [] inside other = absurd (omega arith)
count-drop_other (suc skip) (size ∷ []) inside other = absurd (omega arith)
count-drop_other (suc skip) (size ∷ next ∷ sizes) inside other =
    elim (cases_eq size next) [
      | inl same ↦ omega (
        arith,
        count-drop_other skip (next ∷ sizes) (omega arith) (λ e. other (same ∙ e)),
        (count-bounds size (rows_of (next ∷ sizes))).0,
      )
      | inr new ↦ omega (
        arith,
        count-drop skip (next ∷ sizes),
        count-other size next (rows_of (next ∷ sizes)) (with_length-first next (rows_of sizes)) new,
      )
    ]
  where
    count-other : (size next : ℕ) (rows : List (ℕ × ℕ)) → FirstIs next rows → size ≢ next
        → length (with_length size rows) ≡ length rows + 1
    count-other size next [] first new = absurd first
    count-other size next (row ∷ rows) first new =
        ap length (cond-false (size == row.0) ((size, row.1 + 1) ∷ rows) ((size, 1) ∷ row ∷ rows)
        (ne_eqb size row.0 (λ e. new (e ∙ first)))) ∙ omega arith

pub count-some : (sizes : List ℕ) → 0 < length sizes → 0 < length (rows_of sizes)
count-some [] some = absurd (omega arith)
count-some (size ∷ sizes) some = go (with_length size (rows_of sizes)) (with_length-first size (rows_of sizes))
  where
    go : (rows : List (ℕ × ℕ)) → FirstIs size rows → 0 < length rows
    go [] first = absurd first
    go (row ∷ rows) first = omega arith

-- a run of equal needs is one row more at most
count-run : (times need : ℕ) (needs : List ℕ)
    → length (rows_of (replicate times need ++ needs)) ≤ length (rows_of needs) + 1
count-run zero need needs = omega arith
count-run (suc zero) need needs = (count-bounds need (rows_of needs)).1
count-run (suc (suc times)) need needs =
    omega (
      arith,
      count-run (suc times) need needs,
      count-same need (rows_of (replicate (suc times) need ++ needs))
          (with_length-first need (rows_of (replicate times need ++ needs))),
    )

-- the needs have as many rows as layers at most
pub count-needs : (layers : List LayerSize) → length (rows_of (needs_of layers)) ≤ length layers
count-needs [] = omega arith
count-needs (layer ∷ layers) =
    omega (arith, count-run (words_of layer) layer.need (needs_of layers), count-needs layers)
