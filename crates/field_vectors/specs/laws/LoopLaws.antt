-- For callers: the loops over the rows of a block, in any field.
use Rattle.std.proofs.Common.{◌≡◌, ℕ, suc, ◌+◌, ◌-◌, ◌*◌, ◌<◌, ◌≤◌, List, ◌∷◌, All, inl, inr, length, get_or, drop}
use Rattle.std.proofs.Common.{sym, ap, ap₂, ◌∙◌, arith}
use Rattle.std.proofs.Math.Seq.{drop-cons}
use Rattle.std.proofs.lemmas.Bool.{cases_lt}
use Rattle.std.proofs.lemmas.List.{drop_all, get_or_past}
use Rattle.field_elements.specs.Field.{IsField, Operations}
use Rattle.field_elements.specs.laws.FieldLaws.{times-zero}
use Rattle.pet_poly.specs.Value.{value}
use Rattle.pet_poly.specs.inside.Horner.{horner_from}
use Rattle.pet_poly.specs.laws.HornerLaws.{value_by_horner}
use Rattle.field_rows.specs.Columns.{column}
use Rattle.field_rows.specs.laws.ColumnLaws.{length-column, column_at, column_elements}

-- ---- Horner's rule, from the last row on

module _ {E : Type 0} (P : E → Type 0) (o : Operations E) (field : IsField P o) (rows : List E) (w k c : ℕ) (x : E)
    (whole : length rows ≡ k * w) (l : c < w) where
  abbrev z : E
  z = o.nought

  abbrev C : List E
  C = column z w k c rows

  pub horner_none : horner_from o z (drop k C) x ≡ z
  horner_none = ap (λ cs. horner_from o z cs x) (drop_all k C (omega (arith, length-column z w k c rows)))

  pub horner_next : (j : ℕ) → 0 < j → j ≤ k
      → o.plus (get_or rows ((j - 1) * w + c) z) (o.times x (horner_from o z (drop j C) x))
      ≡ horner_from o z (drop (j - 1) C) x
  horner_next j some few =
      let back : suc (j - 1) ≡ j = omega arith in
      let opened : drop (j - 1) C ≡ get_or rows ((j - 1) * w + c) z ∷ drop j C =
      drop-cons C (j - 1) z (omega (arith, length-column z w k c rows))
      ∙ ap₂ ◌∷◌ (column_at z z w k c (j - 1) rows (omega arith)) (ap (λ i. drop i C) back) in
      sym (ap (λ cs. horner_from o z cs x) opened)

  pub horner_done : (j : ℕ) → j ≡ 0 → All P rows → P x → horner_from o z (drop j C) x ≡ value o C x
  horner_done j e fit hx =
      ap (λ i. horner_from o z (drop i C) x) e
      ∙ value_by_horner P o field C x (column_elements P z w k c rows l (omega (arith, whole)) fit) hx

-- ---- a row whose multiple was added by vectors of 32 lanes, which may reach past it

module _ {E : Type 0} (P : E → Type 0) (o : Operations E) (field : IsField P o) (at : ℕ) (f : E) (row rows new : List E)
    (hf : P f) (fit : All P rows) (narrow : length row ≤ 32) (long : length new ≡ length rows)
    (inside : (i : ℕ) → i < 32 → at + i < length rows
    → get_or new (at + i) o.nought ≡ o.plus (get_or rows (at + i) o.nought) (o.times f (get_or row i o.nought)))
    (behind : (i : ℕ) → at + 32 ≤ i → get_or new i o.nought ≡ get_or rows i o.nought) where
  abbrev y : E
  y = o.nought

  pub row_added : at + length row ≤ length rows → (c : ℕ) → c < length row
      → get_or new (at + c) y ≡ o.plus (get_or rows (at + c) y) (o.times f (get_or row c y))
  row_added room c l = inside c (omega (arith, narrow)) (omega (arith, room))

  pub row_behind : (i : ℕ) → at + length row ≤ i → get_or new i y ≡ get_or rows i y
  row_behind i past =
      elim (cases_lt i (at + 32)) [
        | inr g ↦ behind i g
        | inl p ↦
            let e : at + (i - at) ≡ i = omega arith in
            let none : get_or row (i - at) y ≡ y = get_or_past row (i - at) y (omega arith) in
            elim (cases_lt i (length rows)) [
              | inl q ↦
                  ap (λ n. get_or new n y) (sym e) ∙ inside (i - at) (omega arith) (omega arith)
                  ∙ ap (λ t. o.plus (get_or rows (at + (i - at)) y) (o.times f t)) none
                  ∙ ap (o.plus (get_or rows (at + (i - at)) y)) (times-zero P o field f hf)
                  ∙ field.plus-zero (get_or rows (at + (i - at)) y) (fit (at + (i - at)) y (omega arith))
                  ∙ ap (λ n. get_or rows n y) e
              | inr q ↦ get_or_past new i y (omega (arith, long)) ∙ sym (get_or_past rows i y q)
            ]
      ]
