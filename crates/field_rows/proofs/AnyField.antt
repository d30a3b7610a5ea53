-- The plain loop over the rows of a column.
use Rattle.std.proofs.Common.{◌≡◌, ℕ, suc, ◌+◌, ◌-◌, ◌*◌, ◌<◌, ◌≤◌, List, ◌∷◌, All, length, get_or, drop, sym, ap, ap₂}
use Rattle.std.proofs.Common.{◌∙◌, arith}
use Rattle.std.proofs.Math.Seq.{drop-cons}
use Rattle.std.proofs.lemmas.List.{drop_all, get_or_default}
use Rattle.std.proofs.lemmas.List.Elements.{recursion_from_All, All-drop}
use Rattle.field_elements.specs.Field.{Operations, IsField}
use Rattle.pet_poly.specs.Value.{value}
use Rattle.pet_poly.specs.inside.Horner.{horner_from}
use Rattle.pet_poly.specs.laws.HornerLaws.{value_by_horner}
use Rattle.pet_poly.specs.laws.HornerLaws as H
use Rattle.field_rows.specs.Columns.{column}
use Rattle.field_rows.specs.laws.ColumnLaws.{length-column, column_at, column_elements}

module _ {E : Type 0} (P : E → Type 0) (o : Operations E) (f : IsField P o) (rows : List E) (w k c : ℕ) (x : E)
    (whole : length rows ≡ k * w) (l : c < w) (h : All P rows) (hx : P x) where
  elements : All P (column o.nought w k c rows)
  elements = column_elements P o.nought w k c rows l (omega arith) h

  pub horner_is : (j : ℕ) → P (horner_from o o.nought (drop j (column o.nought w k c rows)) x)
  horner_is j =
      H.horner_is P o f o.nought (drop j (column o.nought w k c rows)) x f.zero_is
      (recursion_from_All P (drop j (column o.nought w k c rows)) (All-drop P j (column o.nought w k c rows) elements))
      hx

  pub start : o.nought ≡ horner_from o o.nought (drop k (column o.nought w k c rows)) x
  start =
      ap (λ cs. horner_from o o.nought cs x)
      (sym (drop_all k (column o.nought w k c rows) (omega (arith, length-column o.nought w k c rows))))

  pub next : (j : ℕ) (v e : E) → 0 < j → j ≤ k → v ≡ horner_from o o.nought (drop j (column o.nought w k c rows)) x
      → (j - 1) * w + c < length rows → e ≡ get_or rows ((j - 1) * w + c) e
      → o.plus (o.times v x) e ≡ horner_from o o.nought (drop (j - 1) (column o.nought w k c rows)) x
  next j v e some few is room read =
      let C : List E = column o.nought w k c rows in
      let back : suc (j - 1) ≡ j = omega arith in
      let hv : P v = rw is (horner_is j) in
      let read0 : e ≡ get_or rows ((j - 1) * w + c) o.nought =
      read ∙ get_or_default rows ((j - 1) * w + c) e o.nought room in
      let he : P e = rw read0 (h ((j - 1) * w + c) o.nought room) in
      let opened : drop (j - 1) C ≡ e ∷ drop j C =
      drop-cons C (j - 1) o.nought (omega (arith, length-column o.nought w k c rows))
      ∙ ap₂ ◌∷◌ (column_at o.nought o.nought w k c (j - 1) rows (omega arith) ∙ sym read0) (ap (λ i. drop i C) back) in
      f.plus_comm (o.times v x) e (f.times_is v x hv hx) he ∙ ap (o.plus e) (f.times_comm v x hv hx ∙ ap (o.times x) is)
      ∙ sym (ap (λ cs. horner_from o o.nought cs x) opened)

  pub done : (j : ℕ) (v : E) → j ≡ 0 → v ≡ horner_from o o.nought (drop j (column o.nought w k c rows)) x
      → v ≡ value o (column o.nought w k c rows) x
  done j v e is =
      is ∙ ap (λ i. horner_from o o.nought (drop i (column o.nought w k c rows)) x) e
      ∙ value_by_horner P o f (column o.nought w k c rows) x elements hx

-- ---- the elements of a list

pub all_from : {E : Type 0} (P : E → Type 0) (d : E) (xs : List E) → ((c : ℕ) → c < length xs → P (get_or xs c d))
    → All P xs
all_from P d xs h i e l = rw (get_or_default xs i e d l) (h i l)

pub entry_is : {E : Type 0} (P : E → Type 0) (d : E) (xs : List E) (i : ℕ) → i < length xs → All P xs
    → P (get_or xs i d)
entry_is P d xs i l h = h i d l
