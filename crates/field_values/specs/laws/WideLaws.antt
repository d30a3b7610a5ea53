-- What callers may conclude about stripes side by side.
use Rattle.std.proofs.Common.{◌≡◌, ℕ, zero, suc, inl, inr, ◌-◌, ◌<◌, ◌≤◌, List, [], ◌∷◌, ◌++◌, length, get_or}
use Rattle.std.proofs.Common.{replicate, refl, sym, ap, ◌∙◌, arith}
use Rattle.std.proofs.lemmas.Bool.{cases_lt}
use Rattle.std.proofs.lemmas.List.{ext_get_or, get_or-append_right, get_or_append_left, get_or-replicate, length-append}
use Rattle.std.proofs.lemmas.List.{length-replicate}
use Rattle.field_elements.specs.Field.{Operations, IsField}
use Rattle.pet_poly.specs.Value.{value}
use Rattle.field_transform.specs.laws.PaddedLaws.{value_padded}
use Rattle.field_rows.specs.Columns.{column}
use Rattle.field_rows.specs.laws.ColumnLaws.{length-column, column_at}
use Rattle.field_values.specs.Wide.{AreSideBySide}

-- behind the end of a list there is nothing
pub past_end : {E : Type 0} (xs : List E) (i : ℕ) (d : E) → length xs ≤ i → get_or xs i d ≡ d
past_end [] i d l = refl
past_end (x ∷ xs) zero d l = absurd (omega arith)
past_end (x ∷ xs) (suc i) d l = past_end xs i d (omega arith)

-- column c is stripe c, and then `d`
pub column_is : {E : Type 0} (d : E) (size c : ℕ) (stripes : List (List E)) (rows : List E)
    → AreSideBySide d size stripes rows → c < length stripes
    → length (get_or stripes c []) ≤ size
    → column d (length stripes) size c rows ≡ get_or stripes c [] ++ replicate (size - length (get_or stripes c [])) d
column_is d size c stripes rows h l short =
    let w = length stripes in
    let stripe = get_or stripes c [] in
    let k = length stripe in
    ext_get_or d (column d w size c rows) (stripe ++ replicate (size - k) d)
    (length-column d w size c rows
    ∙ sym (length-append stripe (replicate (size - k) d) ∙ omega (arith, length-replicate (size - k) d)))
    (λ i m.
    let r : i < size = omega (arith, length-column d w size c rows) in
    column_at d d w size c i rows r ∙ h.each i c r l
    ∙ elim (cases_lt i k) [
      | inl s ↦ sym (get_or_append_left stripe (replicate (size - k) d) d i s)
      | inr s ↦
          past_end stripe i d s
          ∙ sym (get_or-append_right stripe (replicate (size - k) d) k i d refl s
          ∙ get_or-replicate (size - k) (i - k) d d (omega arith))
    ])

module _ {E : Type 0} (P : E → Type 0) (o : Operations E) (f : IsField P o) where
  -- the value of a column is that of the stripe
  pub value_is_stripe : (size c : ℕ) (stripes : List (List E)) (rows : List E) (x : E)
      → AreSideBySide o.nought size stripes rows → c < length stripes
      → length (get_or stripes c []) ≤ size → P x
      → value o (column o.nought (length stripes) size c rows) x ≡ value o (get_or stripes c []) x
  value_is_stripe size c stripes rows x h l short hx =
      ap (λ cs. value o cs x) (column_is o.nought size c stripes rows h l short)
      ∙ value_padded P o f (get_or stripes c []) (size - length (get_or stripes c [])) x hx
