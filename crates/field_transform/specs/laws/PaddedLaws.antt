-- Zeros behind the coefficients change no value.
use Rattle.std.specs.Prelude.{slice_index_or}
use Rattle.std.proofs.Common.{◌≡◌, ◌≤◌, ◌<◌, ◌+◌, ◌-◌, ◌*◌, ℕ, zero, suc, List, [], ◌∷◌, ◌++◌, inl, inr, length}
use Rattle.std.proofs.Common.{replicate, refl, sym, ap, ap₂, ◌∙◌, arith}
use Rattle.std.proofs.lemmas.Bool.{cases_lt}
use Rattle.std.proofs.lemmas.List.{ext_get_or, get_or-append_right, get_or_append_left, get_or-replicate, length-append}
use Rattle.std.proofs.lemmas.List.{length-replicate}
use Rattle.field_elements.specs.Field.{Operations, IsField}
use Rattle.field_elements.specs.laws.FieldLaws as A
use Rattle.pet_poly.specs.Value.{power, value_from, value}
use Rattle.field_rows.specs.Columns.{column}
use Rattle.field_rows.specs.laws.ColumnLaws.{length-column, column_at}

module _ {E : Type 0} (P : E → Type 0) (o : Operations E) (f : IsField P o) where
  power_is : (x : E) (k : ℕ) → P x → P (power o x k)
  power_is x zero h = f.one_is
  power_is x (suc k) h = f.times_is x (power o x k) h (power_is x k h)

  zeros_from : (r k : ℕ) (x : E) → P x → value_from o x k (replicate r o.nought) ≡ o.nought
  zeros_from zero k x hx = refl
  zeros_from (suc r) k x hx =
      let p = power_is x k hx in
      ap₂ o.plus (f.times_comm o.nought (power o x k) f.zero_is p ∙ A.times-zero P o f (power o x k) p)
      (zeros_from r (suc k) x hx)
      ∙ f.plus-zero o.nought f.zero_is

  value_zeros : (cs : List E) (r k : ℕ) (x : E) → P x
      → value_from o x k (cs ++ replicate r o.nought) ≡ value_from o x k cs
  value_zeros [] r k x hx = zeros_from r k x hx
  value_zeros (c ∷ cs) r k x hx = ap (o.plus (o.times c (power o x k))) (value_zeros cs r (suc k) x hx)

  pub value_padded : (cs : List E) (r : ℕ) (x : E) → P x → value o (cs ++ replicate r o.nought) x ≡ value o cs x
  value_padded cs r x hx = value_zeros cs r 0 x hx

  -- a column that is zero from row k on
  padded_column : (w n k c : ℕ) (rows : List E) → c < w → k ≤ n
      → ((i : ℕ) → k ≤ i → i < n → slice_index_or rows (i * w + c) o.nought ≡ o.nought)
      → column o.nought w n c rows ≡ column o.nought w k c rows ++ replicate (n - k) o.nought
  padded_column w n k c rows l m zeros =
      let d = o.nought in
      let front = column d w k c rows in
      let nf : length front ≡ k = length-column d w k c rows in
      ext_get_or d (column d w n c rows) (front ++ replicate (n - k) d)
      (length-column d w n c rows
      ∙ sym (length-append front (replicate (n - k) d) ∙ omega (arith, nf, length-replicate {A = E} (n - k) d)))
      (λ i h.
      let r : i < n = omega (arith, length-column d w n c rows) in
      column_at d d w n c i rows r
      ∙ elim (cases_lt i k) [
        | inl s ↦ sym (get_or_append_left front (replicate (n - k) d) d i (omega arith) ∙ column_at d d w k c i rows s)
        | inr s ↦
            zeros i s r
            ∙ sym (get_or-append_right front (replicate (n - k) d) k i d nf s
            ∙ get_or-replicate (n - k) (i - k) d d (omega arith))
      ])

  -- its value is that of the first k rows
  pub padded_value : (w n k c : ℕ) (x : E) (rows : List E) → c < w → k ≤ n → P x
      → ((i : ℕ) → k ≤ i → i < n → slice_index_or rows (i * w + c) o.nought ≡ o.nought)
      → value o (column o.nought w n c rows) x ≡ value o (column o.nought w k c rows) x
  padded_value w n k c x rows l m hx zeros =
      ap (λ cs. value o cs x) (padded_column w n k c rows l m zeros)
      ∙ value_padded (column o.nought w k c rows) (n - k) x hx
