-- For callers: the powers of an element, in any field, by how they begin and go on.
use Rattle.std.proofs.Common.{◌≡◌, ℕ, zero, suc, ◌+◌, sym, ap, ◌∙◌, arith}
use native.Mathlib.Nat.{zero-add}
use Rattle.field_elements.specs.Field.{IsField, Operations}

module _ {E : Type 0} (P : E → Type 0) (o : Operations E) (field : IsField P o) (x : E) (hx : P x) (power : ℕ → E)
    (first : power 0 ≡ o.unit) (next : (k : ℕ) → power (suc k) ≡ o.times x (power k)) where
  pub powers_are : (k : ℕ) → P (power k)
  powers_are zero = rw first field.one_is
  powers_are (suc k) = rw (next k) (field.times_is x (power k) hx (powers_are k))

  pub powers_add : (i j : ℕ) → power (i + j) ≡ o.times (power i) (power j)
  powers_add zero j =
      ap power (zero-add j)
      ∙ sym (ap (λ y. o.times y (power j)) first ∙ field.times_comm o.unit (power j) field.one_is (powers_are j)
      ∙ field.times-one (power j) (powers_are j))
  powers_add (suc i) j =
      let e : suc i + j ≡ suc (i + j) = omega arith in
      ap power e ∙ next (i + j) ∙ ap (o.times x) (powers_add i j)
      ∙ sym (field.times_assoc x (power i) (power j) hx (powers_are i) (powers_are j))
      ∙ ap (λ y. o.times y (power j)) (sym (next i))
