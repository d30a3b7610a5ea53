-- Horner's rule gives the value.
use Rattle.std.proofs.Common.{◌≡◌, ℕ, zero, suc, List, [], ◌∷◌, ◌++◌, All, refl, sym, ap, ap₂, ◌∙◌}
use Rattle.std.specs.List.{AllByRecursion as Each}
use Rattle.std.proofs.lemmas.List.Elements.{recursion_from_All}
use Rattle.field_elements.specs.Field.{Operations, IsField}
use Rattle.pet_poly.specs.Value.{power, value_from, value, value_monic}
use Rattle.field_elements.specs.laws.FieldLaws as A
use Rattle.pet_poly.specs.inside.Horner.{horner_from}

module _ {E : Type 0} (P : E → Type 0) (o : Operations E) (f : IsField P o) where
  pub horner_is : (t : E) (cs : List E) (x : E) → P t → Each P cs → P x → P (horner_from o t cs x)
  horner_is t [] x ht h hx = ht
  horner_is t (c ∷ cs) x ht h hx =
      f.plus_is c (o.times x (horner_from o t cs x)) h.0
      (f.times_is x (horner_from o t cs x) hx (horner_is t cs x ht h.1 hx))

  power_is : (x : E) (k : ℕ) → P x → P (power o x k)
  power_is x zero h = f.one_is
  power_is x (suc k) h = f.times_is x (power o x k) h (power_is x k h)

  value_from_is : (cs : List E) (x : E) (k : ℕ) → Each P cs → P x → P (value_from o x k cs)
  value_from_is [] x k h hx = f.zero_is
  value_from_is (c ∷ cs) x k h hx =
      f.plus_is (o.times c (power o x k)) (value_from o x (suc k) cs)
      (f.times_is c (power o x k) h.0 (power_is x k hx)) (value_from_is cs x (suc k) h.1 hx)

  value_from-suc : (cs : List E) (x : E) (k : ℕ) → Each P cs → P x
      → value_from o x (suc k) cs ≡ o.times x (value_from o x k cs)
  value_from-suc [] x k h hx = sym (A.times-zero P o f x hx)
  value_from-suc (c ∷ cs) x k h hx =
      let p = power_is x k hx in
      let rest = value_from_is cs x (suc k) h.1 hx in
      ap₂ o.plus (A.times_left_comm P o f c x (power o x k) h.0 hx p) (value_from-suc cs x (suc k) h.1 hx)
      ∙ sym (f.times-plus x (o.times c (power o x k)) (value_from o x (suc k) cs) hx
      (f.times_is c (power o x k) h.0 p) rest)

  -- the sum of the powers is what Horner's rule gives
  pub value_each : (cs : List E) (x : E) → Each P cs → P x → value o cs x ≡ horner_from o o.nought cs x
  value_each [] x h hx = refl
  value_each (c ∷ cs) x h hx =
      ap₂ o.plus (f.times-one c h.0) (value_from-suc cs x 0 h.1 hx ∙ ap (o.times x) (value_each cs x h.1 hx))

  pub value_by_horner : (cs : List E) (x : E) → All P cs → P x → horner_from o o.nought cs x ≡ value o cs x
  value_by_horner cs x h hx = sym (value_each cs x (recursion_from_All P cs h) hx)

  horner-one : (cs : List E) (x : E) → P x → horner_from o o.unit cs x ≡ horner_from o o.nought (cs ++ (o.unit ∷ [])) x
  horner-one [] x hx = sym (ap (o.plus o.unit) (A.times-zero P o f x hx) ∙ f.plus-zero o.unit f.one_is)
  horner-one (c ∷ cs) x hx = ap (λ y. o.plus c (o.times x y)) (horner-one cs x hx)

  each_monic : (cs : List E) → Each P cs → Each P (cs ++ (o.unit ∷ []))
  each_monic [] h = (f.one_is, tt)
  each_monic (c ∷ cs) h = (h.0, each_monic cs h.1)

  pub value_monic_by_horner : (cs : List E) (x : E) → All P cs → P x → horner_from o o.unit cs x ≡ value_monic o cs x
  value_monic_by_horner cs x h hx =
      horner-one cs x hx ∙ sym (value_each (cs ++ (o.unit ∷ [])) x (each_monic cs (recursion_from_All P cs h)) hx)

  pub value_is : (cs : List E) (x : E) → All P cs → P x → P (value o cs x)
  value_is cs x h hx =
      rw (sym (value_by_horner cs x h hx)) (horner_is o.nought cs x f.zero_is (recursion_from_All P cs h) hx)

  pub value_monic_is : (low : List E) (x : E) → All P low → P x → P (value_monic o low x)
  value_monic_is low x h hx =
      rw (sym (value_monic_by_horner low x h hx)) (horner_is o.unit low x f.one_is (recursion_from_All P low h) hx)
