-- Dividing a polynomial by X less an element leaves the value there (textbook).
use Rattle.std.proofs.Common.{◌≡◌, suc, List, [], ◌∷◌, length, refl, sym, ap, ap₂, ◌∙◌}
use Rattle.std.specs.List.{AllByRecursion as Each}
use Rattle.field_elements.specs.Field.{Operations, IsField}
use Rattle.pet_poly.specs.inside.Horner.{horner_from}
use Rattle.pet_poly.specs.laws.HornerLaws as H
use Rattle.field_elements.specs.laws.FieldLaws as A

-- the quotient by X - r, without the remainder
abbrev pub quotient : {E : Type 0} → Operations E → List E → E → List E
quotient o [] r = []
quotient o (c ∷ cs) r = horner_from o o.nought (c ∷ cs) r ∷ quotient o cs r

pub length-quotient : {E : Type 0} (o : Operations E) (cs : List E) (r : E) → length (quotient o cs r) ≡ length cs
length-quotient o [] r = refl
length-quotient o (c ∷ cs) r = ap suc (length-quotient o cs r)

module _ {E : Type 0} (P : E → Type 0) (o : Operations E) (f : IsField P o) where
  pub horner_is : (cs : List E) (x : E) → Each P cs → P x → P (horner_from o o.nought cs x)
  horner_is cs x h hx = H.horner_is P o f o.nought cs x f.zero_is h hx

  pub quotient_is : (cs : List E) (r : E) → Each P cs → P r → Each P (quotient o cs r)
  quotient_is [] r h hr = tt
  quotient_is (c ∷ cs) r h hr = (horner_is (c ∷ cs) r h hr, quotient_is cs r h.1 hr)

  -- x (v + d w) is r v + d (v + x w), where d is x - r
  pub shift : (x r v w : E) → P x → P r → P v → P w
      → o.times x (o.plus v (o.times (o.minus x r) w))
      ≡ o.plus (o.times r v) (o.times (o.minus x r) (o.plus v (o.times x w)))
  shift x r v w hx hr hv hw =
      let d = o.minus x r in
      let hd : P d = f.minus_is x r hx hr in
      let dv : P (o.times d v) = f.times_is d v hd hv in
      let rv : P (o.times r v) = f.times_is r v hr hv in
      let xw : P (o.times x w) = f.times_is x w hx hw in
      let dxw : P (o.times d (o.times x w)) = f.times_is d (o.times x w) hd xw in
      let xv : o.times x v ≡ o.plus (o.times r v) (o.times d v) =
      ap (λ y. o.times y v) (sym (f.minus-plus x r hx hr)) ∙ A.plus-times P o f d r v hd hr hv
      ∙ f.plus_comm (o.times d v) (o.times r v) dv rv in
      f.times-plus x v (o.times d w) hx hv (f.times_is d w hd hw)
      ∙ ap₂ o.plus xv (A.times_left_comm P o f x d w hx hd hw)
      ∙ f.plus_assoc (o.times r v) (o.times d v) (o.times d (o.times x w)) rv dv dxw
      ∙ ap (o.plus (o.times r v)) (sym (f.times-plus d v (o.times x w) hd hv xw))

  -- dividing by X - r leaves the value at r
  pub divided : (c : E) (cs : List E) (x r : E) → Each P (c ∷ cs) → P x → P r
      → horner_from o o.nought (c ∷ cs) x
      ≡ o.plus (horner_from o o.nought (c ∷ cs) r) (o.times (o.minus x r) (horner_from o o.nought (quotient o cs r) x))
  divided c [] x r h hx hr =
      let e : (y : E) → P y
      → horner_from o o.nought (c ∷ []) y ≡ c = λ y hy. ap (o.plus c) (A.times-zero P o f y hy) ∙ f.plus-zero c h.0 in
      e x hx ∙ sym (ap₂ o.plus (e r hr) (A.times-zero P o f (o.minus x r) (f.minus_is x r hx hr)) ∙ f.plus-zero c h.0)
  divided c (b ∷ bs) x r h hx hr =
      let v = horner_from o o.nought (b ∷ bs) r in
      let w = horner_from o o.nought (quotient o bs r) x in
      let hv : P v = horner_is (b ∷ bs) r h.1 hr in
      let hw : P w = horner_is (quotient o bs r) x (quotient_is bs r h.1.1 hr) hx in
      let d = o.minus x r in
      let hd : P d = f.minus_is x r hx hr in
      ap (λ y. o.plus c (o.times x y)) (divided b bs x r h.1 hx hr)
      ∙ ap (o.plus c) (shift x r v w hx hr hv hw)
      ∙ sym (f.plus_assoc c (o.times r v) (o.times d (o.plus v (o.times x w))) h.0 (f.times_is r v hr hv)
      (f.times_is d (o.plus v (o.times x w)) hd (f.plus_is v (o.times x w) hv (f.times_is x w hx hw))))
