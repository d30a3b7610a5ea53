-- What the lists that are written in place mean, for all who compute over a field: their values.
use Rattle.std.proofs.Common.{◌≡◌, ◌<◌, ◌≤◌, ◌+◌, ◌++◌, ℕ, take, drop, suc, List, [], ◌∷◌, All, length, refl, sym, ap}
use Rattle.std.proofs.Common.{ap₂, ◌∙◌, arith}
use Rattle.std.specs.List.{AllByRecursion as Each}
use Rattle.std.proofs.lemmas.List.Elements.{recursion_from_All, All-from_recursion}
use Rattle.std.proofs.Math.Seq.{take-append_seam}
use Rattle.std.proofs.lemmas.List.{length-take-le}
use Rattle.field_elements.specs.Field.{Operations, IsField}
use Rattle.pet_poly.specs.Value.{value, value_monic}
use Rattle.pet_poly.specs.InPlace.{scaled_sum, linear_product_from, linear_product}
use Rattle.pet_poly.specs.inside.Horner.{horner_from}
use Rattle.pet_poly.specs.laws.HornerLaws as H
use Rattle.pet_poly.specs.laws.Quotient as Q
use Rattle.field_elements.specs.laws.FieldLaws as A

pub length-scaled_sum : {E : Type 0} (o : Operations E) (by : E) (xs ys : List E)
    → length (scaled_sum o by xs ys) ≡ length xs
length-scaled_sum o by xs [] = refl
length-scaled_sum o by [] (y ∷ ys) = refl
length-scaled_sum o by (x ∷ xs) (y ∷ ys) = ap suc (length-scaled_sum o by xs ys)

pub length-linear_from : {E : Type 0} (o : Operations E) (low : List E) (x b : E)
    → length (linear_product_from o x b low) ≡ suc (length low)
length-linear_from o [] x b = refl
length-linear_from o (c ∷ low) x b = ap suc (length-linear_from o low x c)

pub length-linear_product : {E : Type 0} (o : Operations E) (x : E) (low : List E)
    → length (linear_product o x low) ≡ suc (length low)
length-linear_product o x low = length-linear_from o low x o.nought

-- the lower coefficients of the product stand in front
pub linear_front : {E : Type 0} (o : Operations E) (x : E) (old new : List E) (d : ℕ) → d < length old
    → new ≡ linear_product o x (take d old) ++ drop (d + 1) old
    → take (d + 1) new ≡ linear_product o x (take d old)
linear_front o x old new d l e =
    let n : length (linear_product o x (take d old)) ≡ d + 1 =
    length-linear_product o x (take d old) ∙ omega (arith, length-take-le d old (omega arith)) in
    ap (take (d + 1)) e ∙ ap (λ k. take k (linear_product o x (take d old) ++ drop (d + 1) old)) (sym n)
    ∙ take-append_seam (linear_product o x (take d old)) (drop (d + 1) old)

module _ {E : Type 0} (P : E → Type 0) (o : Operations E) (f : IsField P o) where
  -- ---- the scaled sum

  scaled_each : (by : E) (xs ys : List E) → P by → Each P xs → Each P ys → Each P (scaled_sum o by xs ys)
  scaled_each by xs [] hb h g = h
  scaled_each by [] (y ∷ ys) hb h g = tt
  scaled_each by (x ∷ xs) (y ∷ ys) hb h g =
      (f.plus_is x (o.times by y) h.0 (f.times_is by y hb g.0), scaled_each by xs ys hb h.1 g.1)

  pub scaled_sum_is : (by : E) (xs ys : List E) → P by → All P xs → All P ys → All P (scaled_sum o by xs ys)
  scaled_sum_is by xs ys hb h g =
      All-from_recursion P (scaled_sum o by xs ys)
      (scaled_each by xs ys hb (recursion_from_All P xs h) (recursion_from_All P ys g))

  scaled_horner : (by : E) (xs ys : List E) (z : E) → length ys ≤ length xs → P by → Each P xs → Each P ys → P z
      → horner_from o o.nought (scaled_sum o by xs ys) z
      ≡ o.plus (horner_from o o.nought xs z) (o.times by (horner_from o o.nought ys z))
  scaled_horner by xs [] z l hb h g hz =
      sym (ap (o.plus (horner_from o o.nought xs z)) (A.times-zero P o f by hb)
      ∙ f.plus-zero (horner_from o o.nought xs z) (H.horner_is P o f o.nought xs z f.zero_is h hz))
  scaled_horner by [] (y ∷ ys) z l hb h g hz = absurd (omega arith)
  scaled_horner by (x ∷ xs) (y ∷ ys) z l hb h g hz =
      let n = horner_from o o.nought xs z in
      let m = horner_from o o.nought ys z in
      let hn : P n = H.horner_is P o f o.nought xs z f.zero_is h.1 hz in
      let hm : P m = H.horner_is P o f o.nought ys z f.zero_is g.1 hz in
      let zn : P (o.times z n) = f.times_is z n hz hn in
      let zm : P (o.times z m) = f.times_is z m hz hm in
      ap (λ t. o.plus (o.plus x (o.times by y)) (o.times z t)) (scaled_horner by xs ys z (omega arith) hb h.1 g.1 hz)
      ∙ ap (o.plus (o.plus x (o.times by y)))
      (f.times-plus z n (o.times by m) hz hn (f.times_is by m hb hm)
      ∙ ap (o.plus (o.times z n)) (A.times_left_comm P o f z by m hz hb hm))
      ∙ A.plus_swap P o f x (o.times by y) (o.times z n) (o.times by (o.times z m)) h.0 (f.times_is by y hb g.0) zn
      (f.times_is by (o.times z m) hb zm)
      ∙ ap (o.plus (o.plus x (o.times z n))) (sym (f.times-plus by y (o.times z m) hb g.0 zm))

  pub scaled_sum_value : (by : E) (xs ys : List E) (z : E) → length ys ≤ length xs → P by → All P xs → All P ys → P z
      → value o (scaled_sum o by xs ys) z ≡ o.plus (value o xs z) (o.times by (value o ys z))
  scaled_sum_value by xs ys z l hb h g hz =
      sym (H.value_by_horner P o f (scaled_sum o by xs ys) z (scaled_sum_is by xs ys hb h g) hz)
      ∙ scaled_horner by xs ys z l hb (recursion_from_All P xs h) (recursion_from_All P ys g) hz
      ∙ ap₂ (λ a b. o.plus a (o.times by b)) (H.value_by_horner P o f xs z h hz) (H.value_by_horner P o f ys z g hz)

  -- ---- the product with X - x

  -- (b - x n) + y (n + d m) is b + d (n + y m), where d is y - x
  pub linear_step : (x y b n m : E) → P x → P y → P b → P n → P m
      → o.plus (o.minus b (o.times x n)) (o.times y (o.plus n (o.times (o.minus y x) m)))
      ≡ o.plus b (o.times (o.minus y x) (o.plus n (o.times y m)))
  linear_step x y b n m hx hy hb hn hm =
      let d = o.minus y x in
      let xn : P (o.times x n) = f.times_is x n hx hn in
      let all : o.times y (o.plus n (o.times d m)) ≡ o.plus (o.times x n) (o.times d (o.plus n (o.times y m))) =
      Q.shift P o f y x n m hy hx hn hm in
      let rest : P (o.times d (o.plus n (o.times y m))) =
      f.times_is d (o.plus n (o.times y m)) (f.minus_is y x hy hx)
      (f.plus_is n (o.times y m) hn (f.times_is y m hy hm)) in
      ap (o.plus (o.minus b (o.times x n))) all
      ∙ sym (f.plus_assoc (o.minus b (o.times x n)) (o.times x n) (o.times d (o.plus n (o.times y m)))
      (f.minus_is b (o.times x n) hb xn) xn rest)
      ∙ ap (λ z. o.plus z (o.times d (o.plus n (o.times y m)))) (f.minus-plus b (o.times x n) hb xn)

  linear_value : (cs : List E) (b x y : E) → P b → P x → P y → Each P cs
      → horner_from o o.unit (linear_product_from o x b cs) y
      ≡ o.plus b (o.times (o.minus y x) (horner_from o o.unit cs y))
  linear_value [] b x y hb hx hy h =
      let d = o.minus y x in
      let hd : P d = f.minus_is y x hy hx in
      let e : o.times y o.unit ≡ o.plus x (o.times d o.unit) =
      f.times-one y hy ∙ sym (f.minus-plus y x hy hx) ∙ f.plus_comm d x hd hx
      ∙ ap (o.plus x) (sym (f.times-one d hd)) in
      ap (o.plus (o.minus b x)) e
      ∙ sym (f.plus_assoc (o.minus b x) x (o.times d o.unit) (f.minus_is b x hb hx) hx
      (f.times_is d o.unit hd f.one_is))
      ∙ ap (λ z. o.plus z (o.times d o.unit)) (f.minus-plus b x hb hx)
  linear_value (c ∷ cs) b x y hb hx hy h =
      ap (λ z. o.plus (o.minus b (o.times x c)) (o.times y z)) (linear_value cs c x y h.0 hx hy h.1)
      ∙ linear_step x y b c (horner_from o o.unit cs y) hx hy hb h.0 (H.horner_is P o f o.unit cs y f.one_is h.1 hy)

  pub linear_from_is : (cs : List E) (b x : E) → P b → P x → Each P cs → Each P (linear_product_from o x b cs)
  linear_from_is [] b x hb hx h = (f.minus_is b x hb hx, tt)
  linear_from_is (c ∷ cs) b x hb hx h =
      (f.minus_is b (o.times x c) hb (f.times_is x c hx h.0), linear_from_is cs c x h.0 hx h.1)

  pub linear_product_is : (x : E) (low : List E) → P x → All P low → All P (linear_product o x low)
  linear_product_is x low hx h =
      All-from_recursion P (linear_product o x low)
      (linear_from_is low o.nought x f.zero_is hx (recursion_from_All P low h))

  pub linear_product_value : (x : E) (low : List E) (y : E) → P x → All P low → P y
      → value_monic o (linear_product o x low) y ≡ o.times (o.minus y x) (value_monic o low y)
  linear_product_value x low y hx h hy =
      let each = recursion_from_All P low h in
      let d = o.minus y x in
      let m = horner_from o o.unit low y in
      let dm : P (o.times d m) = f.times_is d m (f.minus_is y x hy hx)
      (H.horner_is P o f o.unit low y f.one_is each hy) in
      sym (H.value_monic_by_horner P o f (linear_product o x low) y (linear_product_is x low hx h) hy)
      ∙ linear_value low o.nought x y f.zero_is hx hy each ∙ A.zero-plus P o f (o.times d m) dm
      ∙ ap (o.times d) (H.value_monic_by_horner P o f low y h hy)
