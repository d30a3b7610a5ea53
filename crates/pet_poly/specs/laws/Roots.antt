-- The law of the crate, for all who compute over a field: two lists of k elements with equal values at k distinct
-- points are
-- equal. A list with k roots is divided by X less a root, and so on until no coefficient is left (textbook).
use Rattle.std.proofs.Common.{◌≡◌, ◌≢◌, suc, pred, List, [], ◌∷◌, All, length, refl, sym, ap, ap₂, ◌∙◌}
use Rattle.std.specs.List.{AllByRecursion as Each}
use Rattle.std.proofs.lemmas.List.Elements.{recursion_from_All}
use Rattle.field_elements.specs.Field.{Operations, IsField}
use Rattle.pet_poly.specs.Value.{value, AreDistinct}
use Rattle.pet_poly.specs.inside.Horner.{horner_from}
use Rattle.pet_poly.specs.laws.HornerLaws as H
use Rattle.pet_poly.specs.laws.Quotient.{quotient, length-quotient}
use Rattle.pet_poly.specs.laws.Quotient as Q
use Rattle.field_elements.specs.laws.FieldLaws as A

abbrev difference : {E : Type 0} → Operations E → List E → List E → List E
difference o [] ds = []
difference o (c ∷ cs) [] = []
difference o (c ∷ cs) (d ∷ ds) = o.minus c d ∷ difference o cs ds

module _ {E : Type 0} (P : E → Type 0) (o : Operations E) (f : IsField P o) where
  zero_from_quotient : (c : E) (cs : List E) (r : E) → Each P (c ∷ cs) → P r
      → horner_from o o.nought (c ∷ cs) r ≡ o.nought
      → Each (λ y. y ≡ o.nought) (quotient o cs r) → Each (λ y. y ≡ o.nought) (c ∷ cs)
  zero_from_quotient c [] r h hr e q = (sym (ap (o.plus c) (A.times-zero P o f r hr) ∙ f.plus-zero c h.0) ∙ e, tt)
  zero_from_quotient c (b ∷ bs) r h hr e q = (
    sym (ap (λ y. o.plus c (o.times r y)) q.0 ∙ ap (o.plus c) (A.times-zero P o f r hr) ∙ f.plus-zero c h.0) ∙ e,
    zero_from_quotient b bs r h.1 hr q.0 q.1,
  )

  root_of_quotient : (c : E) (cs : List E) (x r : E) → Each P (c ∷ cs) → P x → P r → r ≢ x
      → horner_from o o.nought (c ∷ cs) r ≡ o.nought → horner_from o o.nought (c ∷ cs) x ≡ o.nought
      → horner_from o o.nought (quotient o cs r) x ≡ o.nought
  root_of_quotient c cs x r h hx hr ne er ex =
      let d = o.minus x r in
      let w = horner_from o o.nought (quotient o cs r) x in
      let hd : P d = f.minus_is x r hx hr in
      let hw : P w = Q.horner_is P o f (quotient o cs r) x (Q.quotient_is P o f cs r h.1 hr) hx in
      let dw : P (o.times d w) = f.times_is d w hd hw in
      let e : o.times d w ≡ o.nought =
      sym (A.zero-plus P o f (o.times d w) dw) ∙ ap (λ y. o.plus y (o.times d w)) (sym er)
      ∙ sym (Q.divided P o f c cs x r h hx hr) ∙ ex in
      A.no_zero_divisors P o f d w hd hw (λ z. ne (sym (A.minus-zero P o f x r hx hr z))) e

  roots_of_quotient : (xs : List E) (c : E) (cs : List E) (r : E) → Each P (c ∷ cs) → P r
      → horner_from o o.nought (c ∷ cs) r ≡ o.nought → Each P xs → Each (λ x. r ≢ x) xs
      → Each (λ x. horner_from o o.nought (c ∷ cs) x ≡ o.nought) xs
      → Each (λ x. horner_from o o.nought (quotient o cs r) x ≡ o.nought) xs
  roots_of_quotient [] c cs r h hr er hx ne ex = tt
  roots_of_quotient (x ∷ xs) c cs r h hr er hx ne ex =
      (root_of_quotient c cs x r h hx.0 hr ne.0 er ex.0, roots_of_quotient xs c cs r h hr er hx.1 ne.1 ex.1)

  roots : (xs cs : List E) → length cs ≡ length xs → Each P cs → Each P xs → AreDistinct xs
      → Each (λ x. horner_from o o.nought cs x ≡ o.nought) xs → Each (λ c. c ≡ o.nought) cs
  roots [] [] k h hx ne ex = tt
  roots [] (c ∷ cs) k h hx ne ex = absurd (cc)
  roots (r ∷ rs) [] k h hx ne ex = tt
  roots (r ∷ rs) (c ∷ cs) k h hx ne ex =
      let others = recursion_from_All (λ y. r ≢ y) rs ne.0 in
      zero_from_quotient c cs r h hx.0 ex.0
      (roots rs (quotient o cs r) (length-quotient o cs r ∙ ap pred k) (Q.quotient_is P o f cs r h.1 hx.0) hx.1 ne.1
      (roots_of_quotient rs c cs r h hx.0 ex.0 hx.1 others ex.1))

  difference_is : (cs ds : List E) → Each P cs → Each P ds → Each P (difference o cs ds)
  difference_is [] ds h g = tt
  difference_is (c ∷ cs) [] h g = tt
  difference_is (c ∷ cs) (d ∷ ds) h g = (f.minus_is c d h.0 g.0, difference_is cs ds h.1 g.1)

  difference_value : (cs ds : List E) (x : E) → length cs ≡ length ds → Each P cs → Each P ds → P x
      → o.plus (horner_from o o.nought (difference o cs ds) x) (horner_from o o.nought ds x)
      ≡ horner_from o o.nought cs x
  difference_value [] [] x k h g hx = f.plus-zero o.nought f.zero_is
  difference_value [] (d ∷ ds) x k h g hx = absurd (cc)
  difference_value (c ∷ cs) [] x k h g hx = absurd (cc)
  difference_value (c ∷ cs) (d ∷ ds) x k h g hx =
      let s = horner_from o o.nought (difference o cs ds) x in
      let t = horner_from o o.nought ds x in
      let hs : P s = Q.horner_is P o f (difference o cs ds) x (difference_is cs ds h.1 g.1) hx in
      let ht : P t = Q.horner_is P o f ds x g.1 hx in
      A.plus_swap P o f (o.minus c d) (o.times x s) d (o.times x t) (f.minus_is c d h.0 g.0) (f.times_is x s hx hs) g.0
      (f.times_is x t hx ht)
      ∙ ap₂ o.plus (f.minus-plus c d h.0 g.0)
      (sym (f.times-plus x s t hx hs ht) ∙ ap (o.times x) (difference_value cs ds x (ap pred k) h.1 g.1 hx))

  length-difference : (cs ds : List E) → length cs ≡ length ds → length (difference o cs ds) ≡ length cs
  length-difference [] ds k = refl
  length-difference (c ∷ cs) [] k = absurd (cc)
  length-difference (c ∷ cs) (d ∷ ds) k = ap suc (length-difference cs ds (ap pred k))

  equal_from_difference : (cs ds : List E) → length cs ≡ length ds → Each P cs → Each P ds
      → Each (λ c. c ≡ o.nought) (difference o cs ds) → cs ≡ ds
  equal_from_difference [] [] k h g z = refl
  equal_from_difference [] (d ∷ ds) k h g z = absurd (cc)
  equal_from_difference (c ∷ cs) [] k h g z = absurd (cc)
  equal_from_difference (c ∷ cs) (d ∷ ds) k h g z =
      ap₂ ◌∷◌ (A.minus-zero P o f c d h.0 g.0 z.0) (equal_from_difference cs ds (ap pred k) h.1 g.1 z.1)

  difference_roots : (xs cs ds : List E) → length cs ≡ length ds → Each P cs → Each P ds → Each P xs
      → Each (λ x. horner_from o o.nought cs x ≡ horner_from o o.nought ds x) xs
      → Each (λ x. horner_from o o.nought (difference o cs ds) x ≡ o.nought) xs
  difference_roots [] cs ds k h g hx e = tt
  difference_roots (x ∷ xs) cs ds k h g hx e =
      let s = horner_from o o.nought (difference o cs ds) x in
      let t = horner_from o o.nought ds x in
      let hs : P s = Q.horner_is P o f (difference o cs ds) x (difference_is cs ds h g) hx.0 in
      let ht : P t = Q.horner_is P o f ds x g hx.0 in (
        A.plus_cancel P o f s o.nought t hs f.zero_is ht
            (difference_value cs ds x k h g hx.0 ∙ e.0 ∙ sym (A.zero-plus P o f t ht)),
        difference_roots xs cs ds k h g hx.1 e.1,
      )

  horner_determines : (xs cs ds : List E) → length cs ≡ length xs → length ds ≡ length xs → Each P cs → Each P ds
      → Each P xs → AreDistinct xs
      → Each (λ x. horner_from o o.nought cs x ≡ horner_from o o.nought ds x) xs → cs ≡ ds
  horner_determines xs cs ds k l h g hx ne e =
      let m : length cs ≡ length ds = k ∙ sym l in
      equal_from_difference cs ds m h g
      (roots xs (difference o cs ds) (length-difference cs ds m ∙ k) (difference_is cs ds h g) hx ne
      (difference_roots xs cs ds m h g hx e))

  same_values : (xs cs ds : List E) → Each P cs → Each P ds → Each P xs → Each (λ x. value o cs x ≡ value o ds x) xs
      → Each (λ x. horner_from o o.nought cs x ≡ horner_from o o.nought ds x) xs
  same_values [] cs ds h g hx e = tt
  same_values (x ∷ xs) cs ds h g hx e =
      (sym (H.value_each P o f cs x h hx.0) ∙ e.0 ∙ H.value_each P o f ds x g hx.0, same_values xs cs ds h g hx.1 e.1)

  pub value_determines : (xs cs ds : List E) → length cs ≡ length xs → length ds ≡ length xs → All P cs → All P ds
      → All P xs → AreDistinct xs
      → All (λ x. value o cs x ≡ value o ds x) xs → cs ≡ ds
  value_determines xs cs ds k l h g hx ne e =
      let hc = recursion_from_All P cs h in
      let hd = recursion_from_All P ds g in
      let hp = recursion_from_All P xs hx in
      horner_determines xs cs ds k l hc hd hp ne
      (same_values xs cs ds hc hd hp (recursion_from_All (λ x. value o cs x ≡ value o ds x) xs e))
