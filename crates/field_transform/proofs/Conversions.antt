-- The conversion keeps the value at each point.
use Rattle.std.proofs.Common.{◌≡◌, ◌<◌, ◌≤◌, ◌+◌, ◌++◌, ℕ, zero, suc, List, [], ◌∷◌, refl, sym, ap, ap₂, ◌∙◌, arith}
use Rattle.std.proofs.Common.{inl, inr}
use Rattle.std.specs.List.{AllByRecursion as Each}
use Rattle.std.proofs.lemmas.Bool.{cases_lt}
use Rattle.field_elements.specs.Field.{Operations, IsField}
use Rattle.pet_poly.specs.Value.{value}
use Rattle.pet_poly.specs.inside.Horner.{horner_from}
use Rattle.pet_poly.specs.laws.HornerLaws as Ho
use Rattle.field_elements.specs.laws.FieldLaws as A
use Rattle.field_transform.specs.Basis.{next_hat, hats, squared, value_in_basis}
use Rattle.field_transform.specs.Subspaces.{AreFactors}
use Rattle.field_transform.specs.inside.Trees.{Tree, flat, add, each, expanded, scaled, up, converted}
use Rattle.field_transform.proofs.Leaves.{Holds, weighed}
use Rattle.field_transform.proofs.Places.{halves}
use Rattle.field_transform.proofs.Readings.{trees_read, square_plus, squared_is, squared_times, expanded_value}
use Rattle.field_transform.proofs.Readings.{scaled_value}
use Rattle.field_transform.proofs.Flights.{AreHats, reads, elements_read, each_append}

module _ {E : Type 0} (P : E → Type 0) (o : Operations E) (f : IsField P o)
    (two : (a : E) → P a → o.plus a a ≡ o.nought)
    (b : ℕ → E) (m : ℕ) (g inverse : ℕ → E) (F : AreFactors P o b m g inverse) where
  abbrev hat : ℕ → E → E
  hat n x = hats o inverse n x

  next_sum : (i x y : E) → P i → P x → P y → next_hat o i (o.plus x y) ≡ o.plus (next_hat o i x) (next_hat o i y)
  next_sum i x y hi hx hy =
      let xx : P (o.times x x) = f.times_is x x hx hx in
      let yy : P (o.times y y) = f.times_is y y hy hy in
      ap (λ z. o.times i (o.plus z (o.plus x y))) (square_plus P o f two x y hx hy)
      ∙ ap (o.times i) (A.plus_swap P o f (o.times x x) (o.times y y) x y xx yy hx hy)
      ∙ f.times-plus i (o.plus (o.times x x) x) (o.plus (o.times y y) y) hi (f.plus_is (o.times x x) x xx hx)
      (f.plus_is (o.times y y) y yy hy)

  next_is : (i x : E) → P i → P x → P (next_hat o i x)
  next_is i x hi hx = f.times_is i (o.plus (o.times x x) x) hi (f.plus_is (o.times x x) x (f.times_is x x hx hx) hx)

  hat_is : (n : ℕ) (x : E) → n < m → P x → P (hat n x)
  hat_is zero x l hx = hx
  hat_is (suc n) x l hx = next_is (inverse n) (hat n x) (F.inverse_is n l) (hat_is n x (omega arith) hx)

  hat_sum : (n : ℕ) (x y : E) → n < m → P x → P y → hat n (o.plus x y) ≡ o.plus (hat n x) (hat n y)
  hat_sum zero x y l hx hy = refl
  hat_sum (suc n) x y l hx hy =
      ap (next_hat o (inverse n)) (hat_sum n x y (omega arith) hx hy)
      ∙ next_sum (inverse n) (hat n x) (hat n y) (F.inverse_is n l) (hat_is n x (omega arith) hx)
      (hat_is n y (omega arith) hy)

  next_zero : (i h : E) → P i → P h → o.times h h ≡ h → next_hat o i h ≡ o.nought
  next_zero i h hi hh e = ap (λ z. o.times i (o.plus z h)) e ∙ ap (o.times i) (two h hh) ∙ A.times-zero P o f i hi

  hat_here : (n : ℕ) → n < m → hat n (b n) ≡ o.unit
  hat_here zero l = F.first
  hat_here (suc n) l = F.one n l

  hat_below : (n i : ℕ) → n < m → i < n → hat n (b i) ≡ o.nought
  hat_below zero i l k = absurd (omega arith)
  hat_below (suc n) i l k =
      elim (cases_lt i n) [
        | inl s ↦
            ap (next_hat o (inverse n)) (hat_below n i (omega arith) s)
            ∙ next_zero (inverse n) o.nought (F.inverse_is n l) f.zero_is (A.times-zero P o f o.nought f.zero_is)
        | inr s ↦
            let e : i ≡ n = omega arith in
            ap (λ j. next_hat o (inverse n) (hat n (b j))) e ∙ ap (next_hat o (inverse n)) (hat_here n (omega arith))
            ∙ next_zero (inverse n) o.unit (F.inverse_is n l) f.one_is (f.times-one o.unit f.one_is)
      ]

  pub are_hats : AreHats P o b m hat
  are_hats = record { base = F.base; is = hat_is; sum = hat_sum; below = hat_below; here = hat_here }

  -- the square of a hat and the hat are a multiple of the next
  pub hat_step : (n : ℕ) (x : E) → suc n < m → P x
      → o.plus (o.times (hat n x) (hat n x)) (hat n x) ≡ o.times (g n) (hat (suc n) x)
  hat_step n x l hx =
      let h = hat n x in
      let hh : P h = hat_is n x (omega arith) hx in
      let s = o.plus (o.times h h) h in
      let hs : P s = f.plus_is (o.times h h) h (f.times_is h h hh hh) hh in
      sym (f.times_comm o.unit s f.one_is hs ∙ f.times-one s hs) ∙ ap (λ z. o.times z s) (sym (F.inverts n l))
      ∙ f.times_assoc (g n) (inverse n) s (F.factor_is n l) (F.inverse_is n l) hs

  -- ---- the conversion

  abbrev pub at_point : (n : ℕ) → Tree E n → E → E
  at_point n t x = weighed o (λ a. a) (λ i. hats o inverse i x) n t

  expanded_ok : (j n : ℕ) (t : Tree (Tree E j) (suc n)) → j < m → Holds (Holds P j) (suc n) t
      → Holds (Holds P (suc j)) n (expanded (add o.plus j) n t)
  expanded_ok j zero t l h = h
  expanded_ok j (suc n) t l h =
      let R = reads P o f two b m hat are_hats j o.nought (omega arith) f.zero_is in
      let T = trees_read P o f two (Holds P j) (add o.plus j) (λ a. each (o.times a) j) (λ s. at_point j s o.nought) R
      (λ i. o.nought) n (λ i k. f.zero_is) in
      let gg = T.plus_ok t.high.low t.high.high h.1.0 h.1.1 in (
        expanded_ok j n (record {
          low = t.low.low;
          high = add (add o.plus j) n t.low.high (add (add o.plus j) n t.high.low t.high.high);
        }) l (h.0.0, T.plus_ok t.low.high (add (add o.plus j) n t.high.low t.high.high) h.0.1 gg),
        expanded_ok j n (record { low = add (add o.plus j) n t.high.low t.high.high; high = t.high.high }) l
            (gg, h.1.1),
      )

  scaled_ok : (j n : ℕ) (s a : E) (t : Tree (Tree E j) n) → j ≤ m → P s → P a → Holds (Holds P j) n t
      → Holds (Holds P j) n (scaled o (λ a. each (o.times a) j) s n a t)
  scaled_ok j zero s a t l hs ha h = (reads P o f two b m hat are_hats j o.nought l f.zero_is).by_ok a t ha h
  scaled_ok j (suc n) s a t l hs ha h = (
    scaled_ok j n s a t.low l hs ha h.0,
    scaled_ok j n s (o.times a (squared o n s)) t.high l hs
        (f.times_is a (squared o n s) ha (squared_is P o f two n s hs)) h.1,
  )

  pub converted_ok : (j n : ℕ) (t : Tree (Tree E j) n) → j + n < m → Holds (Holds P j) n t
      → Holds P (up j n) (converted o g j n t)
  converted_ok j zero t l h = h
  converted_ok j (suc n) t l h =
      converted_ok (suc j) n (scaled o (λ a. each (o.times a) (suc j)) (g j) n o.unit (expanded (add o.plus j) n t))
      (omega arith)
      (scaled_ok (suc j) n (g j) o.unit (expanded (add o.plus j) n t) (omega arith)
      (F.factor_is j (omega arith)) f.one_is (expanded_ok j n t (omega arith) h))

  -- powers of the hat j, weighing values in the basis of the hats below it
  abbrev partly : (j n : ℕ) → Tree (Tree E j) n → E → E
  partly j n t x = weighed o (λ s. at_point j s x) (λ i. squared o i (hat j x)) n t

  pub converted_value : (j n : ℕ) (t : Tree (Tree E j) n) (x : E) → j + n < m → P x → Holds (Holds P j) n t
      → partly j n t x ≡ at_point (up j n) (converted o g j n t) x
  converted_value j zero t x l hx h = refl
  converted_value j (suc n) t x l hx h =
      let y = hat j x in
      let hy : P y = hat_is j x (omega arith) hx in
      let z = hat (suc j) x in
      let hz : P z = hat_is (suc j) x (omega arith) hx in
      let hg : P (g j) = F.factor_is j (omega arith) in
      let R = reads P o f two b m hat are_hats j x (omega arith) hx in
      let S = reads P o f two b m hat are_hats (suc j) x (omega arith) hx in
      let e = expanded (add o.plus j) n t in
      let he : Holds (Holds P (suc j)) n e = expanded_ok j n t (omega arith) h in
      let v = λ (s : Tree E (suc j)). at_point (suc j) s x in
      let c = scaled {B = Tree E (suc j)} o (λ a. each (o.times a) (suc j)) (g j) n o.unit e in
      let hc : Holds (Holds P (suc j)) n c = scaled_ok (suc j) n (g j) o.unit e (omega arith) hg f.one_is he in
      let w : E = weighed o v (λ i. squared o i (o.times (g j) z)) n e in
      let hw : P w = (trees_read P o f two (Holds P (suc j)) (add o.plus (suc j)) (λ a. each (o.times a) (suc j)) v S
      (λ i. squared o i (o.times (g j) z)) n
      (λ i k. squared_is P o f two i (o.times (g j) z) (f.times_is (g j) z hg hz))).is e he in
      expanded_value P o f two (Holds P j) (add o.plus j) (λ a. each (o.times a) j) (λ s. at_point j s x) R n t y hy h
      ∙ ap (λ q. weighed o v (λ i. squared o i q) n e) (hat_step j x (omega arith) hx)
      ∙ sym (scaled_value P o f two (Holds P (suc j)) (add o.plus (suc j))
      (λ a. each (o.times a) (suc j)) v S n e o.unit (g j) z f.one_is hg hz he
      ∙ f.times_comm o.unit w f.one_is hw ∙ f.times-one w hw)
      ∙ converted_value (suc j) n c x (omega arith) hx hc

  -- ---- from the list of coefficients

  horner_append : (xs ys : List E) (top x : E)
      → horner_from o top (xs ++ ys) x ≡ horner_from o (horner_from o top ys x) xs x
  horner_append [] ys top x = refl
  horner_append (a ∷ xs) ys top x = ap (λ z. o.plus a (o.times x z)) (horner_append xs ys top x)

  weighed_here : (n : ℕ) (t : Tree E n) (x : E) → P x → Holds P n t → P (weighed o (λ a. a) (λ i. squared o i x) n t)
  weighed_here n t x hx h =
      (trees_read P o f two P o.plus o.times (λ a. a) (elements_read P o f two b m hat are_hats) (λ i. squared o i x) n
      (λ i k. squared_is P o f two i x hx)).is t h

  horner_tree : (n : ℕ) (t : Tree E n) (top x : E) → P top → P x → Holds P n t
      → horner_from o top (flat n t) x
      ≡ o.plus (weighed o (λ a. a) (λ i. squared o i x) n t) (o.times (squared o n x) top)
  horner_tree zero t top x ht hx h = refl
  horner_tree (suc n) t top x ht hx h =
      let l = weighed o (λ a. a) (λ i. squared o i x) n t.low in
      let u = weighed o (λ a. a) (λ i. squared o i x) n t.high in
      let s = squared o n x in
      let hs : P s = squared_is P o f two n x hx in
      let hl : P l = weighed_here n t.low x hx h.0 in
      let hu : P u = weighed_here n t.high x hx h.1 in
      let st : P (o.times s top) = f.times_is s top hs ht in
      let mid = o.plus u (o.times s top) in
      horner_append (flat n t.low) (flat n t.high) top x
      ∙ ap (λ z. horner_from o z (flat n t.low) x) (horner_tree n t.high top x ht hx h.1)
      ∙ horner_tree n t.low mid x (f.plus_is u (o.times s top) hu st) hx h.0
      ∙ ap (o.plus l) (f.times-plus s u (o.times s top) hs hu st)
      ∙ sym (f.plus_assoc l (o.times s u) (o.times s (o.times s top)) hl (f.times_is s u hs hu)
      (f.times_is s (o.times s top) hs st))
      ∙ ap (o.plus (o.plus l (o.times s u)))
      (sym (f.times_assoc s s top hs hs ht) ∙ ap (λ q. o.times q top) (sym (squared_times P o f two n x x hx hx)))

  flat_are : (n : ℕ) (t : Tree E n) → Holds P n t → Each P (flat n t)
  flat_are zero t h = (h, tt)
  flat_are (suc n) t h = each_append P (flat n t.low) (flat n t.high) (flat_are n t.low h.0) (flat_are n t.high h.1)

  pub tree_value : (n : ℕ) (t : Tree E n) (x : E) → P x → Holds P n t
      → value o (flat n t) x ≡ weighed o (λ a. a) (λ i. squared o i x) n t
  tree_value n t x hx h =
      let w = weighed o (λ a. a) (λ i. squared o i x) n t in
      Ho.value_each P o f (flat n t) x (flat_are n t h) hx ∙ horner_tree n t o.nought x f.zero_is hx h
      ∙ ap (o.plus w) (A.times-zero P o f (squared o n x) (squared_is P o f two n x hx))
      ∙ f.plus-zero w (weighed_here n t x hx h)

  pub converted_is : (n : ℕ) (t : Tree E n) (x : E) → n < m → P x → Holds P n t
      → at_point (up 0 n) (converted o g 0 n t) x ≡ value o (flat n t) x
  converted_is n t x l hx h = sym (tree_value n t x hx h ∙ converted_value 0 n t x (omega arith) hx h)

  -- ---- trees in the basis, as lists

  pub basis_is : (n : ℕ) (t : Tree E n) (x : E) → at_point n t x ≡ value_in_basis o inverse n (flat n t) x
  basis_is zero t x = refl
  basis_is (suc n) t x =
      let two = halves E n t (flat (suc n) t) refl in
      ap₂ (λ a c. o.plus a (o.times (hats o inverse n x) c))
      (basis_is n t.low x ∙ ap (λ l. value_in_basis o inverse n l x) two.0)
      (basis_is n t.high x ∙ ap (λ l. value_in_basis o inverse n l x) two.1)
