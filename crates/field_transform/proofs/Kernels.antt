-- Where the polynomials of the subspaces are zero: that of n at the points of the numbers below 2 to the power n, and
-- at no other.
use Rattle.std.specs.Prelude.{nat_lt, true}
use Rattle.std.proofs.Common.{◌≡◌, ◌≢◌, ◌<◌, ◌≤◌, ◌+◌, ◌-◌, ◌*◌, ◌%◌, ◌^◌, ℕ, zero, suc, inl, inr, sym, ap, ap₂, ◌∙◌}
use Rattle.std.proofs.Common.{arith}
use Rattle.std.proofs.lemmas.Bool.{cases_lt, ltb-true}
use lib.Bits.{bit_xor, xor_shifted, xor_self, xor_assoc}
use lib.Pow.{pow_pos}
use Rattle.std.proofs.Math.Nat.{mod-eq_of_lt}
use native.Mathlib.Nat.{pow-suc}
use Rattle.field_elements.specs.Field.{Operations, IsField, ArePoints}
use Rattle.field_elements.specs.laws.FieldLaws as A
use Rattle.field_transform.specs.Basis.{hats, next_hat}
use Rattle.field_transform.specs.Subspaces.{HasSubspaces}
use Rattle.field_transform.proofs.Flights.{AreHats}
use Rattle.field_transform.proofs.Conversions.{are_hats}

-- the number of the same place of the other half
above : (n y : ℕ) → y < 2 ^ n → bit_xor (2 ^ n) y ≡ 2 ^ n + y
above n y l =
    let e : 1 * 2 ^ n ≡ 2 ^ n = omega arith in
    ap (λ p. bit_xor p y) (sym e) ∙ xor_shifted 1 n y l ∙ omega arith

back_again : (p x : ℕ) → bit_xor p (bit_xor p x) ≡ x
back_again p x = sym (xor_assoc p p x) ∙ ap (λ z. bit_xor z x) (xor_self p)

module _ {E : Type 0} (P : E → Type 0) (o : Operations E) (f : IsField P o) (count : ℕ) (point : ℕ → E)
    (points : ArePoints P count point)
    (m : ℕ) (g inverse : ℕ → E) (S : HasSubspaces P o count point m g inverse) where
  next_nothing : (i h : E) → P i → P h → o.plus (o.times h h) h ≡ o.nought → next_hat o i h ≡ o.nought
  next_nothing i h hi hh e = ap (o.times i) e ∙ A.times-zero P o f i hi

  next_some : (i j h : E) → P i → P j → P h → o.times j i ≡ o.unit → h ≢ o.nought → h ≢ o.unit
      → next_hat o i h ≢ o.nought
  next_some i j h hi hj hh inverts some other e =
      let hh1 : P (o.plus h o.unit) = f.plus_is h o.unit hh f.one_is in
      let square : P (o.plus (o.times h h) h) = f.plus_is (o.times h h) h (f.times_is h h hh hh) hh in
      let not_zero : i ≢ o.nought = λ z. f.one≢zero (sym inverts ∙ ap (o.times j) z ∙ A.times-zero P o f j hj) in
      let nothing : o.plus (o.times h h) h ≡ o.nought =
      A.no_zero_divisors P o f i (o.plus (o.times h h) h) hi square not_zero e in
      let split : o.times h (o.plus h o.unit) ≡ o.nought =
      f.times-plus h h o.unit hh hh f.one_is ∙ ap (o.plus (o.times h h)) (f.times-one h hh) ∙ nothing in
      let next : o.plus h o.unit ≡ o.nought = A.no_zero_divisors P o f h (o.plus h o.unit) hh hh1 some split in
      other (A.plus_cancel P o f h o.unit o.unit hh f.one_is f.one_is (next ∙ sym (S.two o.unit f.one_is)))

  H : AreHats P o (λ n. point (2 ^ n)) m (λ n x. hats o inverse n x)
  H = are_hats P o f S.two (λ n. point (2 ^ n)) m g inverse S.constants

  square_one : o.plus (o.times o.unit o.unit) o.unit ≡ o.nought
  square_one = ap (λ z. o.plus z o.unit) (f.times-one o.unit f.one_is) ∙ S.two o.unit f.one_is

  square_zero : o.plus (o.times o.nought o.nought) o.nought ≡ o.nought
  square_zero =
      f.plus-zero (o.times o.nought o.nought) (f.times_is o.nought o.nought f.zero_is f.zero_is)
      ∙ A.times-zero P o f o.nought f.zero_is

  square_plus_is : (h : E) (n : ℕ) (x : E) → hats o inverse n x ≡ h → o.plus (o.times h h) h ≡ o.nought
      → o.plus (o.times (hats o inverse n x) (hats o inverse n x)) (hats o inverse n x) ≡ o.nought
  square_plus_is h n x e z = ap (λ a. o.plus (o.times a a) a) e ∙ z

  -- at the other half
  hat_above : (n y : ℕ) → n < m → y < 2 ^ n
      → hats o inverse n (point (2 ^ n + y)) ≡ o.plus o.unit (hats o inverse n (point y))
  hat_above n y l h =
      let r = S.room n l in
      ap (λ z. hats o inverse n (point z)) (sym (above n y h))
      ∙ ap (λ z. hats o inverse n z) (S.sums.sum (2 ^ n) y r (omega arith))
      ∙ H.sum n (point (2 ^ n)) (point y) l (points.point_is (2 ^ n) r) (points.point_is y (omega arith))
      ∙ ap (λ z. o.plus z (hats o inverse n (point y))) (H.here n l)

  point_zero : 0 < m → point 0 ≡ o.nought
  point_zero l =
      let some : 0 < count = omega (arith, S.room 0 l) in
      S.sums.sum 0 0 some some ∙ S.two (point 0) (points.point_is 0 some)

  pub hat_inside : (n x : ℕ) → n < m → x < 2 ^ n → hats o inverse n (point x) ≡ o.nought
  hat_inside zero x l h =
      let e : x ≡ 0 = omega arith in
      ap point e ∙ point_zero l
  hat_inside (suc n) x l h =
      let k : n < m = omega arith in
      elim (cases_lt x (2 ^ n)) [
        | inl s ↦
            next_nothing (inverse n) (hats o inverse n (point x)) (S.constants.inverse_is n l)
            (H.is n (point x) k (points.point_is x (omega (arith, S.room n k))))
            (square_plus_is o.nought n (point x) (hat_inside n x k s) square_zero)
        | inr s ↦
            let y : ℕ = x - 2 ^ n in
            let e : x ≡ 2 ^ n + y = omega arith in
            let small : y < 2 ^ n = omega (arith, pow-suc 2 n) in
            let one : hats o inverse n (point x) ≡ o.unit =
            ap (λ z. hats o inverse n (point z)) e ∙ hat_above n y k small
            ∙ ap (o.plus o.unit) (hat_inside n y k small) ∙ f.plus-zero o.unit f.one_is in
            next_nothing (inverse n) (hats o inverse n (point x)) (S.constants.inverse_is n l)
            (H.is n (point x) k (points.point_is x (omega (arith, S.room (suc n) l))))
            (square_plus_is o.unit n (point x) one square_one)
      ]

  -- a factor that is said to be nothing
  pub hat_nothing : (n x bit : ℕ) (y by : E) → n < m → by ≡ hats o inverse n y → y ≡ point x → bit ≡ 2 ^ n
      → nat_lt x bit ≡ true → by ≡ o.nought
  hat_nothing n x bit y by l is at e below =
      is ∙ ap (hats o inverse n) at ∙ hat_inside n x l (omega (arith, ltb-true x bit below, e))

  pub hat_outside : (n x : ℕ) → n < m → x < count → 2 ^ n ≤ x → hats o inverse n (point x) ≢ o.nought
  hat_outside zero x l h s =
      λ e.
      let none : x ≡ 0 = points.distinct x 0 h (omega arith) (e ∙ sym (point_zero l)) in
      absurd (omega arith)
  hat_outside (suc n) x l h s =
      let k : n < m = omega arith in
      let r = S.room n k in
      let p : 2 ^ suc n ≡ 2 ^ n * 2 = pow-suc 2 n in
      let y : ℕ = bit_xor (2 ^ n) x in
      let hy : y < count = S.sums.closed (2 ^ n) x r h in
      let far : 2 ^ n ≤ y =
      elim (cases_lt y (2 ^ n)) [
        | inl c ↦ absurd (omega (arith, sym (back_again (2 ^ n) x) ∙ above n y c, p))
        | inr c ↦ c
      ] in
      next_some (inverse n) (g n) (hats o inverse n (point x)) (S.constants.inverse_is n l) (S.constants.factor_is n l)
      (H.is n (point x) k (points.point_is x h)) (S.constants.inverts n l)
      (hat_outside n x k h (omega (arith, p, pow_pos n)))
      (λ e.
      hat_outside n y k hy far
      (ap (λ z. hats o inverse n z) (S.sums.sum (2 ^ n) x r h)
      ∙ H.sum n (point (2 ^ n)) (point x) k (points.point_is (2 ^ n) r) (points.point_is x h)
      ∙ ap₂ o.plus (H.here n k) e ∙ S.two o.unit f.one_is))

  pub few_levels : m ≤ 32
  few_levels =
      elim (cases_lt 32 m) [
        | inl s ↦ absurd (omega (arith, S.room 32 s, S.few))
        | inr s ↦ s
      ]

  pub small_level : (n : ℕ) → n < m → n < 32
  small_level n l = omega (arith, few_levels)

  -- the first number of a coset, as it is shifted
  pub shifted : (a n : ℕ) → a * 2 ^ n < count → a * 2 ^ n % 4294967296 ≡ a * 2 ^ n
  shifted a n l = mod-eq_of_lt (omega (arith, S.few))
