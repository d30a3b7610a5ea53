-- Modulo an irreducible polynomial each element but zero has an inverse: by long division of the modulus, again and
-- again.
use Rattle.std.proofs.Common.{◌≡◌, ◌≢◌, ℕ, zero, suc, ◌+◌, ◌-◌, ◌^◌, ◌<◌, ◌≤◌, inl, inr, sym, ap, ◌∙◌, arith}
use Rattle.std.proofs.lemmas.Bool.{cases_lt}
use lib.Bits.{bit_xor, xor_lt, xor_comm, xor_zero_r}
use lib.Pow.{pow_mono, pow_pos}
use Rattle.field_elements.specs.Carryless.{carryless, remainder_of_bits, HasDegree, IsIrreducible}
use Rattle.field_elements.specs.BinaryField.{times}
use Rattle.field_elements.specs.laws.Xor.{xor_cancel}
use Rattle.field_elements.specs.laws.CarrylessLaws.{carryless_comm, carryless-one_l}
use Rattle.field_elements.specs.laws.Degrees.{degree_of, degree_product, pow_order}
use Rattle.field_elements.specs.laws.Division.{remainder_below, remainder_same}
use Rattle.field_elements.specs.laws.ResidueLaws as R

module _ (d m : ℕ) (some : 1 ≤ d) (degree : HasDegree m d) where
  -- the quotient and the remainder of the modulus by a number of degree e
  divided : (e a : ℕ) → e ≤ d → HasDegree a e → (q r : ℕ) × (r < 2 ^ e) × (bit_xor m r ≡ carryless q a)
  divided e a h top =
      let width : e + (suc d - e) ≡ suc d = omega arith in
      let x = remainder_same (suc d - e) e a m in
      (x.0, remainder_of_bits (suc d - e) e a m, remainder_below (suc d - e) e a m top (rw width degree.1), x.1)

  -- dividing the modulus by a is multiplying a by the quotient
  pub times_quotient : (a q r : ℕ) → a < 2 ^ d → q < 2 ^ d → r < 2 ^ d → bit_xor m r ≡ carryless q a → times d m a q ≡ r
  times_quotient a q r ha hq hr e =
      let p : bit_xor (carryless a q) r ≡ m =
      ap (λ x. bit_xor x r) (carryless_comm a q ∙ sym e) ∙ xor_comm (bit_xor m r) r ∙ ap (bit_xor r) (xor_comm m r)
      ∙ xor_cancel r m in
      sym
      (R.is_times d m some degree a q r ha hq
      (record { below = hr; congruent = (1, p ∙ sym (carryless-one_l m)) }))

  pub quotient_below : (a q r : ℕ) → 2 ≤ a → r < 2 ^ suc d → bit_xor m r ≡ carryless q a → q < 2 ^ d
  quotient_below a q r lo hr e =
      elim (cases_lt 0 q) [
        | inl l ↦
            let i = degree_of q l in
            let j = degree_of a (omega arith) in
            let p : HasDegree (carryless q a) (i.0 + j.0) = degree_product i.0 j.0 q a i.1 j.1 in
            let w : bit_xor m r < 2 ^ suc d = xor_lt (suc d) m r degree.1 hr in
            let up : i.0 + j.0 < suc d = pow_order (i.0 + j.0) (suc d) (omega (arith, p)) in
            let j1 : 1 < suc j.0 = pow_order 1 (suc j.0) (omega (arith, j.1)) in
            omega (arith, i.1, pow_mono {i = suc i.0} {j = d} (omega arith))
        | inr g ↦ omega (arith, pow_pos d)
      ]

  module _ (irreducible : IsIrreducible d m) where
    pub remainder_positive : (a q r : ℕ) → 2 ≤ a → a < 2 ^ d → bit_xor m r ≡ carryless q a → 0 < r
    remainder_positive a q r lo hi e =
        elim (cases_lt 0 r) [
          | inl l ↦ l
          | inr g ↦
              let z : r ≡ 0 = omega arith in
              absurd (irreducible q a lo hi (sym (xor_zero_r m) ∙ ap (bit_xor m) (sym z) ∙ e))
        ]

    inverse_through : (a q r b : ℕ) → a < 2 ^ d → q < 2 ^ d → r < 2 ^ d → b < 2 ^ d → times d m a q ≡ r
        → times d m r b ≡ 1 → times d m a (times d m q b) ≡ 1
    inverse_through a q r b ha hq hr hb e one =
        sym (R.times_assoc d m some degree a q b ha hq hb) ∙ ap (λ y. times d m y b) e ∙ one

    has_inverse_below : (n a : ℕ) → a < n → 0 < a → a < 2 ^ d → (b : ℕ) × (b < 2 ^ d) × (times d m a b ≡ 1)
    has_inverse_below zero a l lo hi = absurd (omega arith)
    has_inverse_below (suc n) a l lo hi =
        elim (cases_lt 1 a) [
          | inl two ↦
              let e = degree_of a lo in
              let top : e.0 < d = pow_order e.0 d (omega (arith, e.1)) in
              let x = divided e.0 a (omega arith) e.1 in
              let q = x.0 in
              let r = x.1 in
              let below : r < a = omega (arith, x.2, e.1) in
              let hr : r < 2 ^ d = omega arith in
              let hq : q < 2 ^ d = quotient_below a q r two
              (omega (arith, pow_mono {i = d} {j = suc d} (omega arith))) x.3 in
              let ih = has_inverse_below n r (omega arith) (remainder_positive a q r two hi x.3) hr in (
                times d m q ih.0,
                R.times_below d m some degree q ih.0 hq ih.1,
                inverse_through a q r ih.0 hi hq hr ih.1 (times_quotient a q r hi hq hr x.3) ih.2,
              )
          | inr g ↦
              let one : a ≡ 1 = omega arith in
              (1, R.one_below d m some degree, R.times-one d m some degree a hi ∙ one)
        ]

    pub has_inverse : (a : ℕ) → a < 2 ^ d → a ≢ 0 → (b : ℕ) × (b < 2 ^ d) × (times d m a b ≡ 1)
    has_inverse a h ne =
        elim (cases_lt 0 a) [
          | inl l ↦ has_inverse_below (suc a) a (omega arith) l h
          | inr g ↦ let z : a ≡ 0 = omega arith in absurd (ne z)
        ]
