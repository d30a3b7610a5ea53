-- What the loops of the arithmetic modulo a polynomial keep.
use Rattle.std.proofs.Common.{◌≡◌, ℕ, inl, inr, suc, ◌+◌, ◌-◌, ◌*◌, ◌/◌, ◌%◌, ◌^◌, ◌<◌, ◌≤◌, sym, ap, ap₂, ◌∙◌, subst}
use Rattle.std.proofs.Common.{arith}
use Rattle.std.proofs.lemmas.Nat.{leading_top, shl_whole, one_shl, shr-shr, and_mask}
use lib.Bits.{bit_and, bit_xor, xor_assoc, xor_comm, xor_zero_r}
use lib.Count.{count_leading_zeros}
use lib.Pow.{pow_mono}
use native.Mathlib.Nat.{zero-mul, one-mul, mul_comm, pow-suc, div-eq_of_lt}
use Rattle.std.proofs.lemmas.Bool.{cases_lt}
use Rattle.field_elements.specs.Carryless.{carryless, IsMultiple, HasDegree}
use Rattle.field_elements.specs.BinaryField.{IsModulus, IsProduct, times}
use Rattle.field_elements.specs.laws.Xor.{xor_cancel}
use Rattle.field_elements.specs.laws.CarrylessLaws.{carryless-one_l, carryless-zero_l, carryless_xor_l}
use Rattle.field_elements.specs.laws.Degrees.{pow_order, step_below, shifted_degree, same_degree_below}
use Rattle.field_elements.specs.laws.Division.{horner, carryless_power, Same-refl}
use Rattle.field_elements.specs.laws.ResidueLaws.{times_is, is_times, times_assoc}
use Rattle.field_elements.specs.laws.Inverses.{times_quotient}

-- ---- doubling

pub double_plain : (m a : ℕ) → IsMultiple m (bit_xor (2 * a) (a * 2))
double_plain m a = rw (mul_comm a 2) (Same-refl m (2 * a))

module _ (d m a : ℕ) (modulus : IsModulus d m) (h : a < 2 ^ d) where
  pub twice_fits : a * 2 < 4294967296
  twice_fits = omega (arith, h, modulus.few, pow_mono {i = d} {j = 31} modulus.few)

  pub double_below : (a * 2 / 2 ^ d ≡ 0 → ⊥) → bit_xor (a * 2) m < 2 ^ d
  double_below ne =
      elim (cases_lt (a * 2) (2 ^ d)) [
        | inl l ↦ absurd (ne (div-eq_of_lt l))
        | inr g ↦ same_degree_below d (a * 2) m (g, omega (arith, pow-suc 2 d)) modulus.degree
      ]

  pub double_same : IsMultiple m (bit_xor (2 * a) (bit_xor (a * 2) m))
  double_same = (1, rw (mul_comm a 2) (xor_cancel (2 * a) m) ∙ sym (carryless-one_l m))

-- ---- bits

bit_one : (n : ℕ) → bit_and n 1 ≡ 1 → n % 2 ≡ 1
bit_one n e = sym (and_mask n 1) ∙ e

bit_zero : (n : ℕ) → (bit_and n 1 ≡ 1 → ⊥) → n % 2 ≡ 0
bit_zero n ne =
    let e : bit_and n 1 ≡ n % 2 = and_mask n 1 in
    omega arith

halved : (a i : ℕ) → 0 < i → a / 2 ^ (i - 1) / 2 ≡ a / 2 ^ i
halved a i h =
    let e : i - 1 + 1 ≡ i = omega arith in
    shr-shr a (i - 1) 1 ∙ ap (λ k. a / 2 ^ k) e

-- ---- multiplying

module _ (m a i b p t : ℕ) (some : 0 < i) (so_far : IsMultiple m (bit_xor (carryless (a / 2 ^ i) b) p))
    (twice : IsMultiple m (bit_xor (2 * p) t)) where
  by_bit : IsMultiple m (bit_xor (carryless (a / 2 ^ (i - 1)) b) (bit_xor (a / 2 ^ (i - 1) % 2 * b) t))
  by_bit = horner m (a / 2 ^ (i - 1)) b p t (rw (halved a i some) so_far) twice

  pub multiply_one : bit_and (a / 2 ^ (i - 1)) 1 ≡ 1
      → IsMultiple m (bit_xor (carryless (a / 2 ^ (i - 1)) b) (bit_xor t b))
  multiply_one e = rw (bit_one (a / 2 ^ (i - 1)) e, one-mul b, xor_comm b t) at by_bit

  pub multiply_zero : (bit_and (a / 2 ^ (i - 1)) 1 ≡ 1 → ⊥) → IsMultiple m (bit_xor (carryless (a / 2 ^ (i - 1)) b) t)
  multiply_zero ne = rw (bit_zero (a / 2 ^ (i - 1)) ne, zero-mul b) at by_bit

pub multiply_start : (d m a b : ℕ) → a < 2 ^ d → IsMultiple m (bit_xor (carryless (a / 2 ^ d) b) 0)
multiply_start d m a b h = (
  0,
  xor_zero_r (carryless (a / 2 ^ d) b) ∙ ap (λ x. carryless x b) (div-eq_of_lt h) ∙ carryless-zero_l b
      ∙ sym (carryless-zero_l m),
)

pub multiply_end : (d m a b p : ℕ) → p < 2 ^ d → IsMultiple m (bit_xor (carryless (a / 2 ^ 0) b) p)
    → IsProduct d m a b p
multiply_end d m a b p h x =
    let e : a / 2 ^ 0 ≡ a = omega arith in
    record { below = h; congruent = rw e at x }

-- ---- dividing

pub degree_is : (a : ℕ) → 2 ≤ a → a < 4294967296 → HasDegree a (31 - count_leading_zeros 32 a)
degree_is a h g =
    let x = leading_top 32 a (omega arith) g in
    let e : 31 - count_leading_zeros 32 a ≡ x.0 = omega (arith, x.1) in
    rw e (x.2, x.3)

pub degree_below : (d a e : ℕ) → a < 2 ^ d → HasDegree a e → e < d
degree_below d a e h top = pow_order e d (omega (arith, top))

module _ (m a d k r q : ℕ) (degree : HasDegree a d) (some : 0 < k) (few : d + k ≤ 32) (below : r < 2 ^ (d + k))
    (so_far : bit_xor m r ≡ carryless q a) where
  rest_below : bit_xor r (r / 2 ^ (d + (k - 1)) % 2 * (2 ^ (k - 1) * a)) < 2 ^ (d + (k - 1))
  rest_below =
      let e : suc (d + (k - 1)) ≡ d + k = omega arith in
      step_below (d + (k - 1)) r (2 ^ (k - 1) * a) (rw e below) (shifted_degree (k - 1) d a degree)

  shift_is : a * 2 ^ (k - 1) % 4294967296 ≡ 2 ^ (k - 1) * a
  shift_is = shl_whole a (suc d) (k - 1) 32 degree.1 (omega arith) ∙ mul_comm a (2 ^ (k - 1))

  pub divide_below : bit_and (r / 2 ^ (d + (k - 1))) 1 ≡ 1
      → bit_xor r (a * 2 ^ (k - 1) % 4294967296) < 2 ^ (d + (k - 1))
  divide_below e = rw shift_is (rw (bit_one (r / 2 ^ (d + (k - 1))) e, one-mul (2 ^ (k - 1) * a)) at rest_below)

  pub divide_same : bit_xor m (bit_xor r (a * 2 ^ (k - 1) % 4294967296))
      ≡ carryless (bit_xor q (1 * 2 ^ (k - 1) % 4294967296)) a
  divide_same =
      rw (shift_is, one_shl (k - 1) 32 (omega arith))
      (sym (xor_assoc m r (2 ^ (k - 1) * a)) ∙ ap₂ bit_xor so_far (sym (carryless_power (k - 1) a))
      ∙ sym (carryless_xor_l q (2 ^ (k - 1)) a))

  pub divide_skip : (bit_and (r / 2 ^ (d + (k - 1))) 1 ≡ 1 → ⊥) → r < 2 ^ (d + (k - 1))
  divide_skip ne = rw (bit_zero (r / 2 ^ (d + (k - 1))) ne, zero-mul (2 ^ (k - 1) * a), xor_zero_r r) at rest_below

pub divide_top : (d a e : ℕ) → 2 ≤ a → a < 2 ^ d → d ≤ 31 → e ≡ 31 - count_leading_zeros 32 a → HasDegree a e × (e < d)
divide_top d a e lo hi few is =
    let top : HasDegree a e = rw is (degree_is a lo (omega (arith, pow_mono {i = d} {j = 31} few))) in
    (top, degree_below d a e hi top)

-- ---- inverting

pub inverse_step : (d m a f rest q r f' : ℕ) → IsModulus d m → a < 2 ^ d → f < 2 ^ d → rest < 2 ^ d → q < 2 ^ d
    → r < 2 ^ d
    → times d m a f ≡ rest → bit_xor m r ≡ carryless q rest → IsProduct d m f q f' → times d m a f' ≡ r
inverse_step d m a f rest q r f' modulus ha hf hrest hq hr so_far divided product =
    let e : f' ≡ times d m f q = is_times d m modulus.some modulus.degree f q f' hf hq product in
    ap (times d m a) e ∙ sym (times_assoc d m modulus.some modulus.degree a f q ha hf hq)
    ∙ ap (λ x. times d m x q) so_far
    ∙ times_quotient d m modulus.some modulus.degree rest q r hrest hq hr divided

pub inverse_end : (d m a f : ℕ) → IsModulus d m → a < 2 ^ d → f < 2 ^ d → times d m a f ≡ 1 → IsProduct d m a f 1
inverse_end d m a f modulus ha hf e = subst (IsProduct d m a f) e (times_is d m modulus.some modulus.degree a f ha hf)
