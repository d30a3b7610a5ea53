-- Multiples, long division, and numbers that are the same modulo a polynomial.
use Rattle.std.proofs.Common.{◌≡◌, ℕ, zero, suc, ◌+◌, ◌*◌, ◌/◌, ◌%◌, ◌^◌, ◌<◌, inl, inr, sym, ap, ap₂, ◌∙◌, subst}
use Rattle.std.proofs.Common.{arith}
use native.Mathlib.Nat.{zero-mul, one-mul, pow-suc, add-suc, add-zero}
use lib.Bits.{bit_xor, xor_assoc, xor_comm, xor_zero_r, xor_self, xor_lt}
use lib.Pow.{pow_mono}
use Rattle.std.proofs.lemmas.Bool.{cases_lt}
use Rattle.field_elements.specs.Carryless.{carryless, remainder_of_bits, IsMultiple, HasDegree}
use Rattle.field_elements.specs.laws.Xor.{xor_swap, xor_left_comm, xor_cancel}
use Rattle.field_elements.specs.laws.CarrylessLaws.{carryless-zero_l, carryless-one_l, carryless_step}
use Rattle.field_elements.specs.laws.CarrylessLaws.{carryless_double_l, carryless_xor_l, carryless_xor_r}
use Rattle.field_elements.specs.laws.CarrylessLaws.{carryless_comm, carryless_assoc}
use Rattle.field_elements.specs.laws.Degrees.{degree_of, degree_product, step_below, shifted_degree}

-- ---- multiples

pub IsMultiple-zero : (m : ℕ) → IsMultiple m 0
IsMultiple-zero m = (0, sym (carryless-zero_l m))

pub IsMultiple-xor : (m a b : ℕ) → IsMultiple m a → IsMultiple m b → IsMultiple m (bit_xor a b)
IsMultiple-xor m a b x y = (bit_xor x.0 y.0, ap₂ bit_xor x.1 y.1 ∙ sym (carryless_xor_l x.0 y.0 m))

pub IsMultiple-times : (m c a : ℕ) → IsMultiple m a → IsMultiple m (carryless c a)
IsMultiple-times m c a x = (carryless c x.0, ap (carryless c) x.1 ∙ sym (carryless_assoc c x.0 m))

pub carryless_power : (k m : ℕ) → carryless (2 ^ k) m ≡ 2 ^ k * m
carryless_power zero m = carryless-one_l m ∙ sym (one-mul m)
carryless_power (suc k) m =
    let e : 2 ^ suc k ≡ 2 * 2 ^ k = omega (arith, pow-suc 2 k) in
    let p : 2 * (2 ^ k * m) ≡ 2 ^ suc k * m = rw e (omega arith) in
    ap (λ x. carryless x m) e ∙ carryless_double_l (2 ^ k) m ∙ ap (λ x. 2 * x) (carryless_power k m) ∙ p

-- a multiple with fewer bits than the divisor is zero
pub small_multiple : (d m n : ℕ) → HasDegree m d → IsMultiple m n → n < 2 ^ d → n ≡ 0
small_multiple d m n degree x h =
    elim (cases_lt 0 x.0) [
      | inl l ↦
          let i = degree_of x.0 l in
          let p : HasDegree (carryless x.0 m) (i.0 + d) = degree_product i.0 d x.0 m i.1 degree in
          absurd (omega (arith, p, x.1, pow_mono {i = d} {j = i.0 + d} (omega arith)))
      | inr g ↦ let e : x.0 ≡ 0 = omega arith in x.1 ∙ ap (λ q. carryless q m) e ∙ carryless-zero_l m
    ]

-- ---- long division

pub remainder_below : (k d m a : ℕ) → HasDegree m d → a < 2 ^ (d + k) → remainder_of_bits k d m a < 2 ^ d
unfolding remainder_of_bits
remainder_below zero d m a degree h = rw add-zero at h
remainder_below (suc k) d m a degree h =
    remainder_below k d m (bit_xor a (a / 2 ^ (d + k) % 2 * (2 ^ k * m))) degree
    (step_below (d + k) a (2 ^ k * m) (rw add-suc at h) (shifted_degree k d m degree))

digit_multiple : (c k m : ℕ) → c < 2 → IsMultiple m (c * (2 ^ k * m))
digit_multiple zero k m h = (0, zero-mul (2 ^ k * m) ∙ sym (carryless-zero_l m))
digit_multiple (suc zero) k m h = (2 ^ k, one-mul (2 ^ k * m) ∙ sym (carryless_power k m))
digit_multiple (suc (suc c)) k m h = absurd (omega arith)

pub remainder_same : (k d m a : ℕ) → IsMultiple m (bit_xor a (remainder_of_bits k d m a))
unfolding remainder_of_bits
remainder_same zero d m a = rw (xor_self a) (IsMultiple-zero m)
remainder_same (suc k) d m a =
    let t = a / 2 ^ (d + k) % 2 * (2 ^ k * m) in
    let r = remainder_of_bits k d m (bit_xor a t) in
    let e : bit_xor t (bit_xor (bit_xor a t) r) ≡ bit_xor a r =
    ap (bit_xor t) (xor_assoc a t r) ∙ xor_left_comm t a (bit_xor t r) ∙ ap (bit_xor a) (xor_cancel t r) in
    let x : IsMultiple m (bit_xor t (bit_xor (bit_xor a t) r)) =
    IsMultiple-xor m t (bit_xor (bit_xor a t) r) (digit_multiple (a / 2 ^ (d + k) % 2) k m (omega arith))
    (remainder_same k d m (bit_xor a t)) in
    subst (IsMultiple m) e x

-- ---- two numbers are the same modulo m where their difference is a multiple

pub Same-trans : (m a b c : ℕ) → IsMultiple m (bit_xor a b) → IsMultiple m (bit_xor b c) → IsMultiple m (bit_xor a c)
Same-trans m a b c x y =
    let e : bit_xor (bit_xor a b) (bit_xor b c) ≡ bit_xor a c =
    xor_assoc a b (bit_xor b c) ∙ ap (bit_xor a) (xor_cancel b c) in
    subst (IsMultiple m) e (IsMultiple-xor m (bit_xor a b) (bit_xor b c) x y)

pub Same-sym : (m a b : ℕ) → IsMultiple m (bit_xor a b) → IsMultiple m (bit_xor b a)
Same-sym m a b x = subst (IsMultiple m) (xor_comm a b) x

pub Same-refl : (m a : ℕ) → IsMultiple m (bit_xor a a)
Same-refl m a = subst (IsMultiple m) (sym (xor_self a)) (IsMultiple-zero m)

pub xor_zero_equal : (a b : ℕ) → bit_xor a b ≡ 0 → a ≡ b
xor_zero_equal a b e =
    sym (xor_zero_r a) ∙ ap (bit_xor a) (sym (xor_self b)) ∙ sym (xor_assoc a b b) ∙ ap (λ x. bit_xor x b) e

-- one number of few bits is the same
pub same_below : (d m a b : ℕ) → HasDegree m d → IsMultiple m (bit_xor a b) → a < 2 ^ d → b < 2 ^ d → a ≡ b
same_below d m a b degree x h g = xor_zero_equal a b (small_multiple d m (bit_xor a b) degree x (xor_lt d a b h g))

pub Same-xor : (m a b c d : ℕ) → IsMultiple m (bit_xor a b) → IsMultiple m (bit_xor c d)
    → IsMultiple m (bit_xor (bit_xor a c) (bit_xor b d))
Same-xor m a b c d x y = subst (IsMultiple m) (xor_swap a b c d) (IsMultiple-xor m (bit_xor a b) (bit_xor c d) x y)

pub Same-times : (m c a b : ℕ) → IsMultiple m (bit_xor a b) → IsMultiple m (bit_xor (carryless c a) (carryless c b))
Same-times m c a b x = subst (IsMultiple m) (carryless_xor_r c a b) (IsMultiple-times m c (bit_xor a b) x)

pub Same-times_l : (m c a b : ℕ) → IsMultiple m (bit_xor a b) → IsMultiple m (bit_xor (carryless a c) (carryless b c))
Same-times_l m c a b x =
    subst (λ n. IsMultiple m n) (ap₂ bit_xor (carryless_comm c a) (carryless_comm c b)) (Same-times m c a b x)

pub Same-double : (m a b : ℕ) → IsMultiple m (bit_xor a b) → IsMultiple m (bit_xor (2 * a) (2 * b))
Same-double m a b x =
    subst (IsMultiple m) (ap₂ bit_xor (carryless_power 1 a) (carryless_power 1 b)) (Same-times m 2 a b x)

-- one more bit of a factor, from the highest on
pub horner : (m n b p t : ℕ) → IsMultiple m (bit_xor (carryless (n / 2) b) p) → IsMultiple m (bit_xor (2 * p) t)
    → IsMultiple m (bit_xor (carryless n b) (bit_xor (n % 2 * b) t))
horner m n b p t x y =
    rw (carryless_step n b)
    (Same-xor m (n % 2 * b) (n % 2 * b) (2 * carryless (n / 2) b) t (Same-refl m (n % 2 * b))
    (Same-trans m (2 * carryless (n / 2) b) (2 * p) t (Same-double m (carryless (n / 2) b) p x) y))
