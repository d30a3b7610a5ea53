-- Degrees of polynomials over GF(2): those of products and differences.
use Rattle.std.proofs.Common.{◌≡◌, ℕ, zero, suc, ◌+◌, ◌-◌, ◌*◌, ◌/◌, ◌%◌, ◌^◌, ◌<◌, ◌≤◌, inl, inr, sym, ap, ap₂, ◌∙◌}
use Rattle.std.proofs.Common.{arith}
use native.Mathlib.Nat.{zero-mul, one-mul, mul_comm, mul-le-mul_right, mul-lt-mul_of_pos_right, pow-suc, zero-add}
use native.Mathlib.Nat.{mod-lt, div-eq_of_lt}
use lib.Bits.{bit_xor, xor_zero_r, xor_shr, xor_block, xor_lt}
use lib.Arith.{bin_ind}
use lib.Pow.{pow_pos, split, high, pow_mono, pow-add}
use Rattle.std.proofs.lemmas.Bool.{cases_lt}
use Rattle.field_elements.specs.Carryless.{carryless, HasDegree}
use Rattle.field_elements.specs.laws.CarrylessLaws.{carryless-zero_l, carryless-zero_r, carryless-one_l, carryless_step}

pub pow_order : (i j : ℕ) → 2 ^ i < 2 ^ j → i < j
pow_order i j h = elim (cases_lt i j) [ inl l ↦ l | inr g ↦ absurd (omega (arith, pow_mono {i = j} {j = i} g)) ]

-- ---- products

-- the lower of two degrees does not tell
keeps_degree : (k x y : ℕ) → 2 ^ k ≤ x → x < 2 ^ suc k → y < 2 ^ k → (2 ^ k ≤ bit_xor y x) × (bit_xor y x < 2 ^ suc k)
keeps_degree k x y lo hi h =
    let p : x - 2 ^ k < 2 ^ k = omega (arith, pow-suc 2 k) in
    let q : 1 * 2 ^ k + (x - 2 ^ k) ≡ x = omega arith in
    let top : x / 2 ^ k ≡ 1 = ap (λ n. n / 2 ^ k) (sym q) ∙ high 1 k p in
    let e : bit_xor y x / 2 ^ k ≡ 1 = xor_shr y x k ∙ ap₂ bit_xor (div-eq_of_lt h) top in
    let s : 1 * 2 ^ k + bit_xor y x % 2 ^ k ≡ bit_xor y x =
    ap (λ n. n * 2 ^ k + bit_xor y x % 2 ^ k) (sym e) ∙ split (bit_xor y x) k in
    let r : bit_xor y x % 2 ^ k < 2 ^ k = mod-lt (bit_xor y x) (pow_pos k) in
    (omega arith, omega (arith, pow-suc 2 k))

digit-le : (d b : ℕ) → d < 2 → d * b ≤ b
digit-le zero b h = omega arith
digit-le (suc zero) b h = omega arith
digit-le (suc (suc d)) b h = absurd (omega arith)

-- the degree of a product is the sum of the degrees
pub degree_product : (i j a b : ℕ) → HasDegree a i → HasDegree b j → HasDegree (carryless a b) (i + j)
degree_product zero j a b al bl =
    let e : 1 ≡ a = omega arith in
    let p : carryless a b ≡ b = ap (λ x. carryless x b) (sym e) ∙ carryless-one_l b in
    rw (p, zero-add j) bl
degree_product (suc i) j a b al bl =
    let half : HasDegree (carryless (a / 2) b) (i + j) =
    degree_product i j (a / 2) b (omega (arith, pow-suc 2 i), omega (arith, pow-suc 2 (suc i))) bl in
    let small : a % 2 * b < 2 ^ suc (i + j) =
    omega (arith, digit-le (a % 2) b (omega arith), bl, pow_mono {i = suc j} {j = suc (i + j)} (omega arith)) in
    let e : suc i + j ≡ suc (i + j) = omega arith in
    rw (carryless_step a b, e)
    (keeps_degree (suc (i + j)) (2 * carryless (a / 2) b) (a % 2 * b) (omega (arith, half, pow-suc 2 (i + j)))
    (omega (arith, half, pow-suc 2 (suc (i + j)))) small)

pub degree_of : (n : ℕ) → 0 < n → (i : ℕ) × HasDegree n i
degree_of =
    bin_ind (λ n. 0 < n → (i : ℕ) × HasDegree n i) (λ h. absurd (omega arith))
    (λ n ih h. elim (cases_lt n 2) [
      | inl l ↦ (0, (omega arith, omega arith))
      | inr g ↦ let at =
          ih (omega arith) in
          (suc at.0, (omega (arith, at.1, pow-suc 2 at.0), omega (arith, at.1, pow-suc 2 (suc at.0))))
    ])

-- two polynomials of degree below d
pub carryless_below : (d a b : ℕ) → a < 2 ^ d → b < 2 ^ d → carryless a b < 2 ^ (d + (d - 1))
carryless_below d a b h g =
    elim (cases_lt 0 a) [
      | inl l ↦
          elim (cases_lt 0 b) [
            | inl m ↦
                let i = degree_of a l in
                let j = degree_of b m in
                let p : HasDegree (carryless a b) (i.0 + j.0) = degree_product i.0 j.0 a b i.1 j.1 in
                let i2 : i.0 < d = pow_order i.0 d (omega (arith, i.1)) in
                let j2 : j.0 < d = pow_order j.0 d (omega (arith, j.1)) in
                omega (arith, p, pow_mono {i = suc (i.0 + j.0)} {j = d + (d - 1)} (omega arith))
            | inr m ↦ let z : b ≡ 0 = omega arith in rw (z, carryless-zero_r a) (pow_pos (d + (d - 1)))
          ]
      | inr m ↦ let z : a ≡ 0 = omega arith in rw (z, carryless-zero_l b) (pow_pos (d + (d - 1)))
    ]

-- ---- differences

-- the highest bit is 1
pub top_bit : (e a : ℕ) → HasDegree a e → a / 2 ^ e ≡ 1
top_bit e a degree =
    let r : a - 2 ^ e < 2 ^ e = omega (arith, pow-suc 2 e, degree) in
    let p : a ≡ 1 * 2 ^ e + (a - 2 ^ e) = omega (arith, degree) in
    ap (λ x. x / 2 ^ e) p ∙ high 1 e r

-- numbers of one degree differ in lower bits alone
pub same_degree_below : (e a n : ℕ) → HasDegree a e → HasDegree n e → bit_xor a n < 2 ^ e
same_degree_below e a n da dn =
    let r : a - 2 ^ e < 2 ^ e = omega (arith, pow-suc 2 e, da) in
    let s : n - 2 ^ e < 2 ^ e = omega (arith, pow-suc 2 e, dn) in
    let p : a ≡ 1 * 2 ^ e + (a - 2 ^ e) = omega (arith, da) in
    let q : n ≡ 1 * 2 ^ e + (n - 2 ^ e) = omega (arith, dn) in
    let v : bit_xor a n ≡ bit_xor (a - 2 ^ e) (n - 2 ^ e) =
    ap₂ bit_xor p q ∙ xor_block e 1 1 (a - 2 ^ e) (n - 2 ^ e) r s
    ∙ ap (λ x. x + bit_xor (a - 2 ^ e) (n - 2 ^ e)) (zero-mul (2 ^ e)) ∙ zero-add (bit_xor (a - 2 ^ e) (n - 2 ^ e)) in
    rw v (xor_lt e (a - 2 ^ e) (n - 2 ^ e) r s)

pub step_below : (e a n : ℕ) → a < 2 ^ suc e → HasDegree n e → bit_xor a (a / 2 ^ e % 2 * n) < 2 ^ e
step_below e a n h degree =
    elim (cases_lt a (2 ^ e)) [
      | inl l ↦
          let p : a / 2 ^ e ≡ 0 = div-eq_of_lt l in
          rw (p, zero-mul n, xor_zero_r a) l
      | inr g ↦
          let t : a / 2 ^ e ≡ 1 = top_bit e a (g, h) in
          let u : a / 2 ^ e % 2 * n ≡ n = ap (λ x. x % 2 * n) t ∙ one-mul n in
          rw u (same_degree_below e a n (g, h) degree)
    ]

pub shifted_degree : (k d m : ℕ) → HasDegree m d → HasDegree (2 ^ k * m) (d + k)
shifted_degree k d m degree =
    let p : 2 ^ (d + k) ≡ 2 ^ d * 2 ^ k = pow-add 2 d k in
    let q : 2 ^ suc (d + k) ≡ 2 ^ suc d * 2 ^ k = pow-suc 2 (d + k) ∙ (rw (p, pow-suc 2 d) (omega arith)) in (
      rw p (rw (mul_comm (2 ^ k) m) (mul-le-mul_right (2 ^ k) degree.0)),
      rw (q, mul_comm (2 ^ k) m) (mul-lt-mul_of_pos_right degree.1 (pow_pos k)),
    )
