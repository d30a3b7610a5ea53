-- For callers: the products of a factor with nibbles, from its doubles, in any binary field of degree 8 at least.
use Rattle.std.proofs.Common.{◌≡◌, ℕ, zero, suc, ◌+◌, ◌*◌, ◌/◌, ◌%◌, ◌<◌, ◌≤◌, ◌^◌, bit_xor, inl, inr, refl, sym, ap, ap₂}
use Rattle.std.proofs.Common.{◌∙◌, arith}
use Rattle.std.proofs.lemmas.Bool.{cases_lt}
use Rattle.std.proofs.lemmas.Nat.{xor_lt, xor_comm}
use lib.Bits.{xor_shifted}
use lib.Pow.{pow_mono}
use native.Mathlib.Nat.{zero-mul, one-mul, mul_comm, pow-suc, div-eq_of_lt, div-lt_iff_lt-mul}
use Rattle.field_elements.specs.Carryless.{carryless}
use Rattle.field_elements.specs.laws.CarrylessLaws.{carryless_double_r, carryless-zero_r, carryless-one_r, carryless-one_l}
use Rattle.field_elements.specs.laws.Degrees.{same_degree_below}
use Rattle.field_elements.specs.laws.Division.{carryless_power, Same-refl}
use Rattle.field_elements.specs.BinaryField.{IsModulus, IsProduct, times}
use Rattle.field_elements.specs.laws.Xor.{xor_cancel}
use Rattle.field_elements.specs.laws.ResidueLaws.{times_xor, is_times, times_assoc, times-one}

-- two parts that share no bit
pub apart : (k hi lo : ℕ) → lo < 2 ^ k → bit_xor lo (hi * 2 ^ k) ≡ hi * 2 ^ k + lo
apart k hi lo h = xor_comm lo (hi * 2 ^ k) ∙ xor_shifted hi k lo h

four : (n : ℕ) → n < 16 → bit_xor (bit_xor (bit_xor (n % 2 * 1) (n / 2 % 2 * 2)) (n / 4 % 2 * 4)) (n / 8 % 2 * 8) ≡ n
four n h =
    let p0 : bit_xor (n % 2 * 1) (n / 2 % 2 * 2) ≡ n % 4 =
    apart 1 (n / 2 % 2) (n % 2 * 1) (omega arith) ∙ omega arith in
    let p1 : bit_xor (n % 4) (n / 4 % 2 * 4) ≡ n % 8 = apart 2 (n / 4 % 2) (n % 4) (omega arith) ∙ omega arith in
    let p2 : bit_xor (n % 8) (n / 8 % 2 * 8) ≡ n = apart 3 (n / 8 % 2) (n % 8) (omega arith) ∙ omega arith in
    ap (λ t. bit_xor (bit_xor t (n / 4 % 2 * 4)) (n / 8 % 2 * 8)) p0 ∙ ap (λ t. bit_xor t (n / 8 % 2 * 8)) p1 ∙ p2

twice_of : (a : ℕ) → carryless a 2 ≡ a * 2
twice_of a = carryless_double_r a 1 ∙ ap (λ t. 2 * t) (carryless-one_r a) ∙ mul_comm 2 a

module _ (d m : ℕ) (modulus : IsModulus d m) (wide : 8 ≤ d) where
  room : 256 ≤ 2 ^ d
  room = pow_mono {i = 8} {j = d} wide

  product : (a b c : ℕ) → a < 2 ^ d → b < 2 ^ d → IsProduct d m a b c → c ≡ times d m a b
  product = is_times d m modulus.some modulus.degree

  double_plain : (a : ℕ) → a * 2 < 2 ^ d → a * 2 ≡ times d m a 2
  double_plain a g =
      product a 2 (a * 2) (omega (arith, g)) (omega (arith, room))
      (record { below = g; congruent = rw (twice_of a) (Same-refl m (a * 2)) })

  double_long : (a : ℕ) → a < 2 ^ d → 2 ^ d ≤ a * 2 → bit_xor (a * 2) m ≡ times d m a 2
  double_long a h g =
      product a 2 (bit_xor (a * 2) m) h (omega (arith, room))
      (record {
        below = same_degree_below d (a * 2) m (g, omega (arith, h, pow-suc 2 d)) modulus.degree;
        congruent = (1, rw (twice_of a) (xor_cancel (a * 2) m) ∙ sym (carryless-one_l m));
      })

  -- what is shifted, and where it does not fit, with the modulus

  pub double_under : (a t : ℕ) → t ≡ a → t * 2 / 2 ^ d ≡ 0 → t * 2 ≡ times d m a 2
  double_under a t e none =
      let under : t * 2 / 2 ^ d < 1 = omega (arith, none) in
      let small : t * 2 < 1 * 2 ^ d = (div-lt_iff_lt-mul {k = 2 ^ d} {x = t * 2} {y = 1} (omega (arith, room))).0 under in
      ap (λ n. n * 2) e ∙ double_plain a (omega (arith, small, e))

  pub double_over : (a t : ℕ) → t ≡ a → a < 2 ^ d → (t * 2 / 2 ^ d ≡ 0 → ⊥)
      → (bit_xor (t * 2) m < 2 ^ d) × (bit_xor (t * 2) m ≡ times d m a 2)
  double_over a t e h ne =
      elim (cases_lt (t * 2) (2 ^ d)) [
        | inl l ↦ absurd (ne (div-eq_of_lt l))
        | inr g ↦ (
          same_degree_below d (t * 2) m (g, omega (arith, e, h, pow-suc 2 d)) modulus.degree,
          ap (λ n. bit_xor (n * 2) m) e ∙ double_long a h (omega (arith, g, e)),
        )
      ]

  -- ---- a double more

  double_more : (x y i : ℕ) → x < 2 ^ d → i * 2 < 2 ^ d → y ≡ times d m x i → times d m y 2 ≡ times d m x (i * 2)
  double_more x y i h g e =
      ap (λ t. times d m t 2) e
      ∙ times_assoc d m modulus.some modulus.degree x i 2 h (omega (arith, g)) (omega (arith, room))
      ∙ ap (times d m x) (sym (double_plain i g))

  doubles : (x x2 x4 x8 x16 : ℕ) → x < 2 ^ d → x2 ≡ times d m x 2 → x4 ≡ times d m x2 2 → x8 ≡ times d m x4 2
      → x16 ≡ times d m x8 2 → (x4 ≡ times d m x 4) × (x8 ≡ times d m x 8) × (x16 ≡ times d m x 16)
  doubles x x2 x4 x8 x16 h e2 e4 e8 e16 =
      let p4 : x4 ≡ times d m x 4 = e4 ∙ double_more x x2 2 h (omega (arith, room)) e2 in
      let p8 : x8 ≡ times d m x 8 = e8 ∙ double_more x x4 4 h (omega (arith, room)) p4 in
      (p4, p8, e16 ∙ double_more x x8 8 h (omega (arith, room)) p8)

  -- ---- a nibble

  pub linear : (x a b : ℕ) → x < 2 ^ d → a < 2 ^ d → b < 2 ^ d
      → times d m x (bit_xor a b) ≡ bit_xor (times d m x a) (times d m x b)
  linear = times_xor d m modulus.some modulus.degree

  pub times_none : (x : ℕ) → x < 2 ^ d → times d m x 0 ≡ 0
  times_none x h =
      sym (product x 0 0 h (omega (arith, room))
      (record { below = omega (arith, room); congruent = rw (carryless-zero_r x) (Same-refl m 0) }))

  digit : (x e b : ℕ) → x < 2 ^ d → e < 2 → times d m x (e * b) ≡ e * times d m x b
  digit x zero b h g = ap (times d m x) (zero-mul b) ∙ times_none x h ∙ sym (zero-mul (times d m x b))
  digit x (suc zero) b h g = ap (times d m x) (one-mul b) ∙ sym (one-mul (times d m x b))
  digit x (suc (suc e)) b h g = absurd (omega arith)

  nibble : (x x2 x4 x8 n : ℕ) → x < 2 ^ d → n < 16 → x2 ≡ times d m x 2 → x4 ≡ times d m x 4 → x8 ≡ times d m x 8
      → bit_xor (bit_xor (bit_xor (n % 2 * x) (n / 2 % 2 * x2)) (n / 4 % 2 * x4)) (n / 8 % 2 * x8) ≡ times d m x n
  nibble x x2 x4 x8 n h g e2 e4 e8 =
      let n0 = n % 2 * 1 in
      let n1 = n / 2 % 2 * 2 in
      let n2 = n / 4 % 2 * 4 in
      let n3 = n / 8 % 2 * 8 in
      let b0 : n0 < 2 ^ d = omega (arith, room) in
      let b1 : n1 < 2 ^ d = omega (arith, room) in
      let b2 : n2 < 2 ^ d = omega (arith, room) in
      let b3 : n3 < 2 ^ d = omega (arith, room) in
      let b01 = xor_lt d n0 n1 b0 b1 in
      let b012 = xor_lt d (bit_xor n0 n1) n2 b01 b2 in
      let T : ℕ → ℕ = times d m x in
      let one : T 1 ≡ x = times-one d m modulus.some modulus.degree x h in
      let d0 : T n0 ≡ n % 2 * x = digit x (n % 2) 1 h (omega arith) ∙ ap (λ t. n % 2 * t) one in
      let d1 : T n1 ≡ n / 2 % 2 * x2 = digit x (n / 2 % 2) 2 h (omega arith) ∙ ap (λ t. n / 2 % 2 * t) (sym e2) in
      let d2 : T n2 ≡ n / 4 % 2 * x4 = digit x (n / 4 % 2) 4 h (omega arith) ∙ ap (λ t. n / 4 % 2 * t) (sym e4) in
      let d3 : T n3 ≡ n / 8 % 2 * x8 = digit x (n / 8 % 2) 8 h (omega arith) ∙ ap (λ t. n / 8 % 2 * t) (sym e8) in
      sym
      (ap T (sym (four n g)) ∙ linear x (bit_xor (bit_xor n0 n1) n2) n3 h b012 b3
      ∙ ap₂ bit_xor
      (linear x (bit_xor n0 n1) n2 h b01 b2 ∙ ap₂ bit_xor (linear x n0 n1 h b0 b1 ∙ ap₂ bit_xor d0 d1) d2) d3)

  -- ---- the sixteen products, from the doubles

  module _ (x x2 x4 x8 : ℕ) (h : x < 2 ^ d) (e2 : x2 ≡ times d m x 2) (e4 : x4 ≡ times d m x2 2)
      (e8 : x8 ≡ times d m x4 2) where
    pub sixteen : (x16 : ℕ) → x16 ≡ times d m x8 2 → x16 ≡ times d m x 16
    sixteen x16 e16 = (doubles x x2 x4 x8 x16 h e2 e4 e8 e16).2

    pub picked : (n p0 p1 p2 p3 : ℕ) → n < 16 → p0 ≡ n % 2 * x → p1 ≡ n / 2 % 2 * x2 → p2 ≡ n / 4 % 2 * x4
        → p3 ≡ n / 8 % 2 * x8 → bit_xor (bit_xor (bit_xor p0 p1) p2) p3 ≡ times d m x n
    picked n p0 p1 p2 p3 g a0 a1 a2 a3 =
        let all = doubles x x2 x4 x8 (times d m x8 2) h e2 e4 e8 refl in
        ap₂ bit_xor (ap₂ bit_xor (ap₂ bit_xor a0 a1) a2) a3 ∙ nibble x x2 x4 x8 n h g e2 all.0 all.1

  -- ---- a place

  shift : (k n : ℕ) → 2 ^ k < 2 ^ d → n < 2 ^ d → n * 2 ^ k < 2 ^ d → times d m (2 ^ k) n ≡ n * 2 ^ k
  shift k n h g b =
      sym (product (2 ^ k) n (n * 2 ^ k) h g
      (record { below = b; congruent = rw (carryless_power k n, mul_comm (2 ^ k) n) (Same-refl m (n * 2 ^ k)) }))

  pub placed : (x y k n : ℕ) → x < 2 ^ d → 2 ^ k < 2 ^ d → n < 2 ^ d → n * 2 ^ k < 2 ^ d → y ≡ times d m x (2 ^ k)
      → times d m y n ≡ times d m x (n * 2 ^ k)
  placed x y k n h hk hn b e =
      ap (λ t. times d m t n) e ∙ times_assoc d m modulus.some modulus.degree x (2 ^ k) n h hk hn
      ∙ ap (times d m x) (shift k n hk hn b)
