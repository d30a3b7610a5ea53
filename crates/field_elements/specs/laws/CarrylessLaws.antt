-- The carryless product is that of a commutative ring, whose sum is exclusive or.
use Rattle.std.proofs.Common.{◌≡◌, ℕ, zero, suc, ◌*◌, ◌/◌, ◌%◌, ◌^◌, ◌<◌, refl, sym, ap, ap₂, ◌∙◌, arith}
use native.Mathlib.Nat.{zero-mul, one-mul, mul-zero, mul-one, pow-suc}
use lib.Bits.{bit_xor, xor_shr, xor_mod}
use lib.Arith.{bin_ind}
use Rattle.field_elements.specs.Carryless.{product_of_bits, carryless}
use Rattle.field_elements.specs.laws.Xor.{xor_swap, double_xor, lowest_apart, digit_xor, xor_digit}

-- ---- the step

half_below : (k a : ℕ) → a < 2 ^ suc k → a / 2 < 2 ^ k
half_below k a h = omega (arith, pow-suc 2 k)

pub below_power : (n : ℕ) → n < 2 ^ n
below_power zero = omega arith
below_power (suc n) = omega (arith, pow-suc 2 n, below_power n)

product_none : (k b : ℕ) → product_of_bits k 0 b ≡ 0
unfolding product_of_bits
product_none zero b = refl
product_none (suc k) b = rw (product_none k b, zero-mul)

-- as many bits as a has are enough
pub product_enough : (k m a b : ℕ) → a < 2 ^ k → a < 2 ^ m → product_of_bits k a b ≡ product_of_bits m a b
unfolding product_of_bits
product_enough zero m a b h g = let e : a ≡ 0 = omega arith in rw e (sym (product_none m b))
product_enough (suc k) zero a b h g = let e : a ≡ 0 = omega arith in rw e (product_none (suc k) b)
product_enough (suc k) (suc m) a b h g =
    ap (λ x. bit_xor (a % 2 * b) (2 * x)) (product_enough k m (a / 2) b (half_below k a h) (half_below m a g))

pub carryless_bits : (k a b : ℕ) → a < 2 ^ k → carryless a b ≡ product_of_bits k a b
unfolding carryless
carryless_bits k a b h = product_enough a k a b (below_power a) h

pub carryless_step : (a b : ℕ) → carryless a b ≡ bit_xor (a % 2 * b) (2 * carryless (a / 2) b)
unfolding carryless product_of_bits
carryless_step a b =
    product_enough a (suc a) a b (below_power a) (omega (arith, pow-suc 2 a, below_power a))
    ∙ ap (λ x. bit_xor (a % 2 * b) (2 * x))
    (product_enough a (a / 2) (a / 2) b (omega (arith, below_power a)) (below_power (a / 2)))

pub carryless-zero_l : (b : ℕ) → carryless 0 b ≡ 0
unfolding carryless product_of_bits
carryless-zero_l b = refl

-- ---- the laws

pub carryless-zero_r : (a : ℕ) → carryless a 0 ≡ 0
carryless-zero_r =
    bin_ind (λ n. carryless n 0 ≡ 0) (carryless-zero_l 0)
    (λ n ih. carryless_step n 0 ∙ ap₂ (λ x y. bit_xor x (2 * y)) (mul-zero (n % 2)) ih)

pub carryless_xor_r : (a b c : ℕ) → carryless a (bit_xor b c) ≡ bit_xor (carryless a b) (carryless a c)
carryless_xor_r =
    bin_ind (λ n. (b c : ℕ) → carryless n (bit_xor b c) ≡ bit_xor (carryless n b) (carryless n c))
    (λ b c. rw (carryless-zero_l (bit_xor b c), carryless-zero_l b, carryless-zero_l c))
    (λ n ih b c.
    carryless_step n (bit_xor b c)
    ∙ ap₂ bit_xor (digit_xor (n % 2) b c (omega arith))
    (ap (λ x. 2 * x) (ih b c) ∙ double_xor (carryless (n / 2) b) (carryless (n / 2) c))
    ∙ xor_swap (n % 2 * b) (n % 2 * c) (2 * carryless (n / 2) b) (2 * carryless (n / 2) c)
    ∙ sym (ap₂ bit_xor (carryless_step n b) (carryless_step n c)))

pub carryless_xor_l : (a b c : ℕ) → carryless (bit_xor a b) c ≡ bit_xor (carryless a c) (carryless b c)
carryless_xor_l =
    bin_ind (λ n. (b c : ℕ) → carryless (bit_xor n b) c ≡ bit_xor (carryless n c) (carryless b c))
    (λ b c. rw (carryless-zero_l c))
    (λ n ih b c.
    carryless_step (bit_xor n b) c
    ∙ ap₂ bit_xor
    (ap (λ x. x * c) (xor_mod n b 1) ∙ xor_digit (n % 2) (b % 2) c (omega arith) (omega arith))
    (ap (λ x. 2 * carryless x c) (xor_shr n b 1) ∙ ap (λ x. 2 * x) (ih (b / 2) c)
    ∙ double_xor (carryless (n / 2) c) (carryless (b / 2) c))
    ∙ xor_swap (n % 2 * c) (b % 2 * c) (2 * carryless (n / 2) c) (2 * carryless (b / 2) c)
    ∙ sym (ap₂ bit_xor (carryless_step n c) (carryless_step b c)))

pub carryless_double_l : (a b : ℕ) → carryless (2 * a) b ≡ 2 * carryless a b
carryless_double_l a b =
    let p : 2 * a % 2 ≡ 0 = omega arith in
    let q : 2 * a / 2 ≡ a = omega arith in
    carryless_step (2 * a) b ∙ ap₂ (λ x y. bit_xor (x * b) (2 * carryless y b)) p q
    ∙ ap (λ x. bit_xor x (2 * carryless a b)) (zero-mul b)

pub carryless_double_r : (a b : ℕ) → carryless a (2 * b) ≡ 2 * carryless a b
carryless_double_r =
    bin_ind (λ n. (b : ℕ) → carryless n (2 * b) ≡ 2 * carryless n b)
    (λ b. rw (carryless-zero_l (2 * b), carryless-zero_l b))
    (λ n ih b.
    let p : n % 2 * (2 * b) ≡ 2 * (n % 2 * b) = omega arith in
    carryless_step n (2 * b) ∙ ap₂ bit_xor p (ap (λ x. 2 * x) (ih b))
    ∙ sym (double_xor (n % 2 * b) (2 * carryless (n / 2) b)) ∙ ap (λ x. 2 * x) (sym (carryless_step n b)))

pub carryless-one_r : (a : ℕ) → carryless a 1 ≡ a
carryless-one_r =
    bin_ind (λ n. carryless n 1 ≡ n) (carryless-zero_l 1)
    (λ n ih. carryless_step n 1 ∙ ap₂ (λ x y. bit_xor x (2 * y)) (mul-one (n % 2)) ih ∙ lowest_apart n)

-- a digit as a factor
pub carryless_digit_r : (d b : ℕ) → d < 2 → carryless b d ≡ d * b
carryless_digit_r zero b h = carryless-zero_r b ∙ sym (zero-mul b)
carryless_digit_r (suc zero) b h = carryless-one_r b ∙ sym (one-mul b)
carryless_digit_r (suc (suc d)) b h = absurd (omega arith)

pub carryless_digit_l : (d b c : ℕ) → d < 2 → carryless (d * b) c ≡ d * carryless b c
carryless_digit_l zero b c h =
    ap (λ x. carryless x c) (zero-mul b) ∙ carryless-zero_l c ∙ sym (zero-mul (carryless b c))
carryless_digit_l (suc zero) b c h = ap (λ x. carryless x c) (one-mul b) ∙ sym (one-mul (carryless b c))
carryless_digit_l (suc (suc d)) b c h = absurd (omega arith)

pub carryless_comm : (a b : ℕ) → carryless a b ≡ carryless b a
carryless_comm =
    bin_ind (λ n. (b : ℕ) → carryless n b ≡ carryless b n)
    (λ b. carryless-zero_l b ∙ sym (carryless-zero_r b))
    (λ n ih b.
    carryless_step n b
    ∙ ap₂ bit_xor (sym (carryless_digit_r (n % 2) b (omega arith)))
    (ap (λ x. 2 * x) (ih b) ∙ sym (carryless_double_r b (n / 2)))
    ∙ sym (carryless_xor_r b (n % 2) (2 * (n / 2))) ∙ ap (carryless b) (lowest_apart n))

pub carryless-one_l : (b : ℕ) → carryless 1 b ≡ b
carryless-one_l b = carryless_comm 1 b ∙ carryless-one_r b

pub carryless_assoc : (a b c : ℕ) → carryless (carryless a b) c ≡ carryless a (carryless b c)
carryless_assoc =
    bin_ind (λ n. (b c : ℕ) → carryless (carryless n b) c ≡ carryless n (carryless b c))
    (λ b c. ap (λ x. carryless x c) (carryless-zero_l b) ∙ carryless-zero_l c ∙ sym (carryless-zero_l (carryless b c)))
    (λ n ih b c.
    ap (λ x. carryless x c) (carryless_step n b)
    ∙ carryless_xor_l (n % 2 * b) (2 * carryless (n / 2) b) c
    ∙ ap₂ bit_xor (carryless_digit_l (n % 2) b c (omega arith))
    (carryless_double_l (carryless (n / 2) b) c ∙ ap (λ x. 2 * x) (ih b c))
    ∙ sym (carryless_step n (carryless b c)))
