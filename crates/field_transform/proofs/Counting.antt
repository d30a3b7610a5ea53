-- How many products are made.
use Rattle.std.proofs.Common.{◌≡◌, ◌≤◌, ◌<◌, ◌+◌, ◌-◌, ◌*◌, ◌^◌, ℕ, zero, suc, Bool, true, false, inl, inr, refl, sym}
use Rattle.std.proofs.Common.{ap, ap₂, ◌∙◌, arith, subst, bit_xor}
use Rattle.std.specs.Prelude.{cond, nat_lt, nat_le}
use Rattle.std.proofs.lemmas.Bool.{cases_lt, cases_Bool, cond-true, cond-false, lt-ltb, le-ltb, le-leb, lt-leb}
use Rattle.std.proofs.lemmas.Nat.{mul-le, pow-add}
use native.Mathlib.Nat.{pow-suc}
use lib.Pow.{pow_pos}
use Rattle.field_transform.specs.Steps.{butterflies, products_of_powers, products_of_conversion, products_of_values}
use Rattle.field_transform.specs.laws.StepLaws.{conversion_bounded, values_bounded}

-- ---- the butterflies

values_none : (w c k : ℕ) → products_of_values w 0 c k ≡ 0
unfolding products_of_values
values_none w c k = refl

values_low : (w n c k : ℕ) → k ≤ 2 ^ n
    → products_of_values w (suc n) c k ≡ 2 * n + cond (nat_lt c (2 ^ n)) 0 (2 ^ n * w) + products_of_values w n c k
unfolding products_of_values
values_low w n c k l =
    ap (λ z. 2 * n + cond (nat_lt c (2 ^ n)) 0 (2 ^ n * w) + z)
    (cond-true (nat_le k (2 ^ n)) (products_of_values w n c k)
    (products_of_values w n c (2 ^ n) + products_of_values w n (bit_xor c (2 ^ n)) (k - 2 ^ n)) (le-leb k (2 ^ n) l))

values_both : (w n c k : ℕ) → 2 ^ n < k → products_of_values w (suc n) c k
    ≡ 2 * n + cond (nat_lt c (2 ^ n)) 0 (2 ^ n * w)
    + (products_of_values w n c (2 ^ n) + products_of_values w n (bit_xor c (2 ^ n)) (k - 2 ^ n))
unfolding products_of_values
values_both w n c k l =
    ap (λ z. 2 * n + cond (nat_lt c (2 ^ n)) 0 (2 ^ n * w) + z)
    (cond-false (nat_le k (2 ^ n)) (products_of_values w n c k)
    (products_of_values w n c (2 ^ n) + products_of_values w n (bit_xor c (2 ^ n)) (k - 2 ^ n)) (lt-leb k (2 ^ n) l))

-- products that are made unless c is in the subspace
skipped : (c p h s1 s2 : ℕ) → (c < p → s2 ≡ s1) → (p ≤ c → s2 ≡ s1 + h) → s2 ≡ s1 + cond (nat_lt c p) 0 h
skipped c p h s1 s2 f g =
    elim (cases_lt c p) [
      | inl l ↦ omega (arith, f l, cond-true (nat_lt c p) 0 h (lt-ltb c p l))
      | inr l ↦ omega (arith, g l, cond-false (nat_lt c p) 0 h (le-ltb c p l))
    ]

pub fly_cost : (level n w c half bit count s0 s1 s2 s3 s4 high : ℕ) → level ≡ suc n → high ≡ 2 ^ n * w → half ≡ 2 ^ n
    → bit ≡ 2 ^ n → half < count → s1 ≡ s0 + 2 * n
    → (c < 2 ^ n → s2 ≡ s1) → (2 ^ n ≤ c → s2 ≡ s1 + high) → s3 ≡ s2 + products_of_values w n c half
    → s4 ≡ s3 + products_of_values w n (bit_xor c bit) (count - half)
    → s4 ≡ s0 + products_of_values w level c count
fly_cost level n w c half bit count s0 s1 s2 s3 s4 high e eh em eb some a f g x y =
    let p = 2 ^ n in
    let all : products_of_values w level c count
    ≡ 2 * n + cond (nat_lt c p) 0 (p * w)
    + (products_of_values w n c p + products_of_values w n (bit_xor c p) (count - p)) =
    ap (λ k. products_of_values w k c count) e ∙ values_both w n c count (omega arith) in
    let low : products_of_values w n c half ≡ products_of_values w n c p = ap (products_of_values w n c) em in
    let high_is : products_of_values w n (bit_xor c bit) (count - half)
    ≡ products_of_values w n (bit_xor c p) (count - p) =
    ap₂ (λ q r. products_of_values w n (bit_xor c q) (count - r)) eb em in
    omega (arith, all, low, high_is, skipped c p (p * w) s1 s2 f (λ l. g l ∙ ap (λ z. s1 + z) eh))

pub fly_low_cost : (level n w c half count s0 s1 s2 s3 high : ℕ) → level ≡ suc n → high ≡ 2 ^ n * w → half ≡ 2 ^ n
    → count ≤ half → s1 ≡ s0 + 2 * n
    → (c < 2 ^ n → s2 ≡ s1) → (2 ^ n ≤ c → s2 ≡ s1 + high) → s3 ≡ s2 + products_of_values w n c count
    → s3 ≡ s0 + products_of_values w level c count
fly_low_cost level n w c half count s0 s1 s2 s3 high e eh em few a f g x =
    let p = 2 ^ n in
    let all : products_of_values w level c count
    ≡ 2 * n + cond (nat_lt c p) 0 (p * w) + products_of_values w n c count =
    ap (λ k. products_of_values w k c count) e ∙ values_low w n c count (omega arith) in
    omega (arith, all, skipped c p (p * w) s1 s2 f (λ l. g l ∙ ap (λ z. s1 + z) eh))

pub fly_none_cost : (level w c count s : ℕ) → level ≡ 0 → s ≡ s + products_of_values w level c count
fly_none_cost level w c count s e = omega (arith, ap (λ k. products_of_values w k c count) e ∙ values_none w c count)

-- ---- the conversion

powers_none : (b k : ℕ) → products_of_powers b 0 k ≡ 0
unfolding products_of_powers
powers_none b k = refl

powers_low : (b n k : ℕ) → k ≤ 2 ^ n * b → products_of_powers b (suc n) k ≡ products_of_powers b n k
unfolding products_of_powers
powers_low b n k l =
    cond-true (nat_le k (2 ^ n * b)) (products_of_powers b n k)
    (n + 1 + products_of_powers b n (2 ^ n * b) + products_of_powers b n (k - 2 ^ n * b)) (le-leb k (2 ^ n * b) l)

powers_both : (b n k : ℕ) → 2 ^ n * b < k
    → products_of_powers b (suc n) k
    ≡ n + 1 + products_of_powers b n (2 ^ n * b) + products_of_powers b n (k - 2 ^ n * b)
unfolding products_of_powers
powers_both b n k l =
    cond-false (nat_le k (2 ^ n * b)) (products_of_powers b n k)
    (n + 1 + products_of_powers b n (2 ^ n * b) + products_of_powers b n (k - 2 ^ n * b)) (lt-leb k (2 ^ n * b) l)

-- blocks of rows
block_rows : (j n w : ℕ) → 2 ^ (j + n) * w ≡ 2 ^ n * (2 ^ j * w)
block_rows j n w = ap (λ p. p * w) (pow-add 2 j n) ∙ regroup (2 ^ j) (2 ^ n) w
  where
    regroup : (a b w : ℕ) → a * b * w ≡ b * (a * w)
    regroup a b w = grind arith

front_le : (first : Bool) (b : ℕ) → cond first b 0 ≤ b
front_le first b =
    elim (cases_Bool first) [
      | inl t ↦ omega (arith, cond-true first b 0 t)
      | inr t ↦ omega (arith, cond-false first b 0 t)
    ]

pub scale_low_cost : (level n j w half known s0 s1 : ℕ) (first : Bool) → level ≡ suc n → half ≡ 2 ^ (j + n) * w
    → known ≤ half
    → s1 ≡ s0 + (known - cond first (2 ^ j * w) 0) + products_of_powers (2 ^ j * w) n known
    → s1 ≡ s0 + (known - cond first (2 ^ j * w) 0) + products_of_powers (2 ^ j * w) level known
scale_low_cost level n j w half known s0 s1 first e eh few a =
    let b = 2 ^ j * w in
    let all : products_of_powers b level known ≡ products_of_powers b n known =
    ap (λ k. products_of_powers b k known) e ∙ powers_low b n known (omega (arith, block_rows j n w)) in
    omega (arith, all)

pub scale_both_cost : (level n j w half known s0 s1 s2 s3 s4 : ℕ) (first : Bool) → level ≡ suc n
    → half ≡ 2 ^ (j + n) * w → half < known
    → s1 ≡ s0 + n → s2 ≡ s1 + 1 → s3 ≡ s2 + (half - cond first (2 ^ j * w) 0) + products_of_powers (2 ^ j * w) n half
    → s4 ≡ s3 + (known - half - 0) + products_of_powers (2 ^ j * w) n (known - half)
    → s4 ≡ s0 + (known - cond first (2 ^ j * w) 0) + products_of_powers (2 ^ j * w) level known
scale_both_cost level n j w half known s0 s1 s2 s3 s4 first e eh some a1 a2 a3 a4 =
    let b = 2 ^ j * w in
    let h : half ≡ 2 ^ n * b = eh ∙ block_rows j n w in
    let all : products_of_powers b level known
    ≡ n + 1 + products_of_powers b n (2 ^ n * b) + products_of_powers b n (known - 2 ^ n * b) =
    ap (λ k. products_of_powers b k known) e ∙ powers_both b n known (omega arith) in
    let low : products_of_powers b n half ≡ products_of_powers b n (2 ^ n * b) = ap (products_of_powers b n) h in
    let high : products_of_powers b n (known - half) ≡ products_of_powers b n (known - 2 ^ n * b) =
    ap (λ q. products_of_powers b n (known - q)) h in
    let whole : 1 * b ≤ 2 ^ n * b = mul-le 1 b (2 ^ n) b (pow_pos n) (omega arith) in
    omega (arith, all, low, high, whole, front_le first b)

-- one block
pub scale_none_cost : (level j w known s0 s1 front : ℕ) (first : Bool) → level ≡ 0 → known ≤ 2 ^ (j + level) * w
    → front ≡ known → (first ≡ true → s1 ≡ s0) → (first ≡ false → s1 ≡ s0 + front)
    → s1 ≡ s0 + (known - cond first (2 ^ j * w) 0) + products_of_powers (2 ^ j * w) level known
scale_none_cost level j w known s0 s1 front first e few ef f g =
    let b = 2 ^ j * w in
    let none : products_of_powers b level known ≡ 0 = ap (λ k. products_of_powers b k known) e ∙ powers_none b known in
    let z : j + level ≡ j = omega arith in
    let one : 2 ^ (j + level) * w ≡ b = ap (λ i. 2 ^ i * w) z in
    elim (cases_Bool first) [
      | inl t ↦ omega (arith, none, one, f t, cond-true first b 0 t)
      | inr t ↦ omega (arith, none, one, g t, cond-false first b 0 t)
    ]

conversion_none : (b k : ℕ) → products_of_conversion b 0 k ≡ 0
unfolding products_of_conversion
conversion_none b k = refl

conversion_next : (b n k : ℕ)
    → products_of_conversion b (suc n) k
    ≡ k - 2 * b + products_of_powers (2 * b) n k + products_of_conversion (2 * b) n k
unfolding products_of_conversion
conversion_next b n k = refl

pub convert_none_cost : (level b k s : ℕ) → level ≡ 0 → s ≡ s + products_of_conversion b level k
convert_none_cost level b k s e = omega (arith, ap (λ n. products_of_conversion b n k) e ∙ conversion_none b k)

pub convert_cost : (level n j w k s0 s1 s2 : ℕ) → level ≡ suc n
    → s1 ≡ s0 + (k - 2 ^ (j + 1) * w) + products_of_powers (2 ^ (j + 1) * w) n k
    → s2 ≡ s1 + products_of_conversion (2 ^ (j + 1) * w) n k → s2 ≡ s0 + products_of_conversion (2 ^ j * w) level k
convert_cost level n j w k s0 s1 s2 e a b =
    let d : 2 ^ (j + 1) * w ≡ 2 * (2 ^ j * w) = block_rows j 1 w in
    let all : products_of_conversion (2 ^ j * w) level k
    ≡ k - 2 * (2 ^ j * w) + products_of_powers (2 * (2 ^ j * w)) n k + products_of_conversion (2 * (2 ^ j * w)) n k =
    ap (λ i. products_of_conversion (2 ^ j * w) i k) e ∙ conversion_next (2 ^ j * w) n k in
    let powers : products_of_powers (2 ^ (j + 1) * w) n k ≡ products_of_powers (2 * (2 ^ j * w)) n k =
    ap (λ q. products_of_powers q n k) d in
    let rest : products_of_conversion (2 ^ (j + 1) * w) n k ≡ products_of_conversion (2 * (2 ^ j * w)) n k =
    ap (λ q. products_of_conversion q n k) d in
    omega (arith, d, all, powers, rest)

pub from_width : (w n k s0 s1 : ℕ) → s1 ≡ s0 + products_of_conversion (2 ^ 0 * w) n k
    → s1 ≡ s0 + products_of_conversion w n k
from_width w n k s0 s1 e =
    let one : 2 ^ 0 * w ≡ w = omega arith in
    e ∙ ap (λ b. s0 + products_of_conversion b n k) one

-- ---- at most

doubled : (n : ℕ) → 2 ^ (n + 1) ≡ 2 * 2 ^ n
doubled n =
    let e : n + 1 ≡ suc n = omega arith in
    ap (λ k. 2 ^ k) e ∙ omega (arith, pow-suc 2 n)

pub conversion_most : (w n k s0 s1 : ℕ) → s1 ≡ s0 + products_of_conversion w n k → s1 ≤ s0 + n * k + 2 ^ (n + 1)
conversion_most w n k s0 s1 e = omega (arith, e, conversion_bounded w n k, doubled n)

pub values_most : (w n c k s0 s1 : ℕ) → s1 ≡ s0 + products_of_values w n c k → s1 ≤ s0 + butterflies n * w + 2 ^ (n + 1)
values_most w n c k s0 s1 e = omega (arith, e, values_bounded w n c k, doubled n)

two_halves : (p n b : ℕ) → 2 * b ≡ n * p → 2 * (p + 2 * b) ≡ suc n * (p * 2)
two_halves p n b e = grind arith

-- half as many as there are rows and levels
pub butterflies_are : (n : ℕ) → 2 * butterflies n ≡ n * 2 ^ n
butterflies_are zero = refl
butterflies_are (suc n) =
    two_halves (2 ^ n) n (butterflies n) (butterflies_are n) ∙ ap (λ p. suc n * p) (sym (pow-suc 2 n))

few_levels : (k : ℕ) → 3 * (k + 4) + 8 ≤ 2 * 2 ^ (k + 4)
few_levels zero = omega arith
few_levels (suc k) =
    let e : suc k + 4 ≡ suc (k + 4) = omega arith in
    let p : 2 ^ (suc k + 4) ≡ 2 ^ (k + 4) * 2 = ap (λ j. 2 ^ j) e ∙ pow-suc 2 (k + 4) in
    omega (arith, few_levels k, p)

spread_out : (n p b w : ℕ) → (n * p + b) * w ≡ n * p * w + b * w
spread_out n p b w = grind arith

all_of_it : (n p w : ℕ) → (3 * n + 8) * (p * w) ≡ 3 * (n * p * w) + 8 * (p * w)
all_of_it n p w = grind arith

pub whole_cost : (n k w s0 s1 s2 : ℕ) → s1 ≤ s0 + n * (k * w) + 2 ^ (n + 1) → s2 ≤ s1 + butterflies n * w + 2 ^ (n + 1)
    → s2 ≤ s0 + (n * k + butterflies n) * w + 2 ^ (n + 2)
whole_cost n k w s0 s1 s2 a b =
    let g : n + 2 ≡ suc (n + 1) = omega arith in
    let p : 2 ^ (n + 2) ≡ 2 ^ (n + 1) * 2 = ap (λ j. 2 ^ j) g ∙ pow-suc 2 (n + 1) in
    omega (arith, p, regroup n k w, spread_out n k (butterflies n) w)
  where
    regroup : (n p w : ℕ) → n * (p * w) ≡ n * p * w
    regroup n p w = grind arith

-- from 16 points on, no more products than Horner's rule makes
pub fewer : (n known w s0 s1 length : ℕ) → 4 ≤ n → 0 < w → known ≤ 2 ^ n → length ≡ 2 ^ n * w
    → s1 ≤ s0 + (n * known + butterflies n) * w + 2 ^ (n + 2)
    → s1 ≤ s0 + 2 ^ n * length
fewer n known w s0 s1 length l some few e b =
    let p = 2 ^ n in
    let rows : n * known ≤ n * p = mul-le n known n p (omega arith) few in
    let all : (n * known + butterflies n) * w ≤ (n * p + butterflies n) * w =
    mul-le (n * known + butterflies n) w (n * p + butterflies n) w (omega (arith, rows)) (omega arith) in
    let k : n - 4 + 4 ≡ n = omega arith in
    let f : 3 * n + 8 ≤ 2 * p = subst (λ j. 3 * j + 8 ≤ 2 * 2 ^ j) k (few_levels (n - 4)) in
    let g : n + 2 ≡ suc (suc n) = omega arith in
    let four : 2 ^ (n + 2) ≡ p * 2 * 2 = ap (λ j. 2 ^ j) g ∙ pow-suc 2 (suc n) ∙ ap (λ j. j * 2) (pow-suc 2 n) in
    let wide : p * 1 ≤ p * w = mul-le p 1 p w (omega arith) some in
    let m : (3 * n + 8) * (p * w) ≤ 2 * p * (p * w) = mul-le (3 * n + 8) (p * w) (2 * p) (p * w) f (omega arith) in
    let two : 2 * (butterflies n * w) ≡ n * p * w = twice_of (butterflies n) w ∙ ap (λ j. j * w) (butterflies_are n) in
    let right : 2 * p * (p * w) ≡ 2 * (p * length) = twice_of' p (p * w) ∙ ap (λ j. 2 * (p * j)) (sym e) in
    omega (arith, all, four, wide, m, two, right, spread_out n p (butterflies n) w, all_of_it n p w, b)
  where
    twice_of : (b w : ℕ) → 2 * (b * w) ≡ 2 * b * w
    twice_of b w = grind arith

    twice_of' : (p q : ℕ) → 2 * p * q ≡ 2 * (p * q)
    twice_of' p q = grind arith
