-- How many products are made at most.
use Rattle.std.proofs.Common.{◌≡◌, ◌≤◌, ◌+◌, ◌-◌, ◌*◌, ◌^◌, ℕ, zero, suc, arith}
use Rattle.std.specs.Prelude.{cond, nat_lt, nat_le, bit_xor}
use Rattle.std.proofs.lemmas.Bool.{cond_both}
use native.Mathlib.Nat.{pow-suc}
use Rattle.field_transform.specs.Steps.{butterflies, products_of_powers, products_of_conversion, products_of_values}

pub powers_bounded : (block n known : ℕ) → products_of_powers block n known + n + 2 ≤ 2 * 2 ^ n
unfolding products_of_powers
powers_bounded block zero known = omega arith
powers_bounded block (suc n) known =
    let half = 2 ^ n * block in
    cond_both (nat_le known half) (products_of_powers block n known)
    (n + 1 + products_of_powers block n half + products_of_powers block n (known - half))
    (λ p. p + suc n + 2 ≤ 2 * 2 ^ suc n)
    (λ _. omega (arith, powers_bounded block n known, pow-suc 2 n))
    (λ _. omega (arith, powers_bounded block n half, powers_bounded block n (known - half), pow-suc 2 n))

one_level : (n known : ℕ) → suc n * known ≡ n * known + known
one_level n known = grind arith

-- one for each known word and level, and two for each block
pub conversion_bounded : (block n known : ℕ) → products_of_conversion block n known + 2 ≤ n * known + 2 * 2 ^ n
unfolding products_of_conversion
conversion_bounded block zero known = omega arith
conversion_bounded block (suc n) known =
    omega (
      arith,
      one_level n known,
      powers_bounded (2 * block) n known,
      conversion_bounded (2 * block) n known,
      pow-suc 2 n,
    )

apart : (p b w : ℕ) → (p + 2 * b) * w ≡ p * w + (b * w + b * w)
apart p b w = grind arith

-- one for each word of a butterfly, and two for each row
pub values_bounded : (width n c k : ℕ) → products_of_values width n c k + 2 * n + 2 ≤ butterflies n * width + 2 * 2 ^ n
unfolding products_of_values
values_bounded width zero c k = omega arith
values_bounded width (suc n) c k =
    let p = 2 ^ n in
    let b = butterflies n in
    let low = products_of_values width n c in
    let high = products_of_values width n (bit_xor c p) (k - p) in
    let some : cond (nat_lt c p) 0 (p * width) ≤ p * width =
    cond_both (nat_lt c p) 0 (p * width) (λ q. q ≤ p * width) (λ _. omega arith) (λ _. omega arith) in
    let both : cond (nat_le k p) (low k) (low p + high) + 4 * n + 4 ≤ 2 * (b * width) + 2 * 2 ^ suc n =
    cond_both (nat_le k p) (low k) (low p + high) (λ q. q + 4 * n + 4 ≤ 2 * (b * width) + 2 * 2 ^ suc n)
    (λ _. omega (arith, values_bounded width n c k, pow-suc 2 n))
    (λ _. omega (arith, values_bounded width n c p, values_bounded width n (bit_xor c p) (k - p), pow-suc 2 n)) in
    omega (arith, some, both, apart p b width)
