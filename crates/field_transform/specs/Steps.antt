-- How many butterflies there are, and how many products are made.
use Rattle.std.specs.Prelude.{ℕ, zero, suc, ◌+◌, ◌-◌, ◌*◌, ◌^◌, cond, nat_lt, nat_le, bit_xor}

-- on 2 to the power n rows: one for each row of the higher half, and those of both halves
abbrev pub butterflies : ℕ → ℕ
butterflies zero = 0
butterflies (suc n) = 2 ^ n + 2 * butterflies n

-- for the powers of a factor, one for each of 2 to the power n blocks of `block` words, of which the first `known` are
-- not known to be zero: n squarings
-- and a product where the higher half has such words, and those of each half that has
unfoldable pub products_of_powers : ℕ → ℕ → ℕ → ℕ
products_of_powers block zero known = 0
products_of_powers block (suc n) known =
    cond (nat_le known (2 ^ n * block)) (products_of_powers block n known)
    (n + 1 + products_of_powers block n (2 ^ n * block) + products_of_powers block n (known - 2 ^ n * block))

-- for the conversion of 2 to the power n blocks of `block` words, of which the first `known` are not known to be zero:
-- at each level, over blocks twice as long, the
-- powers of the factor, and one for each such word behind the first block, whose power is 1
unfoldable pub products_of_conversion : ℕ → ℕ → ℕ → ℕ
products_of_conversion block zero known = 0
products_of_conversion block (suc n) known =
    known - 2 * block + products_of_powers (2 * block) n known + products_of_conversion (2 * block) n known

-- for the values at the first k points of the coset of c, on 2 to the power n rows of `width` words: two for each level
-- of the polynomial at c, one for each word of
-- the higher half where it is not 0 there, and those of each half of which points are asked for
unfoldable pub products_of_values : ℕ → ℕ → ℕ → ℕ → ℕ
products_of_values width zero c k = 0
products_of_values width (suc n) c k =
    2 * n + cond (nat_lt c (2 ^ n)) 0 (2 ^ n * width)
    + cond (nat_le k (2 ^ n)) (products_of_values width n c k)
    (products_of_values width n c (2 ^ n) + products_of_values width n (bit_xor c (2 ^ n)) (k - 2 ^ n))
