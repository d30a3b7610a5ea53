-- The subspaces of the points of small numbers in a field of characteristic two, the polynomial of each, and the basis
-- of their
-- products.
-- Cantor 1989; von zur Gathen and Gerhard 1996; Gao and Mateer 2010; the normalised basis is that of Lin, Chung and Han
-- 2014.
use Rattle.std.specs.Prelude.{ℕ, zero, suc, List, ◌^◌, take, drop, slice_index_or}
use Rattle.field_elements.specs.Field.{Operations}

-- the square of h plus h, times i
abbrev pub next_hat : {E : Type 0} → Operations E → E → E → E
next_hat o i h = o.times i (o.plus (o.times h h) h)

-- at x, the polynomial that is 0 at the point of each number below 2 to the power n, and 1 at that of 2 to the power n:
-- that of
-- n is the square of the one before it plus that one, divided by what this is at the point of 2 to the power n
-- (`inverse` has the
-- inverses of these divisors)
abbrev pub hats : {E : Type 0} → Operations E → (ℕ → E) → ℕ → E → E
hats o inverse zero x = x
hats o inverse (suc n) x = next_hat o (inverse n) (hats o inverse n x)

-- the value at x of 2 to the power n coefficients in the basis of the products of these polynomials: coefficient k is
-- that of the
-- product of the polynomials of j, over the bits j of k
abbrev pub value_in_basis : {E : Type 0} → Operations E → (ℕ → E) → ℕ → List E → E → E
value_in_basis o inverse zero cs x = slice_index_or cs 0 o.nought
value_in_basis o inverse (suc n) cs x =
    o.plus (value_in_basis o inverse n (take (2 ^ n) cs) x)
    (o.times (hats o inverse n x) (value_in_basis o inverse n (drop (2 ^ n) cs) x))

-- y to the power 2 to the power n
abbrev pub squared : {E : Type 0} → Operations E → ℕ → E → E
squared o zero y = y
squared o (suc n) y = squared o n (o.times y y)
