-- What the transform needs of a field: characteristic two, points that add up as their numbers do, and the constants of
-- the subspaces.
use Rattle.std.specs.Prelude.{◌≡◌, ℕ, suc, ◌<◌, ◌≤◌, ◌^◌, bit_xor}
use Rattle.field_elements.specs.Field.{Operations}
use Rattle.field_transform.specs.Basis.{hats}

-- the point of a sum of numbers below `count`, bit by bit, is the sum of their points
pub record AddUp {E : Type 0} (o : Operations E) (count : ℕ) (point : ℕ → E) : Type 0 where
  pub closed : (i j : ℕ) → i < count → j < count → bit_xor i j < count
  pub sum : (i j : ℕ) → i < count → j < count → point (bit_xor i j) ≡ o.plus (point i) (point j)

-- the constants for m levels, where the subspace of n is spanned by b 0 .. b (n - 1): `inverse n` makes polynomial n +
-- 1 one at
-- b (n + 1), and `factor n` is its inverse
pub record AreFactors {E : Type 0} (is_element : E → Type 0) (o : Operations E) (b : ℕ → E) (m : ℕ)
    (factor inverse : ℕ → E) : Type 0 where
  pub base : (n : ℕ) → n < m → is_element (b n)
  pub first : b 0 ≡ o.unit
  pub factor_is : (n : ℕ) → suc n < m → is_element (factor n)
  pub inverse_is : (n : ℕ) → suc n < m → is_element (inverse n)
  pub inverts : (n : ℕ) → suc n < m → o.times (factor n) (inverse n) ≡ o.unit
  pub one : (n : ℕ) → suc n < m → hats o inverse (suc n) (b (suc n)) ≡ o.unit

-- all of it, with a point for each number below `count`: b n is the point of 2 to the power n
pub record HasSubspaces {E : Type 0} (is_element : E → Type 0) (o : Operations E) (count : ℕ) (point : ℕ → E)
    (levels : ℕ) (factor inverse : ℕ → E) : Type 0 where
  pub two : (a : E) → is_element a → o.plus a a ≡ o.nought
  pub sums : AddUp o count point
  pub room : (n : ℕ) → n < levels → 2 ^ n < count
  pub few : count ≤ 2 ^ 32
  pub constants : AreFactors is_element o (λ n. point (2 ^ n)) levels factor inverse
