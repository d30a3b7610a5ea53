-- The powers of x in the field of 65,536 elements, in tables. This project's own.
use Rattle.std.specs.Prelude.{ℕ, zero, suc, ◌<◌, ◌≡◌, List, length, get_or}
use Rattle.field_elements.specs.Gf16.{gf16}

-- x to the power k
unfoldable pub power_of_x : ℕ → ℕ
power_of_x zero = 1
power_of_x (suc k) = gf16.times 2 (power_of_x k)

-- `powers` has x to the power k at each k below 65,536, and `exponents` has at each element but zero an exponent of it
pub record AreTables (powers exponents : List ℕ) : Type 0 where
  pub many : length powers ≡ 65536
  pub full : length exponents ≡ 65536
  pub powers_are : (k : ℕ) → k < 65536 → get_or powers k 0 ≡ power_of_x k
  pub exponents_are : (a : ℕ) → 0 < a → a < 65536 → power_of_x (get_or exponents a 0) ≡ a
