-- The field of 2 ^ d elements: polynomials over GF(2) of degree below d, modulo one of degree d. Textbook algebra; that
-- the
-- point of the number i is i itself is this project's own.
use Rattle.std.specs.Prelude.{ℕ, ◌-◌, ◌^◌, ◌<◌, ◌≤◌, ◌≡◌, ◌↔◌, bit_xor}
use Rattle.field_elements.specs.Field.{Operations}
use Rattle.field_elements.specs.Carryless.{carryless, product_of_bits, remainder_of_bits, IsMultiple, HasDegree}

-- m has degree d, and its bits fit a word of 32
pub record IsModulus (d m : ℕ) : Type 0 where
  pub some : 1 ≤ d
  pub few : d ≤ 31
  pub degree : HasDegree m d

-- c is the product of a and b: it is small, and differs from the carryless product by a multiple of m
pub record IsProduct (d m a b c : ℕ) : Type 0 where
  pub below : c < 2 ^ d
  pub congruent : IsMultiple m (bit_xor (carryless a b) c)

-- what the relation is computed by: long division of the carryless product
unfoldable pub times : ℕ → ℕ → ℕ → ℕ → ℕ
times d m a b = remainder_of_bits (d - 1) d m (product_of_bits d a b)

abbrev pub residues : ℕ → ℕ → Operations ℕ
residues d m = record { nought = 0; unit = 1; plus = bit_xor; minus = bit_xor; times = times d m }

-- the elements, operations and points of a type are those of this field
pub record IsBinaryField (d m : ℕ) (is_element : ℕ → Type 0) (o : Operations ℕ) (point : ℕ → ℕ) : Type 0 where
  pub elements : (a : ℕ) → (is_element a ↔ (a < 2 ^ d))
  pub zero_is_0 : o.nought ≡ 0
  pub one_is_1 : o.unit ≡ 1
  pub sum : (a b : ℕ) → o.plus a b ≡ bit_xor a b
  pub difference : (a b : ℕ) → o.minus a b ≡ bit_xor a b
  pub product : (a b c : ℕ) → a < 2 ^ d → b < 2 ^ d → ((o.times a b ≡ c) ↔ IsProduct d m a b c)
  pub points : (i : ℕ) → i < 2 ^ d → point i ≡ i
