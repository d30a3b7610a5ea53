-- The products of a factor with the nibbles of a word.
use Rattle.std.specs.Prelude.{◌≡◌, ℕ, ◌*◌, ◌%◌, ◌/◌, ◌<◌, ◌^◌, List, [], slice_index, slice_index_or}
use Rattle.field_elements.specs.Gf16.{gf16}

-- for each place, the low and the high bytes of the products with the sixteen nibbles at that place
pub record AreProducts (x : ℕ) (low high : List (List ℕ)) : Type 0 where
  pub element : x < 65536
  pub low_is : (p n : ℕ) → p < 4 → n < 16 → slice_index (slice_index_or low p []) n ≡ gf16.times x (n * 16 ^ p) % 256
  pub high_is : (p n : ℕ) → p < 4 → n < 16 → slice_index (slice_index_or high p []) n ≡ gf16.times x (n * 16 ^ p) / 256
