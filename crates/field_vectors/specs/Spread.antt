-- A table of sixteen bytes in a vector.
use Rattle.std.specs.Prelude.{◌≡◌, ℕ, ◌%◌, ◌<◌, List, length, slice_index}

-- each block of sixteen lanes is the table
pub record IsSpread (table lanes : List ℕ) : Type 0 where
  pub long : length lanes ≡ 32
  pub entry : (i : ℕ) → i < 32 → slice_index lanes i ≡ slice_index table (i % 16)
