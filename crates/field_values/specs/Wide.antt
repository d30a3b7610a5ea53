-- Stripes side by side, in rows as wide as there are stripes. This project's own.
use Rattle.std.specs.Prelude.{◌≡◌, ℕ, ◌+◌, ◌*◌, ◌<◌, List, [], length, slice_index_or}

-- `size` rows: place c of row p is element p of stripe c, and `d` where the stripe has no element p
pub record AreSideBySide {E : Type 0} (d : E) (size : ℕ) (stripes : List (List E)) (rows : List E) : Type 0 where
  pub long : length rows ≡ size * length stripes
  pub each : (p c : ℕ) → p < size → c < length stripes
      → slice_index_or rows (p * length stripes + c) d ≡ slice_index_or (slice_index_or stripes c []) p d
