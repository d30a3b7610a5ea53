-- Rows of one length, on end. This project's own.
use Rattle.std.specs.Prelude.{◌≡◌, ℕ, ◌*◌, ◌<◌, List, length, take, drop}

-- `count` rows of `width` elements each, of which row p is `row p`
pub record HasRows {E : Type 0} (width count : ℕ) (row : ℕ → List E) (items : List E) : Type 0 where
  pub long : length items ≡ count * width
  pub each : (p : ℕ) → p < count → take width (drop (p * width) items) ≡ row p
