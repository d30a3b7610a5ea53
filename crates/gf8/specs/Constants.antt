-- The divisors of the polynomials of the subspaces, over the field of 256 elements, for up to 128 points: the square of
-- polynomial n plus that polynomial is `factor n` times polynomial n + 1. Computed, and checked in
-- `specs/laws/Gf8Subspaces`.
use Rattle.std.specs.Prelude.{ℕ, List, [], ◌∷◌, slice_index}

abbrev pub factor_list : List ℕ
factor_list = 6 ∷ 18 ∷ 31 ∷ 78 ∷ 159 ∷ 93 ∷ 135 ∷ []

unfoldable pub factor : ℕ → ℕ
factor n = slice_index factor_list n

abbrev pub inverse_list : List ℕ
inverse_list = 122 ∷ 192 ∷ 42 ∷ 69 ∷ 162 ∷ 14 ∷ 176 ∷ []

-- the inverse of a factor
unfoldable pub inverse : ℕ → ℕ
inverse n = slice_index inverse_list n
