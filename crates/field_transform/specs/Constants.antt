-- The divisors of the polynomials of the subspaces, over the field of 65,536 elements, for up to 2 to the power 15
-- points: the
-- square of polynomial n plus that polynomial is `factor n` times polynomial n + 1. Computed, and checked in
-- `specs/laws/Gf16Subspaces`.
use Rattle.std.specs.Prelude.{ℕ, List, [], ◌∷◌, slice_index}

abbrev pub factor_list : List ℕ
factor_list = 6 ∷ 18 ∷ 258 ∷ 4105 ∷ 7164 ∷ 23590 ∷ 58949 ∷ 2861 ∷ 5788 ∷ 2682 ∷ 6018 ∷ 6949 ∷ 3431 ∷ 22095 ∷ 61636 ∷ []

unfoldable pub factor : ℕ → ℕ
factor n = slice_index factor_list n

abbrev pub inverse_list : List ℕ
inverse_list =
    30723 ∷ 4973 ∷ 60035 ∷ 613 ∷ 21230 ∷ 46348 ∷ 37670 ∷ 42719 ∷ 14201 ∷ 5337 ∷ 42404 ∷ 1214 ∷ 6583 ∷ 45757 ∷ 55335 ∷ []

-- the inverse of a factor
unfoldable pub inverse : ℕ → ℕ
inverse n = slice_index inverse_list n
