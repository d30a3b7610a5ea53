-- The columns of rows that stand one after another, each `width` long. This project's own.
use Rattle.std.specs.Prelude.{ℕ, zero, suc, List, [], ◌∷◌, drop, map, slice_index_or}
use Rattle.std.specs.List.{range_with_len}

-- column c of the first k rows; `d` stands where a row is cut short
abbrev pub column : {E : Type 0} → E → ℕ → ℕ → ℕ → List E → List E
column d width zero c rows = []
column d width (suc k) c rows = slice_index_or rows c d ∷ column d width k c (drop width rows)

-- all columns of the first k rows
abbrev pub block_columns : {E : Type 0} → E → ℕ → ℕ → List E → List (List E)
block_columns d width k rows = map (λ c. column d width k c rows) (range_with_len 0 width)
