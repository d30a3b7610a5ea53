-- Stripes on end. This project's own.
use Rattle.std.specs.Prelude.{ℕ, List, [], ◌∷◌, take, drop, replicate}

-- a row, cut into stripes of these lengths
abbrev pub stripes_by : {E : Type 0} → List ℕ → List E → List (List E)
stripes_by [] row = []
stripes_by (n ∷ lengths) row = take n row ∷ stripes_by lengths (drop n row)

-- the first n stripes of k elements each
abbrev pub cut : {E : Type 0} → ℕ → ℕ → List E → List (List E)
cut n k row = stripes_by (replicate n k) row
