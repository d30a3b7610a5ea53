-- The parts of a text between the bytes of one value, and its lines. This project's own.
use Rattle.std.specs.Prelude.{ℕ, ◌==◌, if◌then◌else◌, List, [], ◌∷◌, ◌++◌}

-- the parts between the bytes of this value, at least one; the first part has these bytes so far
abbrev pub split_from : ℕ → List ℕ → List ℕ → List (List ℕ)
split_from mark part [] = part ∷ []
split_from mark part (b ∷ bytes) =
    if b == mark then part ∷ split_from mark [] bytes else split_from mark (part ++ b ∷ []) bytes

abbrev pub split_at : ℕ → List ℕ → List (List ℕ)
split_at mark bytes = split_from mark [] bytes

-- without a last part that is empty
abbrev pub without_empty_end : List (List ℕ) → List (List ℕ)
without_empty_end [] = []
without_empty_end ([] ∷ []) = []
without_empty_end (part ∷ parts) = part ∷ without_empty_end parts

-- the lines, each ended by a newline, which the last may lack
abbrev pub lines_of : List ℕ → List (List ℕ)
lines_of bytes = without_empty_end (split_at 10 bytes)
