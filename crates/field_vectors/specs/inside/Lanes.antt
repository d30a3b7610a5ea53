-- Vectors, lane by lane.
use Rattle.std.specs.Prelude.{ℕ, ◌*◌, ◌%◌, ◌/◌, List, slice_index, bit_xor}
use Rattle.std.specs.Simd.Lanes.{zip2}

-- the sum of the entries at the four nibbles of a word
abbrev pub at_nibbles : List ℕ → List ℕ → List ℕ → List ℕ → ℕ → ℕ
at_nibbles e0 e1 e2 e3 a =
    bit_xor (bit_xor (bit_xor (slice_index e0 (a % 256 % 16)) (slice_index e1 (a % 256 / 16)))
    (slice_index e2 (a / 256 % 16))) (slice_index e3 (a / 256 / 16))

-- words of their low and high bytes
abbrev pub words : List ℕ → List ℕ → List ℕ
words = zip2 (λ l h. bit_xor l (h * 256))
