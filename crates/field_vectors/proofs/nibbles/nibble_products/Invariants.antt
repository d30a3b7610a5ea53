use Rattle.std.proofs.Common.{◌≡◌, ℕ, ◌/◌, ◌%◌, ◌<◌, slice_index, length}
use Rattle.field_elements.specs.BinaryField.{times}
use Rattle.field_vectors.proofs.nibbles.nibble_products.Given as goal

abbrev pub invariant-loop-n : goal.invariant-loop-n
invariant-loop-n l = record {
  long_low : length l.low ≡ 16;
  long_high : length l.high ≡ 16;
  low : (k : ℕ) → k < l.n → slice_index l.low k ≡ times l.degree l.modulus l.x k % 256;
  high : (k : ℕ) → k < l.n → slice_index l.high k ≡ times l.degree l.modulus l.x k / 256;
}
