-- The field of 256 elements of the Advanced Encryption Standard (FIPS 197): degree 8 and the modulus x^8 + x^4 + x^3 + x + 1.
use Rattle.std.specs.Prelude.{ℕ, [], ◌∷◌, slice_index}
use Rattle.field_elements.specs.Field.{Operations, Coding}
use Rattle.field_elements.specs.BinaryField.{residues}

-- what the field computes
abbrev pub aes : Operations ℕ
aes = residues 8 0x11B

-- how the field codes: the point of i is i, and an element is a byte
abbrev pub aes_coding : Coding ℕ
aes_coding = record {
  ops = aes;
  point_of = λ i. i;
  width = 1;
  spelt = λ bytes. slice_index bytes 0;
  spelling = λ a. a ∷ [];
}
