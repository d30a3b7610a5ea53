-- The field of 256 elements: degree 8 and the modulus x^8 + x^4 + x^3 + x^2 + 1. The choice of the modulus is this
-- project's own.
use Rattle.std.specs.Prelude.{ℕ, [], ◌∷◌, slice_index}
use Rattle.field_elements.specs.Field.{Operations, Coding}
use Rattle.field_elements.specs.BinaryField.{residues}

-- what the field computes
abbrev pub gf8 : Operations ℕ
gf8 = residues 8 0x11D

-- how the field codes: the point of i is i, and an element is a byte
abbrev pub gf8_coding : Coding ℕ
gf8_coding = record {
  ops = gf8;
  point_of = λ i. i;
  width = 1;
  spelt = λ bytes. slice_index bytes 0;
  spelling = λ a. a ∷ [];
}
