-- The field of 65,536 elements: degree 16 and the modulus x^16 + x^12 + x^3 + x + 1. The choice of the modulus is this
-- project's own.
use Rattle.std.specs.Prelude.{ℕ}
use Rattle.std.specs.Int.{w16, to_be_bytes, from_be_bytes}
use Rattle.field_elements.specs.Field.{Operations, Coding}
use Rattle.field_elements.specs.BinaryField.{residues}

-- what the field computes
abbrev pub gf16 : Operations ℕ
gf16 = residues 16 0x1100B

-- how the field codes: the point of i is i, and an element is written in two bytes, the high one first
abbrev pub gf16_coding : Coding ℕ
gf16_coding = record { ops = gf16; point_of = λ i. i; width = 2; spelt = from_be_bytes w16; spelling = to_be_bytes w16 }
