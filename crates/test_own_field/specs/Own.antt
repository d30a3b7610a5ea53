-- A field of 65,536 elements that is no field of the packets: degree 16 and the modulus x^16 + x^5 + x^3 + x^2 + 1.
use Rattle.std.specs.Prelude.{ℕ}
use Rattle.std.specs.Int.{w16, to_be_bytes, from_be_bytes}
use Rattle.field_elements.specs.Field.{Operations, Coding}
use Rattle.field_elements.specs.BinaryField.{residues}

-- what the field computes
abbrev pub own : Operations ℕ
own = residues 16 0x1002D

-- how the field codes: the point of i is i, and an element is written in two bytes, the high one first
abbrev pub own_coding : Coding ℕ
own_coding = record { ops = own; point_of = λ i. i; width = 2; spelt = from_be_bytes w16; spelling = to_be_bytes w16 }
