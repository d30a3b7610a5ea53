-- The field codes lawfully: its modulus is irreducible (none of the 510 polynomials of degree 1 to 8 divides it); its points and its
-- spellings are those of the field of the packets.
use Rattle.std.proofs.Common.{◌≡◌, ℕ, ◌<◌, true, refl, arith}
use Rattle.field_elements.specs.Field.{IsField, IsCoding}
use Rattle.field_elements.specs.Carryless.{remainder_of_bits, IsIrreducible}
use Rattle.field_elements.specs.BinaryField.{IsModulus, IsBinaryField}
use Rattle.field_elements.specs.laws.Irreducible.{no_factor, no_factor_to, irreducible}
use Rattle.field_elements.specs.laws.BinaryFieldLaws.{is_field, is_binary}
use Rattle.field_elements.specs.laws.Gf16Laws.{gf16_points, gf16_spellings}
use Rattle.test_own_field.specs.Own.{own, own_coding}

pub own_modulus : IsModulus 16 0x1002D
own_modulus = record { some = omega arith; few = omega arith; degree = (omega arith, omega arith) }

checked : no_factor_to 16 0x1002D 8 ≡ true
unfolding no_factor_to no_factor remainder_of_bits
checked = refl

pub own_irreducible : IsIrreducible 16 0x1002D
own_irreducible = irreducible 16 0x1002D own_modulus.degree 8 (omega arith) checked

pub own_field : IsField (λ a. a < 65536) own
own_field = is_field 16 0x1002D own_modulus.some own_modulus.degree own_irreducible

pub own_is_binary : IsBinaryField 16 0x1002D (λ a. a < 65536) own (λ i. i)
own_is_binary = is_binary 16 0x1002D own_modulus.some own_modulus.degree

pub own_lawful : IsCoding (λ a. a < 65536) 65536 own_coding
own_lawful = record { field = own_field; points = gf16_points; spellings = gf16_spellings }
