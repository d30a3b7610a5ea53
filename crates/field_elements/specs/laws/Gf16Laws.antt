-- The field of 65,536 elements codes lawfully: it is a commutative field, since its modulus is irreducible (none of the
-- 510
-- polynomials of degree 1 to 8 divides it), different numbers have different points, and reading and writing two bytes
-- invert each other.
use Rattle.std.proofs.Common.{◌≡◌, ℕ, zero, suc, ◌<◌, inl, inr, true, List, length, get_or, All, eqb, refl, arith}
use Rattle.std.proofs.lemmas.Bool.{cases_lt, eqb-true, eq-eqb}
use Rattle.std.proofs.lemmas.Nat.{be_bytes_2, from_be_bytes-to_be_bytes_2}
use Rattle.std.proofs.lemmas.List.{get_or_past}
use Rattle.std.specs.Int.{w16, to_be_bytes, from_be_bytes}
use Rattle.field_elements.specs.Field.{IsField, TellsApart, ArePoints, AreSpellings, IsCoding}
use Rattle.field_elements.specs.Carryless.{remainder_of_bits, IsIrreducible}
use Rattle.field_elements.specs.BinaryField.{IsModulus, IsBinaryField}
use Rattle.field_elements.specs.laws.Irreducible.{no_factor, no_factor_to, irreducible}
use Rattle.field_elements.specs.laws.BinaryFieldLaws.{is_field, is_binary}
use Rattle.field_elements.specs.Gf16.{gf16, gf16_coding}

pub gf16_modulus : IsModulus 16 0x1100B
gf16_modulus = record { some = omega arith; few = omega arith; degree = (omega arith, omega arith) }

checked : no_factor_to 16 0x1100B 8 ≡ true
unfolding no_factor_to no_factor remainder_of_bits
checked = refl

pub gf16_irreducible : IsIrreducible 16 0x1100B
gf16_irreducible = irreducible 16 0x1100B gf16_modulus.degree 8 (omega arith) checked

pub gf16_field : IsField (λ a. a < 65536) gf16
gf16_field = is_field 16 0x1100B gf16_modulus.some gf16_modulus.degree gf16_irreducible

pub gf16_is_binary : IsBinaryField 16 0x1100B (λ a. a < 65536) gf16 (λ i. i)
gf16_is_binary = is_binary 16 0x1100B gf16_modulus.some gf16_modulus.degree

pub gf16_equal : TellsApart (λ a. a < 65536) eqb
gf16_equal a b _ _ = (eqb-true a b, eq-eqb a b)

pub gf16_points : ArePoints (λ a. a < 65536) 65536 (λ i. i)
gf16_points = record { point_is = λ i h. h; distinct = λ i j _ _ e. e }

-- ---- two bytes, the high one first

byte_at : (bytes : List ℕ) → All (λ b. b < 256) bytes → length bytes ≡ 2 → (i : ℕ) → get_or bytes i 0 < 256
byte_at bytes h e i =
    elim (cases_lt i 2) [
      | inl l ↦ h i 0 (rw e l)
      | inr g ↦ rw (get_or_past bytes i 0 (rw e g)) (omega arith)
    ]

spelt_below : (bytes : List ℕ) → length bytes ≡ 2 → All (λ b. b < 256) bytes → from_be_bytes w16 bytes < 65536
spelt_below bytes e h = omega (arith, byte_at bytes h e 0, byte_at bytes h e 1)

spelling_below : (a : ℕ) → All (λ b. b < 256) (to_be_bytes w16 a)
spelling_below a zero d h = omega arith
spelling_below a (suc zero) d h = omega arith
spelling_below a (suc (suc k)) d h = absurd (omega arith)

pub gf16_spellings : AreSpellings (λ a. a < 65536) 2 (from_be_bytes w16) (to_be_bytes w16)
gf16_spellings =
    record {
      spelt_is = spelt_below;
      written = λ bytes e h. be_bytes_2 bytes (from_be_bytes w16 bytes) e (byte_at bytes h e) refl;
      spelling_width = λ a h. refl;
      spelling_bytes = λ a h. spelling_below a;
      read_back = from_be_bytes-to_be_bytes_2;
    }

-- ---- the coding

pub gf16_lawful : IsCoding (λ a. a < 65536) 65536 gf16_coding
gf16_lawful = record { field = gf16_field; points = gf16_points; spellings = gf16_spellings }
