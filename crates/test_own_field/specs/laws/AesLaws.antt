-- The field of 256 elements codes lawfully: it is a commutative field, since its modulus is irreducible (none of the 30
-- polynomials of degree 1 to 4 divides it), different numbers have different points, and an element is written as itself.
use Rattle.std.proofs.Common.{◌≡◌, ℕ, zero, suc, ◌<◌, true, List, [], ◌∷◌, length, get_or, All, eqb, refl, arith}
use Rattle.std.proofs.lemmas.Bool.{eqb-true, eq-eqb}
use Rattle.field_elements.specs.Field.{IsField, TellsApart, ArePoints, AreSpellings, IsCoding}
use Rattle.field_elements.specs.Carryless.{remainder_of_bits, IsIrreducible}
use Rattle.field_elements.specs.BinaryField.{IsModulus, IsBinaryField}
use Rattle.field_elements.specs.laws.Irreducible.{no_factor, no_factor_to, irreducible}
use Rattle.field_elements.specs.laws.BinaryFieldLaws.{is_field, is_binary}
use Rattle.test_own_field.specs.Aes.{aes, aes_coding}

pub aes_modulus : IsModulus 8 0x11B
aes_modulus = record { some = omega arith; few = omega arith; degree = (omega arith, omega arith) }

checked : no_factor_to 8 0x11B 4 ≡ true
unfolding no_factor_to no_factor remainder_of_bits
checked = refl

pub aes_irreducible : IsIrreducible 8 0x11B
aes_irreducible = irreducible 8 0x11B aes_modulus.degree 4 (omega arith) checked

pub aes_field : IsField (λ a. a < 256) aes
aes_field = is_field 8 0x11B aes_modulus.some aes_modulus.degree aes_irreducible

pub aes_is_binary : IsBinaryField 8 0x11B (λ a. a < 256) aes (λ i. i)
aes_is_binary = is_binary 8 0x11B aes_modulus.some aes_modulus.degree

pub aes_equal : TellsApart (λ a. a < 256) eqb
aes_equal a b _ _ = (eqb-true a b, eq-eqb a b)

pub aes_points : ArePoints (λ a. a < 256) 256 (λ i. i)
aes_points = record { point_is = λ i h. h; distinct = λ i j _ _ e. e }

-- ---- one byte

one_byte : (bytes : List ℕ) → length bytes ≡ 1 → get_or bytes 0 0 ∷ [] ≡ bytes
one_byte [] e = absurd (omega arith)
one_byte (b ∷ []) e = refl
one_byte (b ∷ d ∷ bytes) e = absurd (omega arith)

spelling_below : (a : ℕ) → a < 256 → All (λ b. b < 256) (a ∷ [])
spelling_below a small zero d h = small
spelling_below a small (suc k) d h = absurd (omega arith)

pub aes_spellings : AreSpellings (λ a. a < 256) 1 (λ bytes. get_or bytes 0 0) (λ a. a ∷ [])
aes_spellings =
    record {
      spelt_is = λ bytes e h. h 0 0 (omega arith);
      written = λ bytes e h. one_byte bytes e;
      spelling_width = λ a h. refl;
      spelling_bytes = spelling_below;
      read_back = λ a h. refl;
    }

pub aes_lawful : IsCoding (λ a. a < 256) 256 aes_coding
aes_lawful = record { field = aes_field; points = aes_points; spellings = aes_spellings }
