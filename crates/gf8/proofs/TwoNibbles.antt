-- The product with a byte is the sum of its products with the nibbles.
use lib.Lanes.{zip2, Each1}
use Rattle.std.proofs.Common.{◌≡◌, ℕ, ◌*◌, ◌/◌, ◌%◌, ◌<◌, List, get_or, map, bit_xor, sym, ap, ap₂, ◌∙◌, arith}
use Rattle.std.proofs.lemmas.Simd.{zip2_of_maps, Each1-weaker}
use Rattle.field_vectors.specs.laws.LaneLaws.{map_each}
use Rattle.field_vectors.specs.laws.NibbleLaws.{apart, linear}
use Rattle.gf8.specs.Gf8.{gf8}
use Rattle.gf8.specs.Nibbles.{AreProducts}
use Rattle.gf8.specs.laws.Gf8Laws.{gf8_modulus}

-- what is looked up
abbrev looked : List ℕ → List ℕ → ℕ → ℕ
looked low high a = bit_xor (get_or low (a % 16) 0) (get_or high (a / 16) 0)

looked_is : (x : ℕ) (low high : List ℕ) (a : ℕ) → AreProducts x low high → a < 256 → looked low high a ≡ gf8.times x a
looked_is x low high a is g =
    let two : bit_xor (a % 16) (a / 16 * 16) ≡ a = apart 4 (a / 16) (a % 16) (omega arith) ∙ omega arith in
    ap₂ bit_xor (is.low_is (a % 16) (omega arith)) (is.high_is (a / 16) (omega arith))
    ∙ sym (linear 8 0x11D gf8_modulus (omega arith) x (a % 16) (a / 16 * 16) is.element (omega arith) (omega arith))
    ∙ ap (gf8.times x) two

pub looked_lanes : (x : ℕ) (low high v r0 r1 r : List ℕ) → AreProducts x low high → Each1 (λ a. a < 256) v
    → r0 ≡ map (λ a. get_or low (a % 16) 0) v → r1 ≡ map (λ a. get_or high (a / 16) 0) v
    → r ≡ zip2 bit_xor r0 r1 → r ≡ map (gf8.times x) v
looked_lanes x low high v r0 r1 r is fits e0 e1 e =
    e ∙ zip2_of_maps bit_xor (λ a. get_or low (a % 16) 0) (λ a. get_or high (a / 16) 0) v e0 e1
    ∙ map_each (looked low high) (gf8.times x) v
    (Each1-weaker (λ a. a < 256) (λ a. looked low high a ≡ gf8.times x a) (λ a g. looked_is x low high a is g) v fits)
