-- The product with a word is the sum of its products with the nibbles.
use lib.Lanes.{zip2, Each1}
use Rattle.field_vectors.proofs.LaneMaps.{map_all}
use Rattle.field_vectors.specs.laws.LaneLaws.{map_each}
use Rattle.std.proofs.lemmas.Simd.{zip2_of_maps, Each1-weaker}
use Rattle.std.proofs.Common.{map, ◌≡◌, ℕ, ◌*◌, ◌/◌, ◌%◌, ◌<◌, ◌^◌, List, [], get_or, bit_xor, sym, ap, ap₂, ◌∙◌, arith}
use Rattle.std.specs.Prelude.{slice_index}
use Rattle.std.proofs.lemmas.Nat.{xor_mod, xor_shr, xor_lt}
use Rattle.field_elements.specs.BinaryField.{times}
use Rattle.field_elements.specs.laws.Gf16Laws.{gf16_modulus}
use Rattle.field_elements.specs.laws.ResidueLaws.{times_below}
use Rattle.field_vectors.specs.inside.Lanes.{at_nibbles}
use Rattle.field_vectors.specs.Nibbles.{AreProducts}
use Rattle.field_vectors.specs.laws.NibbleLaws as nibbles
use Rattle.field_vectors.specs.laws.NibbleLaws.{apart}

abbrev pub T : ℕ → ℕ → ℕ
T x a = times 16 0x1100B x a

linear : (x a b : ℕ) → x < 65536 → a < 65536 → b < 65536 → T x (bit_xor a b) ≡ bit_xor (T x a) (T x b)
linear = nibbles.linear 16 0x1100B gf16_modulus (omega arith)

pub below : (x a : ℕ) → x < 65536 → a < 65536 → T x a < 65536
below x a h g = times_below 16 0x1100B gf16_modulus.some gf16_modulus.degree x a h g

four : (a : ℕ) → a < 65536
    → bit_xor (bit_xor (bit_xor (a % 256 % 16 * 1) (a % 256 / 16 * 16)) (a / 256 % 16 * 256)) (a / 256 / 16 * 4096) ≡ a
four a h =
    let p0 : bit_xor (a % 256 % 16 * 1) (a % 256 / 16 * 16) ≡ a % 256 =
    apart 4 (a % 256 / 16) (a % 256 % 16 * 1) (omega arith) ∙ omega arith in
    let p1 : bit_xor (a % 256) (a / 256 % 16 * 256) ≡ a % 4096 =
    apart 8 (a / 256 % 16) (a % 256) (omega arith) ∙ omega arith in
    let p2 : bit_xor (a % 4096) (a / 256 / 16 * 4096) ≡ a =
    apart 12 (a / 256 / 16) (a % 4096) (omega arith) ∙ omega arith in
    ap (λ t. bit_xor (bit_xor t (a / 256 % 16 * 256)) (a / 256 / 16 * 4096)) p0
    ∙ ap (λ t. bit_xor t (a / 256 / 16 * 4096)) p1 ∙ p2

pub product_of_nibbles : (x a : ℕ) → x < 65536 → a < 65536
    → T x a ≡ bit_xor (bit_xor (bit_xor (T x (a % 256 % 16 * 1)) (T x (a % 256 / 16 * 16))) (T x (a / 256 % 16 * 256)))
    (T x (a / 256 / 16 * 4096))
product_of_nibbles x a h g =
    let n0 = a % 256 % 16 * 1 in
    let n1 = a % 256 / 16 * 16 in
    let n2 = a / 256 % 16 * 256 in
    let n3 = a / 256 / 16 * 4096 in
    let b0 : n0 < 2 ^ 16 = omega arith in
    let b1 : n1 < 2 ^ 16 = omega arith in
    let b2 : n2 < 2 ^ 16 = omega arith in
    let b3 : n3 < 2 ^ 16 = omega arith in
    let b01 = xor_lt 16 n0 n1 b0 b1 in
    let b012 = xor_lt 16 (bit_xor n0 n1) n2 b01 b2 in
    ap (T x) (sym (four a g)) ∙ linear x (bit_xor (bit_xor n0 n1) n2) n3 h b012 b3
    ∙ ap (λ t. bit_xor t (T x n3))
    (linear x (bit_xor n0 n1) n2 h b01 b2 ∙ ap (λ t. bit_xor t (T x n2)) (linear x n0 n1 h b0 b1))

-- what is looked up of a part of each product that goes through sums
sums : (D : ℕ → ℕ) → ((s t : ℕ) → D (bit_xor s t) ≡ bit_xor (D s) (D t)) → (x : ℕ) (tables : List (List ℕ)) (a : ℕ)
    → x < 65536 → a < 65536
    → ((p n : ℕ) → p < 4 → n < 16 → slice_index (get_or tables p []) n ≡ D (T x (n * 16 ^ p)))
    → at_nibbles (get_or tables 0 []) (get_or tables 1 []) (get_or tables 2 []) (get_or tables 3 []) a ≡ D (T x a)
sums D over x tables a small g is =
    let t0 = T x (a % 256 % 16 * 1) in
    let t1 = T x (a % 256 / 16 * 16) in
    let t2 = T x (a / 256 % 16 * 256) in
    let t3 = T x (a / 256 / 16 * 4096) in
    ap₂ bit_xor
    (ap₂ bit_xor
    (ap₂ bit_xor (is 0 (a % 256 % 16) (omega arith) (omega arith)) (is 1 (a % 256 / 16) (omega arith) (omega arith))
    ∙ sym (over t0 t1))
    (is 2 (a / 256 % 16) (omega arith) (omega arith)) ∙ sym (over (bit_xor t0 t1) t2))
    (is 3 (a / 256 / 16) (omega arith) (omega arith))
    ∙ sym (over (bit_xor (bit_xor t0 t1) t2) t3) ∙ ap D (sym (product_of_nibbles x a small g))

pub low_sum : (x : ℕ) (low high : List (List ℕ)) (a : ℕ) → AreProducts x low high → a < 65536
    → at_nibbles (get_or low 0 []) (get_or low 1 []) (get_or low 2 []) (get_or low 3 []) a ≡ T x a % 256
low_sum x low high a is g = sums (λ t. t % 256) (λ s t. xor_mod s t 8) x low a is.element g is.low_is

pub high_sum : (x : ℕ) (low high : List (List ℕ)) (a : ℕ) → AreProducts x low high → a < 65536
    → at_nibbles (get_or high 0 []) (get_or high 1 []) (get_or high 2 []) (get_or high 3 []) a ≡ T x a / 256
high_sum x low high a is g = sums (λ t. t / 256) (λ s t. xor_shr s t 8) x high a is.element g is.high_is

-- a word of its two bytes
pub word : (a : ℕ) → bit_xor (a % 256) (a / 256 * 256) ≡ a
word a = apart 8 (a / 256) (a % 256) (omega arith) ∙ omega arith

abbrev pub looked : List (List ℕ) → ℕ → ℕ
looked tables = at_nibbles (get_or tables 0 []) (get_or tables 1 []) (get_or tables 2 []) (get_or tables 3 [])

pub low_lanes : (x : ℕ) (low high : List (List ℕ)) (v r : List ℕ) → AreProducts x low high → Each1 (λ a. a < 65536) v
    → r ≡ map (looked low) v → r ≡ map (λ a. T x a % 256) v
low_lanes x low high v r is fits e =
    e ∙ map_each (looked low) (λ a. T x a % 256) v
    (Each1-weaker (λ a. a < 65536) (λ a. looked low a ≡ T x a % 256) (λ a g. low_sum x low high a is g) v fits)

pub high_lanes : (x : ℕ) (low high : List (List ℕ)) (v r : List ℕ) → AreProducts x low high → Each1 (λ a. a < 65536) v
    → r ≡ map (looked high) v → r ≡ map (λ a. T x a / 256) v
high_lanes x low high v r is fits e =
    e ∙ map_each (looked high) (λ a. T x a / 256) v
    (Each1-weaker (λ a. a < 65536) (λ a. looked high a ≡ T x a / 256) (λ a g. high_sum x low high a is g) v fits)

pub joined_lanes : (x : ℕ) (v l h r : List ℕ) → l ≡ map (λ a. T x a % 256) v → h ≡ map (λ a. T x a / 256) v
    → r ≡ zip2 (λ a b. bit_xor a (b * 256)) l h → r ≡ map (times 16 0x1100B x) v
joined_lanes x v l h r el eh er =
    er ∙ zip2_of_maps (λ a b. bit_xor a (b * 256)) (λ a. T x a % 256) (λ a. T x a / 256) v el eh
    ∙ map_all (λ a. bit_xor (T x a % 256) (T x a / 256 * 256)) (T x) v (λ a. word (T x a))
