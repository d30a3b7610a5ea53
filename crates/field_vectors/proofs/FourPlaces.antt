-- Four places make the tables of a factor.
use Rattle.std.proofs.Common.{◌≡◌, ℕ, zero, suc, ◌*◌, ◌/◌, ◌%◌, ◌<◌, ◌^◌, List, [], ◌∷◌, get_or, refl, sym, ap, ◌∙◌}
use Rattle.std.proofs.Common.{arith}
use Rattle.field_elements.specs.BinaryField.{times}
use Rattle.field_elements.specs.Carryless.{product_of_bits, remainder_of_bits}
use Rattle.field_elements.specs.laws.Gf16Laws.{gf16_modulus}
use Rattle.field_elements.specs.laws.ResidueLaws.{times-one, times_assoc}
use Rattle.field_vectors.specs.Nibbles.{AreProducts}
use Rattle.field_vectors.specs.laws.NibbleLaws as nibbles
use Rattle.field_vectors.proofs.FourNibbles.{T}

placed : (x y k n : ℕ) → x < 65536 → 2 ^ k < 65536 → n < 65536 → n * 2 ^ k < 65536 → y ≡ T x (2 ^ k)
    → T y n ≡ T x (n * 2 ^ k)
placed = nibbles.placed 16 0x1100B gf16_modulus (omega arith)

pub sixteens : (T 16 16 ≡ 256) × (T 256 16 ≡ 4096)
unfolding times product_of_bits remainder_of_bits
sixteens = (refl, refl)

pub more : (x y z k : ℕ) → x < 65536 → k < 65536 → y ≡ T x k → z ≡ T y 16 → z ≡ T x (T k 16)
more x y z k h g e f =
    f ∙ ap (λ t. T t 16) e ∙ times_assoc 16 0x1100B gf16_modulus.some gf16_modulus.degree x k 16 h g (omega arith)

pub are_products : (x x1 x2 x3 : ℕ) (l0 l1 l2 l3 h0 h1 h2 h3 : List ℕ) → x < 65536 → x1 ≡ T x 16 → x2 ≡ T x1 16
    → x3 ≡ T x2 16
    → ((n : ℕ) → n < 16 → get_or l0 n 0 ≡ T x n % 256) → ((n : ℕ) → n < 16 → get_or h0 n 0 ≡ T x n / 256)
    → ((n : ℕ) → n < 16 → get_or l1 n 0 ≡ T x1 n % 256) → ((n : ℕ) → n < 16 → get_or h1 n 0 ≡ T x1 n / 256)
    → ((n : ℕ) → n < 16 → get_or l2 n 0 ≡ T x2 n % 256) → ((n : ℕ) → n < 16 → get_or h2 n 0 ≡ T x2 n / 256)
    → ((n : ℕ) → n < 16 → get_or l3 n 0 ≡ T x3 n % 256) → ((n : ℕ) → n < 16 → get_or h3 n 0 ≡ T x3 n / 256)
    → AreProducts x (l0 ∷ l1 ∷ l2 ∷ l3 ∷ []) (h0 ∷ h1 ∷ h2 ∷ h3 ∷ [])
are_products x x1 x2 x3 l0 l1 l2 l3 h0 h1 h2 h3 h e1 e2 e3 a0 b0 a1 b1 a2 b2 a3 b3 =
    let one : x ≡ T x 1 = sym (times-one 16 0x1100B gf16_modulus.some gf16_modulus.degree x h) in
    let p2 : x2 ≡ T x 256 = more x x1 x2 16 h (omega arith) e1 e2 ∙ ap (T x) sixteens.0 in
    let p3 : x3 ≡ T x 4096 = more x x2 x3 256 h (omega arith) p2 e3 ∙ ap (T x) sixteens.1 in
    record {
      element = h;
      low_is = low one p2 p3;
      high_is = high one p2 p3;
    }
  where
    low : x ≡ T x 1 → x2 ≡ T x 256 → x3 ≡ T x 4096 → (p n : ℕ) → p < 4 → n < 16
        → get_or (get_or (l0 ∷ l1 ∷ l2 ∷ l3 ∷ []) p []) n 0 ≡ T x (n * 16 ^ p) % 256
    low one p2 p3 zero n g m =
        a0 n m ∙ ap (λ t. t % 256) (placed x x 0 n h (omega arith) (omega arith) (omega arith) one)
    low one p2 p3 (suc zero) n g m =
        a1 n m ∙ ap (λ t. t % 256) (placed x x1 4 n h (omega arith) (omega arith) (omega arith) e1)
    low one p2 p3 (suc (suc zero)) n g m =
        a2 n m ∙ ap (λ t. t % 256) (placed x x2 8 n h (omega arith) (omega arith) (omega arith) p2)
    low one p2 p3 (suc (suc (suc zero))) n g m =
        a3 n m ∙ ap (λ t. t % 256) (placed x x3 12 n h (omega arith) (omega arith) (omega arith) p3)
    low one p2 p3 (suc (suc (suc (suc p)))) n g m = absurd (omega arith)

    high : x ≡ T x 1 → x2 ≡ T x 256 → x3 ≡ T x 4096 → (p n : ℕ) → p < 4 → n < 16
        → get_or (get_or (h0 ∷ h1 ∷ h2 ∷ h3 ∷ []) p []) n 0 ≡ T x (n * 16 ^ p) / 256
    high one p2 p3 zero n g m =
        b0 n m ∙ ap (λ t. t / 256) (placed x x 0 n h (omega arith) (omega arith) (omega arith) one)
    high one p2 p3 (suc zero) n g m =
        b1 n m ∙ ap (λ t. t / 256) (placed x x1 4 n h (omega arith) (omega arith) (omega arith) e1)
    high one p2 p3 (suc (suc zero)) n g m =
        b2 n m ∙ ap (λ t. t / 256) (placed x x2 8 n h (omega arith) (omega arith) (omega arith) p2)
    high one p2 p3 (suc (suc (suc zero))) n g m =
        b3 n m ∙ ap (λ t. t / 256) (placed x x3 12 n h (omega arith) (omega arith) (omega arith) p3)
    high one p2 p3 (suc (suc (suc (suc p)))) n g m = absurd (omega arith)
