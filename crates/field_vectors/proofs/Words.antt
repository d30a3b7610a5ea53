-- Words in the lanes of vectors of their low and of their high bytes.
use lib.Lanes.{zip2, Each1}
use Rattle.std.proofs.Common.{◌≡◌, ℕ, ◌+◌, ◌*◌, ◌/◌, ◌%◌, ◌<◌, List, [], ◌∷◌, length, get_or, map, bit_xor, refl, sym, ap}
use Rattle.std.proofs.Common.{ap₂, ◌∙◌, arith, w8, Fits}
use Rattle.std.proofs.lemmas.Simd.{Each1-get_or, get_or-zip2, length-zip2, Each1-from_get_or, below_from_Fits}
use Rattle.std.proofs.lemmas.Nat.{xor_block, xor_comm}
use Rattle.std.proofs.lemmas.List.{get_or-map, length-map, ext_get_or}
use lib.Bits.{xor_shifted}
use Rattle.field_elements.specs.laws.Xor.{xor_swap}
use Rattle.field_vectors.specs.inside.Lanes.{words}
use Rattle.field_vectors.proofs.FourNibbles.{word}

abbrev J : ℕ → ℕ → ℕ
J l h = bit_xor l (h * 256)

-- ---- split and joined

pub split_words : (v : List ℕ) → words (map (λ a. a % 256) v) (map (λ a. a / 256) v) ≡ v
split_words [] = refl
split_words (a ∷ v) = ap₂ ◌∷◌ (word a) (split_words v)

-- ---- sums

sum_of_words : (a b c d : ℕ) → J (bit_xor a c) (bit_xor b d) ≡ bit_xor (J a b) (J c d)
sum_of_words a b c d =
    let up : bit_xor (b * 256 + 0) (d * 256 + 0) ≡ bit_xor b d * 256 + bit_xor 0 0 =
    xor_block 8 b d 0 0 (omega arith) (omega arith) in
    let e : b * 256 + 0 ≡ b * 256 = omega arith in
    let f : d * 256 + 0 ≡ d * 256 = omega arith in
    let h : bit_xor b d * 256 ≡ bit_xor b d * 256 + 0 = omega arith in
    ap (bit_xor (bit_xor a c)) (h ∙ sym up ∙ ap₂ bit_xor e f) ∙ xor_swap a c (b * 256) (d * 256)

pub words_sum : (a b c d : List ℕ)
    → words (zip2 bit_xor a c) (zip2 bit_xor b d) ≡ zip2 bit_xor (words a b) (words c d)
words_sum [] b c d = refl
words_sum (x ∷ a) [] [] d = refl
words_sum (x ∷ a) (y ∷ b) [] d = refl
words_sum (x ∷ a) [] (z ∷ c) d = refl
words_sum (x ∷ a) (y ∷ b) (z ∷ c) [] = refl
words_sum (x ∷ a) (y ∷ b) (z ∷ c) (w ∷ d) = ap₂ ◌∷◌ (sum_of_words x y z w) (words_sum a b c d)

pub step_words : (T : ℕ → ℕ) (row r0 r1 q0 q1 s : List ℕ) → q0 ≡ map (λ a. a % 256) row → q1 ≡ map (λ a. a / 256) row
    → words r0 r1 ≡ map T s → words (zip2 bit_xor q0 r0) (zip2 bit_xor q1 r1) ≡ zip2 bit_xor row (map T s)
step_words T row r0 r1 q0 q1 s e0 e1 is =
    words_sum q0 q1 r0 r1 ∙ ap₂ (zip2 bit_xor) (ap₂ words e0 e1 ∙ split_words row) is

-- ---- joined and split

sum_of_bytes : (l h : ℕ) → l < 256 → J l h ≡ h * 256 + l
sum_of_bytes l h g = xor_comm l (h * 256) ∙ xor_shifted h 8 l g

module _ (low high : List ℕ) (long_low : length low ≡ 32) (long_high : length high ≡ 32)
    (fits_low : Each1 (Fits w8) low) (fits_high : Each1 (Fits w8) high) where
  abbrev pub v : List ℕ
  v = zip2 J low high

  long : length v ≡ 32
  long = length-zip2 J low high (long_low ∙ sym long_high) ∙ long_low

  at_low : (c : ℕ) → c < 32 → get_or low c 0 < 256
  at_low c l = Each1-get_or (λ a. a < 256) low c 0 (omega arith) (below_from_Fits w8 low fits_low)

  at_high : (c : ℕ) → c < 32 → get_or high c 0 < 256
  at_high c l = Each1-get_or (λ a. a < 256) high c 0 (omega arith) (below_from_Fits w8 high fits_high)

  at : (c : ℕ) → c < 32 → get_or v c 0 ≡ get_or high c 0 * 256 + get_or low c 0
  at c l =
      get_or-zip2 J low high c 0 0 0 (omega arith) (omega arith)
      ∙ sum_of_bytes (get_or low c 0) (get_or high c 0) (at_low c l)

  pub words_fit : Each1 (λ a. a < 65536) v
  words_fit =
      Each1-from_get_or (λ a. a < 65536) v 0
      (λ c l. let m : c < 32 = omega (arith, long) in omega (arith, at c m, at_low c m, at_high c m))

  pub low_is : low ≡ map (λ a. a % 256) v
  low_is =
      ext_get_or 0 low (map (λ a. a % 256) v) (long_low ∙ sym (length-map v (λ a. a % 256) ∙ long))
      (λ c l.
      let m : c < 32 = omega arith in
      let n : c < length v = omega (arith, long) in
      sym (get_or-map (λ a. a % 256) v c 0 0 n ∙ ap (λ a. a % 256) (at c m) ∙ omega (arith, at_low c m)))

  pub high_is : high ≡ map (λ a. a / 256) v
  high_is =
      ext_get_or 0 high (map (λ a. a / 256) v) (long_high ∙ sym (length-map v (λ a. a / 256) ∙ long))
      (λ c l.
      let m : c < 32 = omega arith in
      let n : c < length v = omega (arith, long) in
      sym (get_or-map (λ a. a / 256) v c 0 0 n ∙ ap (λ a. a / 256) (at c m) ∙ omega (arith, at_low c m)))
