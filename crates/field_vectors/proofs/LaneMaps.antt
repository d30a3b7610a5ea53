-- Vectors, lane by lane.
use Rattle.std.proofs.Common.{◌≡◌, ℕ, ◌+◌, ◌-◌, inl, inr, ◌*◌, ◌/◌, ◌%◌, ◌<◌, ◌^◌, List, [], ◌∷◌, ◌++◌, length, get_or}
use Rattle.std.proofs.Common.{map, replicate, take, refl, sym, ap, ◌∙◌, arith, w8, w16, Fits, bit_xor, bit_and}
use Rattle.std.specs.List.{range_with_len}
use Rattle.std.proofs.lemmas.Bool.{cases_lt}
use Rattle.std.proofs.lemmas.List.{get_or-map, length-map, ext_get_or, take_all, get_or_append_left}
use Rattle.std.proofs.lemmas.List.{get_or-append_right}
use Rattle.std.proofs.lemmas.List.FromFn.{get_or-range_with_len}
use Rattle.std.proofs.lemmas.Nat.{and_mask, and_le_r}
use Rattle.std.proofs.lemmas.Simd.{swz_l, SwzOk, SwzOk-from_below, Each1-all, Each1-weaker, Each1-zip2, Each2-splat}
use Rattle.std.proofs.lemmas.Simd.{zip2_splat, length-zip2, length-swz_l, get_or-swz_l_below, Each1-get_or, map-map}
use Rattle.std.proofs.lemmas.Simd.{pick_l_left}
use lib.Lanes.{zip2, Each1, pick_l}
use Rattle.field_vectors.specs.Spread.{IsSpread}
use Rattle.field_vectors.specs.laws.LaneLaws.{map_each}

pub map_all : (f g : ℕ → ℕ) (v : List ℕ) → ((a : ℕ) → f a ≡ g a) → map f v ≡ map g v
map_all f g v h = map_each f g v (Each1-all (λ a. f a ≡ g a) h v)

pub each_splat : (P : ℕ → Type 0) (f : ℕ → ℕ → ℕ) (v : List ℕ) (n y : ℕ) → Each1 (λ a. P (f a y)) v
    → Each1 P (zip2 f v (replicate n y))
each_splat P f v n y h = Each1-zip2 f P v (replicate n y) (Each2-splat (λ a b. P (f a b)) v n y h)

pub each_map : (P : ℕ → Type 0) (f : ℕ → ℕ) (v : List ℕ) → Each1 (λ a. P (f a)) v → Each1 P (map f v)
each_map P f [] h = tt
each_map P f (a ∷ v) h = (h.0, each_map P f v h.1)

abbrev pub down : ℕ → ℕ → ℕ
down a b = a / 2 ^ b

abbrev pub up : ℕ → ℕ → ℕ
up a b = a * 2 ^ b % 65536

pub mask_255 : (a : ℕ) → bit_and a 255 ≡ a % 256
mask_255 a = and_mask a 8

pub mask_15 : (a : ℕ) → bit_and a 15 ≡ a % 16
mask_15 a = and_mask a 4

pub low_fits : (v : List ℕ) → Each1 (Fits w8) (zip2 bit_and v (replicate 32 255))
low_fits v =
    each_splat (Fits w8) bit_and v 32 255
    (Each1-all (λ a. Fits w8 (bit_and a 255)) (λ a. record { fits = omega (arith, and_le_r a 255) }) v)

pub high_fits : (v : List ℕ) → Each1 (Fits w16) v → Each1 (Fits w8) (zip2 down v (replicate 32 8))
high_fits v h =
    each_splat (Fits w8) down v 32 8
    (Each1-weaker (Fits w16) (λ a. Fits w8 (a / 256)) (λ a f. record { fits = omega (arith, f.fits) }) v h)

pub and_splat : (v : List ℕ) (n m k : ℕ) → length v ≡ n → ((a : ℕ) → bit_and a m ≡ a % k)
    → zip2 bit_and v (replicate n m) ≡ map (λ a. a % k) v
and_splat v n m k long h = zip2_splat bit_and v n m long ∙ map_all (λ a. bit_and a m) (λ a. a % k) v h

-- ---- a table

pub nibbles_low : (v : List ℕ) → length v ≡ 32 → SwzOk w8 16 32 0 (zip2 bit_and v (replicate 32 15))
nibbles_low v long =
    SwzOk-from_below w8 16 2 32 0 (zip2 bit_and v (replicate 32 15)) refl
    (omega (arith, length-zip2 bit_and v (replicate 32 15) long))
    (each_splat (λ j. j < 16) bit_and v 32 15
    (Each1-all (λ a. bit_and a 15 < 16) (λ a. omega (arith, and_le_r a 15)) v))

pub nibbles_high : (v : List ℕ) → length v ≡ 32 → Each1 (Fits w8) v → SwzOk w8 16 32 0 (zip2 down v (replicate 32 4))
nibbles_high v long h =
    SwzOk-from_below w8 16 2 32 0 (zip2 down v (replicate 32 4)) refl
    (omega (arith, length-zip2 down v (replicate 32 4) long))
    (each_splat (λ j. j < 16) down v 32 4
    (Each1-weaker (Fits w8) (λ a. a / 16 < 16) (λ a f. omega (arith, f.fits)) v h))

pub swizzled : (entries table js : List ℕ) → IsSpread entries table → length js ≡ 32 → Each1 (λ j. j < 16) js
    → swz_l w8 16 table 0 js ≡ map (λ j. get_or entries j 0) js
swizzled entries table js spread long small =
    let E : ℕ → ℕ = λ j. get_or entries j 0 in
    ext_get_or 0 (swz_l w8 16 table 0 js) (map E js) (length-swz_l w8 16 table 0 js ∙ sym (length-map js E))
    (λ i l.
    let l' : i < length js = rw (length-swz_l w8 16 table 0 js) at l in
    let j = get_or js i 0 in
    let s : j < 16 = Each1-get_or (λ j. j < 16) js i 0 l' small in
    let e : (16 * ((0 + i) / 16) + j) % 16 ≡ j = omega arith in
    get_or-swz_l_below w8 16 table 0 js i l' s ∙ spread.entry (16 * ((0 + i) / 16) + j) (omega arith) ∙ ap E e
    ∙ sym (get_or-map E js i 0 0 l'))

pub swizzled_low : (entries table v : List ℕ) → IsSpread entries table → length v ≡ 32
    → swz_l w8 16 table 0 (zip2 bit_and v (replicate 32 15)) ≡ map (λ a. get_or entries (a % 16) 0) v
swizzled_low entries table v spread long =
    let js = zip2 bit_and v (replicate 32 15) in
    let small = each_splat (λ j. j < 16) bit_and v 32 15
    (Each1-all (λ a. bit_and a 15 < 16) (λ a. omega (arith, and_le_r a 15)) v) in
    swizzled entries table js spread (length-zip2 bit_and v (replicate 32 15) long ∙ long) small
    ∙ ap (map (λ j. get_or entries j 0)) (and_splat v 32 15 16 long mask_15)
    ∙ map-map (λ j. get_or entries j 0) (λ a. a % 16) v

pub swizzled_high : (entries table v : List ℕ) → IsSpread entries table → length v ≡ 32 → Each1 (Fits w8) v
    → swz_l w8 16 table 0 (zip2 down v (replicate 32 4)) ≡ map (λ a. get_or entries (a / 16) 0) v
swizzled_high entries table v spread long fits =
    let js = zip2 down v (replicate 32 4) in
    let small = each_splat (λ j. j < 16) down v 32 4
    (Each1-weaker (Fits w8) (λ a. a / 16 < 16) (λ a f. omega (arith, f.fits)) v fits) in
    swizzled entries table js spread (length-zip2 down v (replicate 32 4) long ∙ long) small
    ∙ ap (map (λ j. get_or entries j 0)) (zip2_splat down v 32 4 long)
    ∙ map-map (λ j. get_or entries j 0) (λ a. a / 16) v

place_in : (i : ℕ) → i < 32 → get_or (range_with_len 0 16 ++ range_with_len 0 16) i 0 ≡ i % 16
place_in i l =
    elim (cases_lt i 16) [
      | inl h ↦ get_or_append_left (range_with_len 0 16) (range_with_len 0 16) 0 i h ∙ get_or-range_with_len 0 16 i 0 h
          ∙ omega arith
      | inr h ↦
          get_or-append_right (range_with_len 0 16) (range_with_len 0 16) 16 i 0 refl h
          ∙ get_or-range_with_len 0 16 (i - 16) 0 (omega arith) ∙ omega arith
    ]

pub spread_is : (xs : List ℕ) → length xs ≡ 16
    → IsSpread xs (pick_l 0 (take 16 xs ++ take 16 xs) (range_with_len 0 16 ++ range_with_len 0 16))
spread_is xs long =
    let ks : List ℕ = range_with_len 0 16 ++ range_with_len 0 16 in
    let whole : take 16 xs ≡ xs = take_all 16 xs (omega arith) in
    let one : pick_l 0 (take 16 xs ++ take 16 xs) ks ≡ pick_l 0 xs ks =
    pick_l_left 0 (take 16 xs) (take 16 xs) 16 ks (ap length whole ∙ long) tt ∙ ap (λ ys. pick_l 0 ys ks) whole in
    record {
      long = refl;
      entry =
          λ i l. ap (λ ys. get_or ys i 0) one ∙ get_or-map (λ k. get_or xs k 0) ks i 0 0 l
          ∙ ap (λ k. get_or xs k 0) (place_in i l);
    }

-- ---- sums

zip2_map_right : (f : ℕ → ℕ → ℕ) (g : ℕ → ℕ) (xs ys : List ℕ) → zip2 f xs (map g ys) ≡ zip2 (λ a b. f a (g b)) xs ys
zip2_map_right f g [] ys = refl
zip2_map_right f g (x ∷ xs) [] = refl
zip2_map_right f g (x ∷ xs) (y ∷ ys) = ap (λ t. f x (g y) ∷ t) (zip2_map_right f g xs ys)

pub joined : (low high : List ℕ) → length high ≡ 32 → Each1 (Fits w8) high
    → zip2 bit_xor low (zip2 up high (replicate 32 8)) ≡ zip2 (λ a b. bit_xor a (b * 256)) low high
joined low high long fits =
    ap (zip2 bit_xor low)
    (zip2_splat up high 32 8 long
    ∙ map_each (λ b. b * 256 % 65536) (λ b. b * 256) high
    (Each1-weaker (Fits w8) (λ b. b * 256 % 65536 ≡ b * 256) (λ b f. omega (arith, f.fits)) high fits))
    ∙ zip2_map_right bit_xor (λ b. b * 256) low high

-- what was looked up by a lane that was computed
pub through : (e v xs r : List ℕ) (f g : ℕ → ℕ) → xs ≡ map g v → r ≡ map (λ a. get_or e (f a) 0) xs
    → r ≡ map (λ a. get_or e (f (g a)) 0) v
through e v xs r f g is looked = looked ∙ ap (map (λ a. get_or e (f a) 0)) is ∙ map-map (λ a. get_or e (f a) 0) g v
