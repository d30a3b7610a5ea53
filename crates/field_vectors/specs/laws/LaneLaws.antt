-- For callers: what is loaded into 32 lanes, added and stored, and one more vector of a loop along rows. The elements may
-- be those of any field.
use Rattle.std.proofs.Common.{◌≡◌, ℕ, ◌+◌, ◌-◌, ◌<◌, ◌≤◌, List, [], ◌∷◌, ◌++◌, inl, inr, length, get_or, map, take, drop, replicate}
use Rattle.std.proofs.Common.{refl, sym, ap, ap₂, ◌∙◌, arith}
use Rattle.std.proofs.lemmas.Bool.{cases_lt}
use Rattle.std.proofs.lemmas.List.{get_or_append_left, get_or-append_right, get_or-drop, get_or-replicate, get_or_past}
use Rattle.std.proofs.lemmas.List.{get_or-map, length-map, length-take-le}
use Rattle.std.proofs.lemmas.Simd.{get_or-zip2, length-zip2}
use lib.Lanes.{zip2, Each1}

-- ---- fewer elements than lanes

pub padded : {E : Type 0} (z : E) (rest : List E) (k : ℕ) → k < 32
    → get_or (rest ++ drop (length rest) (replicate 32 z)) k z ≡ get_or rest k z
padded z rest k l =
    elim (cases_lt k (length rest)) [
      | inl m ↦ get_or_append_left rest (drop (length rest) (replicate 32 z)) z k m
      | inr g ↦
          let e : length rest + (k - length rest) ≡ k = omega arith in
          get_or-append_right rest (drop (length rest) (replicate 32 z)) (length rest) k z refl g
          ∙ get_or-drop (length rest) (replicate 32 z) (k - length rest) z
          ∙ ap (λ i. get_or (replicate 32 z) i z) e ∙ get_or-replicate 32 k z z l ∙ sym (get_or_past rest k z g)
    ]

pub in_middle : {E : Type 0} (z : E) (at c : ℕ) (xs ys zs : List E) → at ≤ length xs → c < length ys
    → get_or (take at xs ++ (ys ++ zs)) (at + c) z ≡ get_or ys c z
in_middle z at c xs ys zs l m =
    let e : at + c - at ≡ c = omega arith in
    get_or-append_right (take at xs) (ys ++ zs) at (at + c) z (length-take-le at xs l) (omega arith)
    ∙ ap (λ i. get_or (ys ++ zs) i z) e ∙ get_or_append_left ys zs z c m

-- ---- one more vector

-- Of a row of n elements those before `at` are made, and the others are the old ones.
pub record HasMade {E : Type 0} (z : E) (at n : ℕ) (old now : List E) (made : ℕ → E) : Type 0 where
  pub long : length now ≡ n
  pub done : (i : ℕ) → i < at → get_or now i z ≡ made i
  pub others : (i : ℕ) → at ≤ i → get_or now i z ≡ get_or old i z

pub none_made : {E : Type 0} (z : E) (n : ℕ) (old : List E) (made : ℕ → E) → length old ≡ n
    → HasMade z 0 n old old made
none_made z n old made long = record { long = long; done = λ i l. absurd (omega arith); others = λ i l. refl }

module _ {E : Type 0} (z : E) (at m n : ℕ) (old now new : List E) (made : ℕ → E) (long : length old ≡ n)
    (is : HasMade z at n old now made) (same : length new ≡ length now) (few : m ≤ 32)
    (far : (i : ℕ) → at + m ≤ i → i < n → at + 32 ≤ i)
    (before : (i : ℕ) → i < at → get_or new i z ≡ get_or now i z)
    (inside : (c : ℕ) → c < 32 → at + c < n
    → (get_or now (at + c) z ≡ get_or old (at + c) z) → get_or new (at + c) z ≡ made (at + c))
    (behind : (i : ℕ) → at + 32 ≤ i → get_or new i z ≡ get_or now i z) where
  pub more_made : at + m ≤ n → HasMade z (at + m) n old new made
  more_made room = record {
    long = same ∙ is.long;
    done = λ i l. elim (cases_lt i at) [
      | inl s ↦ before i s ∙ is.done i s
      | inr s ↦
          let q : at + (i - at) ≡ i = omega arith in
          ap (λ t. get_or new t z) (sym q)
          ∙ inside (i - at) (omega arith) (omega arith) (is.others (at + (i - at)) (omega arith)) ∙ ap made q
    ];
    others = λ i l. elim (cases_lt i n) [
      | inl s ↦ behind i (far i l s) ∙ is.others i (omega arith)
      | inr s ↦ get_or_past new i z (omega (arith, same, is.long)) ∙ sym (get_or_past old i z (omega arith))
    ];
  }

-- ---- functions that agree on each lane

pub map_each : (f g : ℕ → ℕ) (v : List ℕ) → Each1 (λ a. f a ≡ g a) v → map f v ≡ map g v
map_each f g [] h = refl
map_each f g (a ∷ v) h = ap₂ ◌∷◌ h.0 (map_each f g v h.1)

-- ---- a lane: of products by f, of sums, and of sums with products

pub length_products : {E : Type 0} (f : E → E) (v r : List E) → length v ≡ 32 → r ≡ map f v → length r ≡ 32
length_products f v r long is = ap length is ∙ length-map v f ∙ long

pub length_sums : {E : Type 0} (plus : E → E → E) (v w r : List E) → length v ≡ 32 → length w ≡ 32 → r ≡ zip2 plus v w
    → length r ≡ 32
length_sums plus v w r nv nw is = ap length is ∙ length-zip2 plus v w (nv ∙ sym nw) ∙ nv

pub length_added : {E : Type 0} (plus : E → E → E) (f : E → E) (to v w r : List E) → length to ≡ 32 → length v ≡ 32
    → w ≡ map f v → r ≡ zip2 plus to w → length r ≡ 32
length_added plus f to v w r long_to long isw is = length_sums plus to w r long_to (length_products f v w long isw) is

module _ {E : Type 0} (z : E) (c : ℕ) (few : c < 32) where
  pub product_lane : (f : E → E) (a : E) (v r : List E) → length v ≡ 32 → r ≡ map f v → get_or v c z ≡ a
      → get_or r c z ≡ f a
  product_lane f a v r long is e =
      ap (λ t. get_or t c z) is ∙ get_or-map f v c z z (omega (arith, few)) ∙ ap f e

  pub sum_lane : (plus : E → E → E) (a b : E) (v w r : List E) → length v ≡ 32 → length w ≡ 32 → r ≡ zip2 plus v w
      → get_or v c z ≡ a → get_or w c z ≡ b → get_or r c z ≡ plus a b
  sum_lane plus a b v w r nv nw is ea eb =
      ap (λ t. get_or t c z) is ∙ get_or-zip2 plus v w c z z z (omega (arith, few)) (omega (arith, few)) ∙ ap₂ plus ea eb

  pub added_lane : (plus : E → E → E) (f : E → E) (a b : E) (to v w r : List E) → length to ≡ 32 → length v ≡ 32
      → w ≡ map f v → r ≡ zip2 plus to w → get_or to c z ≡ a → get_or v c z ≡ b → get_or r c z ≡ plus a (f b)
  added_lane plus f a b to v w r long_to long isw is ea eb =
      sum_lane plus a (f b) to w r long_to (length_products f v w long isw) is ea (product_lane f b v w long isw eb)
