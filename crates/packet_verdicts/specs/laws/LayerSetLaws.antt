-- Laws of the layers that are newly shown, and of the set that has them as bits.
use Rattle.std.specs.Prelude.{filter, sum_by, count_by, nat_lt, nat_le}
use Rattle.std.proofs.Common.{◌≡◌, ◌↔◌, ℕ, zero, suc, ◌+◌, ◌-◌, ◌*◌, ◌^◌, ◌<◌, ◌≤◌, ◌&&◌, cond, Bool, true, false, List}
use Rattle.std.proofs.Common.{[], ◌∷◌, ◌++◌, length, Contains, refl, sym, ap, ◌∙◌, arith, subst, inl, inr}
use Rattle.std.specs.Int.{bit_at}
use Rattle.std.specs.List.{range_with_len}
use Rattle.std.proofs.Common.{map-id}
use Rattle.std.proofs.lemmas.Bool.{cases_eq, cases_lt}
use Rattle.std.proofs.lemmas.Nat.Bits.{bit_at_cat_low, bit_at_cat_high, bit_at_above}
use Rattle.std.proofs.Math.Nat.{two-pow-succ}
use Rattle.std.proofs.lemmas.List.FromFn.{map-range_with_len_more, get_or-range_with_len, length-range_with_len}
use Rattle.std.proofs.lemmas.List.Elements.{filter-append, filter_passes, All-filter, All-contains}
use Rattle.std.proofs.lemmas.List.Elements.{Contains-append_left, Contains-append_right, Contains-push}
use Rattle.std.proofs.lemmas.List.Sums.{sum_by-append, sum_by-cons}
use Rattle.stripe_plan.specs.declared.layer.LayerSize.{LayerSize}
use Rattle.stripe_plan.specs.Layers.{count_of}
use Rattle.packet_verdicts.specs.Verdicts.{layer_set, shown_between}

-- one number more
pub range_more : (n : ℕ) → range_with_len 0 (n + 1) ≡ range_with_len 0 n ++ (n ∷ [])
range_more n =
    sym (map-id (range_with_len 0 (n + 1))) ∙ map-range_with_len_more (λ (x : ℕ). x) 0 n n (omega arith)
    ∙ ap (λ t. t ++ (n ∷ [])) (map-id (range_with_len 0 n))

-- and the numbers that pass, up to one more
pub filter_more : (p : ℕ → Bool) (n : ℕ)
    → filter p (range_with_len 0 (n + 1)) ≡ filter p (range_with_len 0 n) ++ cond (p n) (n ∷ []) []
filter_more p n = ap (filter p) (range_more n) ∙ filter-append p (range_with_len 0 n) (n ∷ [])

-- how many these are
pub count_more : (p : ℕ → Bool) (n : ℕ)
    → count_by p (range_with_len 0 (n + 1)) ≡ count_by p (range_with_len 0 n) + cond (p n) 1 0
count_more p n =
    ap (count_by p) (range_more n) ∙ sum_by-append (λ j. cond (p j) 1 0) (range_with_len 0 n) (n ∷ [])
    ∙ omega (arith, sum_by-cons (λ j. cond (p j) 1 0) n [])

pub one-le : (b : Bool) → cond b 1 0 ≤ 1
one-le true = omega arith
one-le false = omega arith

-- the sum of the powers of two at the numbers below n that pass
abbrev pub bits_below : (ℕ → Bool) → ℕ → ℕ
bits_below p n = sum_by (λ j. 2 ^ j) (filter p (range_with_len 0 n))

one_bit : (n : ℕ) (b : Bool) → sum_by (λ j. 2 ^ j) (cond b (n ∷ []) []) ≡ cond b (2 ^ n) 0
one_bit n true = omega (arith, sum_by-cons (λ j. 2 ^ j) n [])
one_bit n false = refl

pub bits_more : (p : ℕ → Bool) (n : ℕ) → bits_below p (n + 1) ≡ bits_below p n + cond (p n) (2 ^ n) 0
bits_more p n =
    ap (sum_by (λ j. 2 ^ j)) (filter_more p n)
    ∙ sum_by-append (λ j. 2 ^ j) (filter p (range_with_len 0 n)) (cond (p n) (n ∷ []) [])
    ∙ ap (λ t. bits_below p n + t) (one_bit n (p n))

bits_by : (p : ℕ → Bool) (n : ℕ) (b : Bool) → bits_below p (n + 1) ≡ bits_below p n + cond b (2 ^ n) 0
    → bits_below p n < 2 ^ n → bits_below p (suc n) < 2 ^ suc n
bits_by p n true e l = let s : n + 1 ≡ suc n = omega arith in omega (arith, ap (bits_below p) s, e, l, two-pow-succ n)
bits_by p n false e l = let s : n + 1 ≡ suc n = omega arith in omega (arith, ap (bits_below p) s, e, l, two-pow-succ n)

bits-lt : (p : ℕ → Bool) (n : ℕ) → bits_below p n < 2 ^ n
bits-lt p zero = omega arith
bits-lt p (suc n) = bits_by p n (p n) (bits_more p n) (bits-lt p n)

bit_is : (n b : ℕ) (t : Bool) → b < 2 ^ n → bit_at (b + cond t (2 ^ n) 0) n ≡ cond t 1 0
bit_is n b true l =
    let e : b + 2 ^ n ≡ 1 * 2 ^ n + b = omega arith in
    let z : n - n ≡ 0 = omega arith in
    ap (λ x. bit_at x n) e ∙ bit_at_cat_high 1 n b n l (omega arith) ∙ ap (bit_at 1) z
bit_is n b false l = let e : b + 0 ≡ b = omega arith in ap (λ x. bit_at x n) e ∙ bit_at_above b n n l (omega arith)

bit_low : (n b j : ℕ) (t : Bool) → j < n → bit_at (b + cond t (2 ^ n) 0) j ≡ bit_at b j
bit_low n b j true l =
    let e : b + 2 ^ n ≡ 1 * 2 ^ n + b = omega arith in ap (λ x. bit_at x j) e ∙ bit_at_cat_low 1 n b j l
bit_low n b j false l = let e : b + 0 ≡ b = omega arith in ap (λ x. bit_at x j) e

pub bit_inside : (p : ℕ → Bool) (n j : ℕ) → j < n → bit_at (bits_below p n) j ≡ cond (p j) 1 0
bit_inside p zero j l = absurd (omega arith)
bit_inside p (suc n) j l =
    let s : suc n ≡ n + 1 = omega arith in
    ap (λ x. bit_at x j) (ap (bits_below p) s ∙ bits_more p n)
    ∙ elim (cases_eq j n) [
      | inl here ↦ ap (bit_at (bits_below p n + cond (p n) (2 ^ n) 0)) here
          ∙ bit_is n (bits_below p n) (p n) (bits-lt p n) ∙ ap (λ i. cond (p i) 1 0) (sym here)
      | inr other ↦ let low : j < n = omega arith in bit_low n (bits_below p n) j (p n) low ∙ bit_inside p n j low
    ]

pub bit_outside : (p : ℕ → Bool) (n j : ℕ) → n ≤ j → bit_at (bits_below p n) j ≡ 0
bit_outside p n j l = bit_at_above (bits_below p n) n j (bits-lt p n) l

-- the numbers below n that pass
pub record PassesBelow (p : ℕ → Bool) (n j : ℕ) : Type 0 where
  pub below : j < n
  pub passes : p j ≡ true

passing : (p : ℕ → Bool) (n j : ℕ) → Contains (filter p (range_with_len 0 n)) j → PassesBelow p n j
passing p n j in' = record {
  below = All-contains (λ x. x < n) (filter p (range_with_len 0 n)) j
      (All-filter p (λ x. x < n) (range_with_len 0 n)
      (λ k d l. let i : k < n = omega (arith, l, length-range_with_len 0 n) in
      omega (arith, get_or-range_with_len 0 n k d i))) in';
  passes = All-contains (λ x. p x ≡ true) (filter p (range_with_len 0 n)) j (filter_passes p (range_with_len 0 n)) in';
}

passed : (p : ℕ → Bool) (n j : ℕ) → j < n → p j ≡ true → Contains (filter p (range_with_len 0 n)) j
passed p zero j l h = absurd (omega arith)
passed p (suc n) j l h =
    let s : suc n ≡ n + 1 = omega arith in
    let is : filter p (range_with_len 0 (suc n)) ≡ filter p (range_with_len 0 n) ++ cond (p n) (n ∷ []) [] =
    ap (λ k. filter p (range_with_len 0 k)) s ∙ filter_more p n in
    subst (λ t. Contains t j) (sym is)
    (elim (cases_eq j n) [
      | inl here ↦
          let yes : cond (p n) (n ∷ []) [] ≡ j ∷ [] =
          ap (λ i. cond (p i) (i ∷ []) []) (sym here) ∙ ap (λ b. cond b (j ∷ []) []) h in
          Contains-append_right (filter p (range_with_len 0 n)) (cond (p n) (n ∷ []) []) j
          (subst (λ t. Contains t j) (sym yes) (Contains-push [] j))
      | inr other ↦ Contains-append_left (filter p (range_with_len 0 n)) (cond (p n) (n ∷ []) []) j
          (passed p n j (omega arith) h)
    ])

-- a layer is newly shown where its count is above the packets before, and at most those after
pub record IsNewlyShown (layers : List LayerSize) (before after j : ℕ) : Type 0 where
  pub layer : j < length layers
  pub above : before < count_of layers j
  pub reached : count_of layers j ≤ after

pub newly_shown-is : (layers : List LayerSize) (before after j : ℕ)
    → Contains (shown_between layers before after) j ↔ IsNewlyShown layers before after j
newly_shown-is layers before after j =
    let p : ℕ → Bool = λ i. nat_lt before (count_of layers i) && nat_le (count_of layers i) after in (
      λ in'.
          let h = passing p (length layers) j in' in
          let t : (nat_lt before (count_of layers j) && nat_le (count_of layers j) after) ≡ true = h.passes in
          record {
            layer = h.below;
            above = above before (count_of layers j) after t;
            reached = reached before (count_of layers j) after t;
          },
      λ s. passed p (length layers) j s.layer (both before (count_of layers j) after s.above s.reached),
    )
  where
    above : (a b c : ℕ) → (nat_lt a b && nat_le b c) ≡ true → a < b
    above a b c t = grind (arith, t)

    reached : (a b c : ℕ) → (nat_lt a b && nat_le b c) ≡ true → b ≤ c
    reached a b c t = grind (arith, t)

    both : (a b c : ℕ) → a < b → b ≤ c → (nat_lt a b && nat_le b c) ≡ true
    both a b c l m = grind (arith, l, m)

-- so by one packet more exactly the layers of that count are shown: each once, where the packets come one by one
pub shown_once : (layers : List LayerSize) (before j : ℕ) → Contains (shown_between layers before (before + 1)) j
    → count_of layers j ≡ before + 1
shown_once layers before j in' =
    let s = (newly_shown-is layers before (before + 1) j).0 in' in omega (arith, s.above, s.reached)

-- the set has exactly these layers as bits
pub layer_set-has : (layers : List LayerSize) (before after j : ℕ)
    → (bit_at (layer_set (shown_between layers before after)).bits j ≡ 1)
    ↔ Contains (shown_between layers before after) j
layer_set-has layers before after j =
    let p : ℕ → Bool = λ i. nat_lt before (count_of layers i) && nat_le (count_of layers i) after in
    let n = length layers in (
      λ bit.
          elim (cases_lt j n) [
            | inl l ↦ passed p n j l (is_one (p j) (bit_at (bits_below p n) j) (bit_inside p n j l) bit)
            | inr past ↦ absurd (omega (arith, bit_outside p n j past, bit))
          ],
      λ in'. let h = passing p n j in' in bit_inside p n j h.below ∙ ap (λ b. cond b 1 0) h.passes,
    )
  where
    is_one : (b : Bool) (n : ℕ) → n ≡ cond b 1 0 → n ≡ 1 → b ≡ true
    is_one true n e f = refl
    is_one false n e f = absurd (omega arith)
