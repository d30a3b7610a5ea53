-- x has the order 65,535, so each element but zero is a power of x.
use Rattle.std.proofs.Common.{◌≡◌, ◌≢◌, ℕ, zero, suc, ◌+◌, ◌-◌, ◌*◌, ◌/◌, ◌<◌, ◌≤◌, ◌⊎◌, inl, inr, Bool, true, false}
use Rattle.std.proofs.Common.{◌||◌, eqb, List, [], ◌∷◌, length, refl, sym, ap, ◌∙◌, subst, arith}
use Rattle.std.specs.List.{list_any, IsDistinct, AllByRecursion as Each}
use Rattle.std.proofs.lemmas.Bool.{cases_eq, cases_lt, eqb-true, eqb-false, ne_eqb, or_cases, false≢true}
use Rattle.std.proofs.lemmas.Map.Steps.{length-le_from_distinct_below}
use lib.Bits.{bit_xor, xor_zero_r}
use native.Mathlib.Nat.{zero-mul, one-mul}
use Rattle.field_elements.specs.Carryless.{carryless}
use Rattle.field_elements.specs.BinaryField.{IsProduct, times}
use Rattle.field_elements.specs.laws.Xor.{xor_cancel}
use Rattle.field_elements.specs.laws.CarrylessLaws.{carryless-one_l}
use Rattle.field_elements.specs.laws.Degrees.{same_degree_below}
use Rattle.field_elements.specs.laws.Division.{carryless_power, Same-refl}
use Rattle.field_elements.specs.laws.ResidueLaws.{is_times}
use Rattle.field_elements.specs.laws.FieldLaws.{times-zero}
use Rattle.field_elements.specs.laws.Gf16Laws.{gf16_modulus, gf16_field}
use Rattle.field_elements.specs.Gf16.{gf16}
use Rattle.pet_field.specs.Powers.{power_of_x}
use Rattle.pet_field.specs.laws.PowerLaws.{powers_are, powers_add}

-- x times the element
twice : ℕ → ℕ
twice a = bit_xor (a * 2) (a / 32768 * 0x1100B)

twice_is : (a : ℕ) → a < 65536 → IsProduct 16 0x1100B 2 a (twice a)
unfolding twice
twice_is a h =
    let e : carryless 2 a ≡ a * 2 = carryless_power 1 a ∙ omega arith in
    elim (cases_lt a 32768) [
      | inl l ↦
          let z : a / 32768 ≡ 0 = omega arith in
          let t : bit_xor (a * 2) (a / 32768 * 0x1100B) ≡ a * 2 =
          ap (λ q. bit_xor (a * 2) (q * 0x1100B)) z ∙ ap (bit_xor (a * 2)) (zero-mul 0x1100B) ∙ xor_zero_r (a * 2) in
          rw t (record { below = omega arith; congruent = rw e (Same-refl 0x1100B (a * 2)) })
      | inr g ↦
          let z : a / 32768 ≡ 1 = omega arith in
          let t : bit_xor (a * 2) (a / 32768 * 0x1100B) ≡ bit_xor (a * 2) 0x1100B =
          ap (λ q. bit_xor (a * 2) (q * 0x1100B)) z ∙ ap (bit_xor (a * 2)) (one-mul 0x1100B) in
          rw t
          (record {
            below = same_degree_below 16 (a * 2) 0x1100B (omega arith, omega arith) (omega arith, omega arith);
            congruent = rw e (1, xor_cancel (a * 2) 0x1100B ∙ sym (carryless-one_l 0x1100B));
          })
    ]

-- what is a product is the field's product
pub product_is : (a b c : ℕ) → a < 65536 → b < 65536 → IsProduct 16 0x1100B a b c → c ≡ gf16.times a b
product_is = is_times 16 0x1100B gf16_modulus.some gf16_modulus.degree

twice_times : (a : ℕ) → a < 65536 → twice a ≡ gf16.times 2 a
twice_times a h = product_is 2 a (twice a) (omega arith) h (twice_is a h)

pub power-suc : (k : ℕ) → power_of_x (suc k) ≡ gf16.times 2 (power_of_x k)
unfolding power_of_x
power-suc k = refl

pub power-one : power_of_x 0 ≡ 1
unfolding power_of_x
power-one = refl

pub power_below : (k : ℕ) → power_of_x k < 65536
power_below = powers_are (λ a. a < 65536) gf16 gf16_field 2 (omega arith) power_of_x power-one power-suc

pub power-add : (i j : ℕ) → power_of_x (i + j) ≡ gf16.times (power_of_x i) (power_of_x j)
power-add = powers_add (λ a. a < 65536) gf16 gf16_field 2 (omega arith) power_of_x power-one power-suc

power_twice : (k : ℕ) → power_of_x (suc k) ≡ twice (power_of_x k)
power_twice k = power-suc k ∙ sym (twice_times (power_of_x k) (power_below k))

-- ---- the order, by going through the powers

-- none of the n elements from a on, each twice the one before, is 1
none_is_one : ℕ → ℕ → Bool
none_is_one zero a = true
none_is_one (suc n) a = elim (eqb a 1) [ true ↦ false | false ↦ none_is_one n (twice a) ]

checked : none_is_one 65534 2 ≡ true
unfolding none_is_one twice
checked = refl

doubled : ℕ → ℕ → ℕ
doubled zero a = a
doubled (suc n) a = doubled n (twice a)

round : doubled 65535 1 ≡ 1
unfolding doubled twice
round = refl

doubled_is : (n k : ℕ) → doubled n (power_of_x k) ≡ power_of_x (k + n)
unfolding doubled
doubled_is zero k = ap power_of_x (omega arith)
doubled_is (suc n) k = ap (doubled n) (sym (power_twice k)) ∙ doubled_is n (suc k) ∙ ap power_of_x (omega arith)

none_step : (n a : ℕ) → none_is_one (suc n) a ≡ true → (a ≢ 1) × (none_is_one n (twice a) ≡ true)
unfolding none_is_one
none_step n a = go (eqb a 1) refl
  where
    go : (b : Bool) → eqb a 1 ≡ b → elim b [ true ↦ false | false ↦ none_is_one n (twice a) ] ≡ true
        → (a ≢ 1) × (none_is_one n (twice a) ≡ true)
    go true e h = absurd (false≢true h)
    go false e h = (eqb-false a 1 e, h)

none_at : (n k i : ℕ) → none_is_one n (power_of_x k) ≡ true → i < n → power_of_x (k + i) ≢ 1
none_at zero k i h l = absurd (omega arith)
none_at (suc n) k i h l =
    let p = none_step n (power_of_x k) h in
    elim (cases_eq i 0) [
      | inl z ↦
          let e : k ≡ k + i = omega arith in
          subst (λ j. power_of_x j ≢ 1) e p.0
      | inr z ↦
          let e : suc k + (i - 1) ≡ k + i = omega arith in
          let rest : none_is_one n (power_of_x (suc k)) ≡ true = ap (none_is_one n) (power_twice k) ∙ p.1 in
          subst (λ j. power_of_x j ≢ 1) e (none_at n (suc k) (i - 1) rest (omega arith))
    ]

twice_one : twice 1 ≡ 2
unfolding twice
twice_one = refl

power_1 : power_of_x 1 ≡ 2
power_1 = power_twice 0 ∙ ap twice power-one ∙ twice_one

-- a number that stands for 65,535, so that no tactic computes with it
module _ (n : ℕ) (n_is : n ≡ 65535) where
  pub turn : power_of_x n ≡ 1
  turn =
      let e : 0 + 65535 ≡ n = omega arith in
      sym (doubled_is 65535 0 ∙ ap power_of_x e) ∙ ap (doubled 65535) power-one ∙ round

  not_before : (k : ℕ) → 0 < k → k < n → power_of_x k ≢ 1
  not_before k lo hi =
      let e : 1 + (k - 1) ≡ k = omega arith in
      let none : none_is_one 65534 (power_of_x 1) ≡ true = ap (none_is_one 65534) power_1 ∙ checked in
      subst (λ j. power_of_x j ≢ 1) e (none_at 65534 1 (k - 1) none (omega arith))

  pub power-turn : (k : ℕ) → power_of_x (n + k) ≡ power_of_x k
  power-turn k =
      let h = power_below k in
      power-add n k ∙ ap (λ y. gf16.times y (power_of_x k)) turn
      ∙ gf16_field.times_comm 1 (power_of_x k) (omega arith) h ∙ gf16_field.times-one (power_of_x k) h

  differ_before : (i j : ℕ) → i < j → j < n → power_of_x i ≢ power_of_x j
  differ_before i j l m e =
      let p : n - i + i ≡ n = omega arith in
      let q : n - i + j ≡ n + (j - i) = omega arith in
      let t : power_of_x (j - i) ≡ 1 =
      sym (power-turn (j - i)) ∙ ap power_of_x (sym q) ∙ power-add (n - i) j
      ∙ ap (gf16.times (power_of_x (n - i))) (sym e) ∙ sym (power-add (n - i) i) ∙ ap power_of_x p ∙ turn in
      not_before (j - i) (omega arith) (omega arith) t

  never_zero : (k : ℕ) → k ≤ n → power_of_x k ≢ 0
  never_zero k l z =
      let p : n - k + k ≡ n = omega arith in
      let h = power_below (n - k) in
      let t : ◌≡◌ {A = ℕ} 1 0 = sym turn ∙ ap power_of_x (sym p) ∙ power-add (n - k) k
      ∙ ap (gf16.times (power_of_x (n - k))) z ∙ times-zero (λ a. a < 65536) gf16 gf16_field (power_of_x (n - k)) h in
      absurd (omega arith)

  -- the powers below k, the highest first
  powers : ℕ → List ℕ
  powers zero = []
  powers (suc k) = power_of_x k ∷ powers k

  length-powers : (k : ℕ) → length (powers k) ≡ k
  unfolding powers
  length-powers zero = refl
  length-powers (suc k) = ap suc (length-powers k)

  apart : (a k : ℕ) → ((i : ℕ) → i < k → power_of_x i ≢ a) → Each (λ y. eqb a y ≡ false) (powers k)
  unfolding powers
  apart a zero h = tt
  apart a (suc k) h = (ne_eqb a (power_of_x k) (λ e. h k (omega arith) (sym e)), apart a k (λ i l. h i (omega arith)))

  distinct : (k : ℕ) → k ≤ n → IsDistinct eqb (powers k)
  unfolding powers IsDistinct
  distinct zero h = tt
  distinct (suc k) h = (apart (power_of_x k) k (λ i l. differ_before i k l h), distinct k (omega arith))

  powers_below : (k q : ℕ) → list_any (eqb q) (powers k) ≡ true → q < 65536
  unfolding powers
  powers_below zero q h = absurd (false≢true h)
  powers_below (suc k) q h =
      elim (or_cases (eqb q (power_of_x k)) (list_any (eqb q) (powers k)) h) [
        | inl e ↦ rw (eqb-true q (power_of_x k) e) (power_below k)
        | inr e ↦ powers_below k q e
      ]

  look : (a k : ℕ) → ((i : ℕ) × (i < k) × (power_of_x i ≡ a)) ⊎ ((i : ℕ) → i < k → power_of_x i ≢ a)
  look a zero = inr (λ i l. absurd (omega arith))
  look a (suc k) =
      elim (cases_eq (power_of_x k) a) [
        | inl e ↦ inl (k, omega arith, e)
        | inr ne ↦
            elim (look a k) [
              | inl x ↦ inl (x.0, omega (arith, x.1), x.2)
              | inr absent ↦ inr (λ i l. elim (cases_eq i k) [
                | inl e ↦ subst (λ j. power_of_x j ≢ a) (sym e) ne
                | inr d ↦ absent i (omega arith)
              ])
            ]
      ]

  too_many : (a : ℕ) → 0 < a → a < 65536 → ((i : ℕ) → i < n → power_of_x i ≢ a) → ⊥
  unfolding IsDistinct
  too_many a lo hi absent =
      let zero_apart = apart 0 n (λ i l. never_zero i (omega arith)) in
      let a_apart = apart a n absent in
      let ne : eqb a 0 ≡ false = ne_eqb a 0 (omega arith) in
      let long = length-le_from_distinct_below (a ∷ 0 ∷ powers n) 65536
      ((ne, a_apart), (zero_apart, distinct n (omega arith))) (below_all a hi) in
      omega (arith, long, length-powers n)
    where
      below_all : (a : ℕ) → a < 65536 → (q : ℕ) → list_any (eqb q) (a ∷ 0 ∷ powers n) ≡ true → q < 65536
      below_all a hi q h =
          elim (or_cases (eqb q a) (eqb q 0 || list_any (eqb q) (powers n)) h) [
            | inl e ↦ omega (arith, eqb-true q a e)
            | inr e ↦
                elim (or_cases (eqb q 0) (list_any (eqb q) (powers n)) e) [
                  | inl z ↦ omega (arith, eqb-true q 0 z)
                  | inr z ↦ powers_below n q z
                ]
          ]

  -- each element but zero is a power of x
  pub logarithm : (a : ℕ) → 0 < a → a < 65536 → (k : ℕ) × (k < n) × (power_of_x k ≡ a)
  logarithm a lo hi = elim (look a n) [ inl x ↦ x | inr absent ↦ absurd (too_many a lo hi absent) ]
