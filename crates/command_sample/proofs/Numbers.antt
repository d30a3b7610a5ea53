-- Numbers of which none is there twice: so many are counted, and those that arrive are such.
use Rattle.std.proofs.Common.{◌≡◌, ℕ, zero, suc, ◌+◌, ◌<◌, ◌≤◌, Bool, true, false, cond, List, [], ◌∷◌, length, take, get_or, refl}
use Rattle.std.proofs.Common.{sym, ap, ◌∙◌, arith, inl, inr}
use Rattle.std.specs.Prelude.{◌==◌, ◌&&◌, ◌||◌, not, count_by, nat_lt}
use Rattle.std.specs.List.{list_any, range_with_len}
use Rattle.std.proofs.lemmas.Bool.{and_parts, and_from, cases_eq, eq-eqb, ne_eqb, lt-ltb, ltb-true}
use Rattle.std.proofs.lemmas.List.Sums.{sum_by-cons}
use Rattle.command_sample.specs.Arrivals.{arriving, arrivals_of_group}

abbrev pub is_in : List ℕ → ℕ → Bool
is_in xs n = list_any (λ x. x == n) xs

-- none of these numbers is there twice, and each is below 100
abbrev pub are_apart : List ℕ → Bool
are_apart [] = true
are_apart (x ∷ xs) = (not (is_in xs x) && nat_lt x 100) && are_apart xs

pub apart : are_apart arrivals_of_group ≡ true
unfolding arriving
apart = refl

record AreApart (x : ℕ) (xs : List ℕ) : Type 0 where
  new : is_in xs x ≡ false
  below : x < 100
  rest : are_apart xs ≡ true

parts : (x : ℕ) (xs : List ℕ) → are_apart (x ∷ xs) ≡ true → AreApart x xs
parts x xs are =
    let both = and_parts (not (is_in xs x) && nat_lt x 100) (are_apart xs) are in
    let first = and_parts (not (is_in xs x)) (nat_lt x 100) both.0 in
    record { new = no (is_in xs x) first.0; below = ltb-true x 100 first.1; rest = both.1 }
  where
    no : (b : Bool) → not b ≡ true → b ≡ false
    no false e = refl
    no true e = sym e

not_sooner : (xs : List ℕ) (n k : ℕ) → is_in xs n ≡ false → is_in (take k xs) n ≡ false
not_sooner xs n zero none = refl
not_sooner [] n (suc k) none = refl
not_sooner (x ∷ xs) n (suc k) none = by (x == n) (is_in xs n) none (not_sooner xs n k)
  where
    by : (a b : Bool) → (a || b) ≡ false → (b ≡ false → is_in (take k xs) n ≡ false) → (a || is_in (take k xs) n) ≡ false
    by false b e then = then e
    by true b e then = e

pub apart_front : (xs : List ℕ) (k : ℕ) → are_apart xs ≡ true → are_apart (take k xs) ≡ true
apart_front xs zero are = refl
apart_front [] (suc k) are = refl
apart_front (x ∷ xs) (suc k) are =
    let a = parts x xs are in
    and_from (not (is_in (take k xs) x) && nat_lt x 100) (are_apart (take k xs))
    (and_from (not (is_in (take k xs) x)) (nat_lt x 100) (ap not (not_sooner xs x k a.new))
    (lt-ltb x 100 a.below))
    (apart_front xs k a.rest)

-- one number more is counted once
same_above : (p : ℕ → Bool) (x k n : ℕ) → x < k
    → count_by (λ i. (x == i) || p i) (range_with_len k n) ≡ count_by p (range_with_len k n)
same_above p x k zero low = refl
same_above p x k (suc n) low =
    let one : ((x == k) || p k) ≡ p k = ap (λ (b : Bool). b || p k) (ne_eqb x k (λ e. omega (arith, e))) in
    let first : cond {A = ℕ} ((x == k) || p k) 1 0 ≡ cond {A = ℕ} (p k) 1 0 = ap (λ (b : Bool). cond {A = ℕ} b 1 0) one in
    omega (
      arith,
      first,
      same_above p x (k + 1) n (omega arith),
      sum_by-cons (λ i. cond {A = ℕ} ((x == i) || p i) 1 0) k (range_with_len (k + 1) n),
      sum_by-cons (λ i. cond {A = ℕ} (p i) 1 0) k (range_with_len (k + 1) n),
    )

one_more : (p : ℕ → Bool) (x k n : ℕ) → k ≤ x → x < k + n → p x ≡ false
    → count_by (λ i. (x == i) || p i) (range_with_len k n) ≡ suc (count_by p (range_with_len k n))
one_more p x k zero from to new = absurd (omega arith)
one_more p x k (suc n) from to new =
    let whole = sum_by-cons (λ i. cond {A = ℕ} ((x == i) || p i) 1 0) k (range_with_len (k + 1) n) in
    let old = sum_by-cons (λ i. cond {A = ℕ} (p i) 1 0) k (range_with_len (k + 1) n) in
    elim (cases_eq x k) [
      | inl same ↦
          let one : ((x == k) || p k) ≡ true = ap (λ (b : Bool). b || p k) (eq-eqb x k same) in
          let none : p k ≡ false = ap p (sym same) ∙ new in
          omega (
            arith,
            whole,
            old,
            ap (λ (b : Bool). cond {A = ℕ} b 1 0) one,
            ap (λ (b : Bool). cond {A = ℕ} b 1 0) none,
            same_above p x (k + 1) n (omega (arith, same)),
          )
      | inr other ↦
          let one : ((x == k) || p k) ≡ p k = ap (λ (b : Bool). b || p k) (ne_eqb x k other) in
          omega (
            arith,
            whole,
            old,
            ap (λ (b : Bool). cond {A = ℕ} b 1 0) one,
            one_more p x (k + 1) n (omega arith) (omega arith) new,
          )
    ]

none_counted : (k n : ℕ) → count_by (λ (i : ℕ). false) (range_with_len k n) ≡ 0
none_counted k zero = refl
none_counted k (suc n) = none_counted (k + 1) n

pub counted : (xs : List ℕ) → are_apart xs ≡ true → count_by (is_in xs) (range_with_len 0 100) ≡ length xs
counted [] are = none_counted 0 100
counted (x ∷ xs) are =
    let a = parts x xs are in
    one_more (is_in xs) x 0 100 (omega arith) (omega (arith, a.below)) a.new ∙ ap suc (counted xs a.rest)

-- each of them is below 100
below_all : (xs : List ℕ) → are_apart xs ≡ true → (k : ℕ) → get_or xs k 0 < 100
below_all [] are k = omega arith
below_all (x ∷ xs) are zero = (parts x xs are).below
below_all (x ∷ xs) are (suc k) = below_all xs (parts x xs are).rest k

pub number_below : (k : ℕ) → get_or arrivals_of_group k 0 < 100
number_below k = below_all arrivals_of_group apart k
