-- Lists of classes and their sets.
use Rattle.std.proofs.Common.{nat_eq, ◌^◌, ◌*◌, ◌+◌, nat_lt, ◌<◌, ◌≡◌, ℕ, Bool, true, false, cond, not, ◌==◌, ◌||◌}
use Rattle.std.proofs.Common.{bit_and, bit_or, List, [], ◌∷◌, ◌++◌, length, take, get_or, append-nil, refl, ap, sym}
use Rattle.std.proofs.Common.{◌∙◌, arith, fold, count_by, flat_map, inl, inr}
use Rattle.std.specs.List.{list_any}
use Rattle.std.proofs.lemmas.Bool.{cases_Bool}
use Rattle.std.proofs.lemmas.Bool.Decides.{nat_tests}
use Rattle.std.proofs.lemmas.List.Sums.{sum_by-cons}
use Rattle.std.proofs.lemmas.List.{take_more}
use Rattle.std.proofs.lemmas.List.Concat.{flat_map-cons}
use Rattle.std.proofs.lemmas.Grind.{flat_map-append}
use Rattle.std.proofs.lemmas.Nat.{and_or_self, and_or_apart}
use Rattle.std.specs.Int.Bits.{and_zero_l, and_zero_r}
use Rattle.std.proofs.lemmas.Nat.{and_block, and_comm, pow_below, pow_pos}
use Rattle.priority_file.specs.Kinds.{lists, bits_of, has_class}
use Rattle.priority_file.specs.Draft.{LayerText}
use Rattle.priority_file.specs.Bounds.{has_repeat}

power_below : (i j : ℕ) → i < j → bit_and (2 ^ i) (2 ^ j) ≡ 0
power_below i j h =
    let block = and_block j 0 1 (2 ^ i) 0 (pow_below i j h) (pow_pos j) in
    let left : 0 * 2 ^ j + 2 ^ i ≡ 2 ^ i = omega arith in
    let right : 1 * 2 ^ j + 0 ≡ 2 ^ j = omega arith in
    let none : bit_and (2 ^ i) 0 ≡ 0 = and_zero_r (2 ^ i) in
    rw (left, right, none) at block ∙ omega arith

powers_apart : (i j : ℕ) → (j == i) ≡ false → bit_and (2 ^ i) (2 ^ j) ≡ 0
powers_apart i j h =
    elim (cases_Bool (nat_lt i j)) [
      | inl below ↦ power_below i j (grind (arith, nat_tests))
      | inr other ↦
          let above : j < i = grind (arith, nat_tests) in
          and_comm (2 ^ i) (2 ^ j) ∙ power_below j i above
    ]

same_index : (i j : ℕ) → (i == j) ≡ true → j ≡ i
same_index i j h = grind (arith, nat_tests)

power_is_some : (i : ℕ) → (2 ^ i == 0) ≡ false
power_is_some i =
    let some = pow_pos i in
    grind (arith, nat_tests)

or_true : (b c : Bool) → c ≡ true → (b || c) ≡ true
or_true true c h = refl
or_true false c h = h

pub or_false : (b c : Bool) → c ≡ false → (b || c) ≡ b
or_false true c h = refl
or_false false c h = h

-- one more kind in a set
has_class-or : (bits : ℕ) (k l : ℕ) → has_class (bit_or bits (2 ^ l)) k ≡ (has_class bits k || nat_eq k l)
has_class-or bits k l =
    elim (cases_Bool (nat_eq k l)) [
      | inl same ↦
          let here : bit_and (bit_or bits (2 ^ l)) (2 ^ k) ≡ 2 ^ k =
          rw (same_index k l same) (and_or_self (2 ^ k) bits) in
          let has : has_class (bit_or bits (2 ^ l)) k ≡ true = rw (here, power_is_some k) in
          has ∙ sym (or_true (has_class bits k) (nat_eq k l) same)
      | inr other ↦
          let here : bit_and (bit_or bits (2 ^ l)) (2 ^ k) ≡ bit_and bits (2 ^ k) =
          and_or_apart (2 ^ k) bits (2 ^ l) (powers_apart l k other) in
          ap (λ n. not (n == 0)) here ∙ sym (or_false (has_class bits k) (nat_eq k l) other)
    ]

or_assoc : (a b c : Bool) → ((a || b) || c) ≡ (a || (b || c))
or_assoc true b c = refl
or_assoc false b c = refl

has_class-fold : (bits : ℕ) (k : ℕ) (ks : List ℕ)
    → has_class (fold (λ s l. bit_or s (2 ^ l)) bits ks) k ≡ (has_class bits k || lists k ks)
has_class-fold bits k [] = sym (or_false (has_class bits k) false refl)
has_class-fold bits k (l ∷ ks) =
    has_class-fold (bit_or bits (2 ^ l)) k ks
    ∙ ap (λ b. b || lists k ks) (has_class-or bits k l)
    ∙ or_assoc (has_class bits k) (nat_eq k l) (lists k ks)

-- the set of a list has the kinds of the list
pub has_class-bits_of : (k : ℕ) (ks : List ℕ) → has_class (bits_of ks) k ≡ lists k ks
has_class-bits_of k ks =
    let none : has_class 0 k ≡ false = ap (λ n. not (n == 0)) (and_zero_l (2 ^ k)) in
    has_class-fold 0 k ks ∙ ap (λ b. b || lists k ks) none

pub list_any-append : {A : Type 0} (p : A → Bool) (xs ys : List A)
    → list_any p (xs ++ ys) ≡ (list_any p xs || list_any p ys)
list_any-append p [] ys = refl
list_any-append p (x ∷ xs) ys =
    ap (λ b. p x || b) (list_any-append p xs ys) ∙ sym (or_assoc (p x) (list_any p xs) (list_any p ys))

pub or_parts : (a b : Bool) → (a || b) ≡ false → (a ≡ false) × (b ≡ false)
or_parts true b h = absurd (cc)
or_parts false b h = (refl, h)

has_repeat-back : {A : Type 0} (same : A → A → Bool) (xs ys : List A) → has_repeat same (xs ++ ys) ≡ false
    → has_repeat same ys ≡ false
has_repeat-back same [] ys h = h
has_repeat-back same (x ∷ xs) ys h =
    has_repeat-back same xs ys (or_parts (list_any (same x) (xs ++ ys)) (has_repeat same (xs ++ ys)) h).1

-- what the front of a list without repeats lists, its back does not
lists-apart : (k : ℕ) (xs ys : List ℕ) → has_repeat nat_eq (xs ++ ys) ≡ false → lists k xs ≡ true → lists k ys ≡ false
lists-apart k [] ys h has = absurd (cc)
lists-apart k (x ∷ xs) ys h has =
    let parts = or_parts (list_any (nat_eq x) (xs ++ ys)) (has_repeat nat_eq (xs ++ ys)) h in
    elim (cases_Bool (nat_eq k x)) [
      | inl same ↦
          let both = or_parts (list_any (nat_eq x) xs) (list_any (nat_eq x) ys)
          (sym (list_any-append (nat_eq x) xs ys) ∙ parts.0) in
          let equal : lists k ys ≡ lists x ys = ap (λ n. list_any (λ y. n == y) ys) (sym (same_index k x same)) in
          equal ∙ both.1
      | inr other ↦
          let more : lists k xs ≡ true = sym (ap (λ b. b || lists k xs) other) ∙ has in
          lists-apart k xs ys parts.1 more
    ]

abbrev pub listed_in : List LayerText → List ℕ
listed_in ls = flat_map (λ l. l.kinds) ls

abbrev pub layers_listing : ℕ → List LayerText → ℕ
layers_listing k ls = count_by (λ l. lists k l.kinds) ls

pub none_lists : (k : ℕ) (ls : List LayerText) → lists k (listed_in ls) ≡ false → layers_listing k ls ≡ 0
none_lists k [] h = refl
none_lists k (l ∷ ls) h =
    let parts = or_parts (lists k l.kinds) (lists k (listed_in ls))
    (sym (list_any-append (nat_eq k) l.kinds (listed_in ls)) ∙ h) in
    sum_by-cons (λ x. cond (lists k x.kinds) 1 0) l ls ∙ rw (parts.0) (omega (arith, none_lists k ls parts.1))

pub one_lists : (k : ℕ) (ls : List LayerText) → has_repeat nat_eq (listed_in ls) ≡ false
    → lists k (listed_in ls) ≡ true → layers_listing k ls ≡ 1
one_lists k [] h has = absurd (cc)
one_lists k (l ∷ ls) h has =
    elim (cases_Bool (lists k l.kinds)) [
      | inl here ↦
          let rest = none_lists k ls (lists-apart k l.kinds (listed_in ls) h here) in
          sum_by-cons (λ x. cond (lists k x.kinds) 1 0) l ls ∙ rw here (omega (arith, rest))
      | inr later ↦
          let more : lists k (listed_in ls) ≡ true =
          sym (ap (λ b. b || lists k (listed_in ls)) later) ∙ sym (list_any-append (nat_eq k) l.kinds (listed_in ls))
          ∙ has in
          let rest = one_lists k ls (has_repeat-back nat_eq l.kinds (listed_in ls) h) more in
          sum_by-cons (λ x. cond (lists k x.kinds) 1 0) l ls ∙ rw later (omega (arith, rest))
    ]

-- the lists of one element more
pub flat_map_more : {X A : Type 0} (f : X → List A) (xs : List X) (i : ℕ) (x : X) → i < length xs → x ≡ get_or xs i x
    → flat_map f (take (i + 1) xs) ≡ flat_map f (take i xs) ++ f x
flat_map_more f xs i x within is =
    ap (flat_map f) (take_more xs i x within)
    ∙ (flat_map-append f (take i xs) (get_or xs i x ∷ []) ∙ rw (← is, flat_map-cons f x [], append-nil (f x)))
