-- The first element of a list that passes a test, and the only one where one is all that passes.
use Rattle.std.proofs.Common.{◌≡◌, ◌+◌, ◌<◌, ℕ, Bool, true, false, ◌||◌, cond, List, [], ◌∷◌, length, Some, None}
use Rattle.std.proofs.Common.{position, nat_lt, slice_get, arith, refl, sym, ap, ◌∙◌, inl, inr, count_by, zero, suc}
use Rattle.std.specs.List.{list_any, position_or_len}
use Rattle.std.proofs.lemmas.Bool.Decides.{nat_tests}
use Rattle.std.proofs.lemmas.Bool.{cases_Bool}
use Rattle.std.proofs.lemmas.List.Sums.{sum_by-cons, passes_at_first}
use Rattle.std.proofs.lemmas.Option.{same_Some, get_or_from_slice_get, slice_get_within}

-- one more element
count_by-passes : {A : Type 0} (p : A → Bool) (x : A) (xs : List A) → p x ≡ true
    → count_by p (x ∷ xs) ≡ 1 + count_by p xs
count_by-passes p x xs h = sum_by-cons (λ z. cond (p z) 1 0) x xs ∙ rw h

count_by-fails : {A : Type 0} (p : A → Bool) (x : A) (xs : List A) → p x ≡ false → count_by p (x ∷ xs) ≡ count_by p xs
count_by-fails {A} p x xs h =
    let none : ℕ = 0 in
    let other : cond {A = ℕ} (p x) 1 0 ≡ none = rw h in
    omega (arith, sum_by-cons (λ z. cond (p z) 1 0) x xs, other)

pub position-passes : {A : Type 0} (p : A → Bool) (x : A) (xs : List A) → p x ≡ true → position_or_len p (x ∷ xs) ≡ 0
position-passes p x xs h = rw h

position-fails : {A : Type 0} (p : A → Bool) (x : A) (xs : List A) → p x ≡ false
    → position_or_len p (x ∷ xs) ≡ 1 + position_or_len p xs
position-fails p x xs h = rw h

-- where one element passes or more, there is a first
pub position-within : {A : Type 0} (p : A → Bool) (xs : List A) → 0 < count_by p xs → position_or_len p xs < length xs
position-within p [] h = absurd (omega arith)
position-within p (x ∷ xs) h =
    elim (cases_Bool (p x)) [
      | inl passes ↦ omega (arith, position-passes p x xs passes)
      | inr fails ↦
          let ih = position-within p xs (omega (arith, count_by-fails p x xs fails)) in
          omega (arith, position-fails p x xs fails, ih)
    ]

-- an element that passes counts
some_count : {A : Type 0} (p : A → Bool) (xs : List A) (j : ℕ) (y : A) → slice_get xs j ≡ Some y → p y ≡ true
    → 0 < count_by p xs
some_count p [] j y at passes = absurd (cc)
some_count p (x ∷ xs) zero y at passes =
    let same : x ≡ y = same_Some x y at in
    omega (arith, count_by-passes p x xs (rw same passes))
some_count p (x ∷ xs) (suc j) y at passes =
    let ih = some_count p xs j y at passes in
    elim (cases_Bool (p x)) [
      | inl here ↦ omega (arith, count_by-passes p x xs here)
      | inr fails ↦ omega (arith, count_by-fails p x xs fails, ih)
    ]

-- where one element passes, it is the first
pub only_position : {A : Type 0} (p : A → Bool) (xs : List A) → count_by p xs ≡ 1 → (j : ℕ) (y : A)
    → slice_get xs j ≡ Some y → p y ≡ true → j ≡ position_or_len p xs
only_position p [] one j y at passes = absurd (cc)
only_position p (x ∷ xs) one zero y at passes =
    let same : x ≡ y = same_Some x y at in
    sym (position-passes p x xs (rw same passes))
only_position p (x ∷ xs) one (suc j) y at passes =
    let some = some_count p xs j y at passes in
    elim (cases_Bool (p x)) [
      | inl here ↦ absurd (omega (arith, one, some, count_by-passes p x xs here))
      | inr fails ↦
          let one_later : count_by p xs ≡ 1 = omega (arith, one, count_by-fails p x xs fails) in
          omega (arith, only_position p xs one_later j y at passes, position-fails p x xs fails)
    ]

-- the first that passes, passes
pub passes_at_position : {A : Type 0} (p : A → Bool) (xs : List A) (y : A)
    → slice_get xs (position_or_len p xs) ≡ Some y → p y ≡ true
passes_at_position p xs y at =
    let first = position_or_len p xs in
    rw (get_or_from_slice_get xs first y y at) at (passes_at_first p xs y (slice_get_within xs first y at))

rest_passes : {A : Type 0} (p : A → Bool) (x : A) (xs : List A) (b : Bool) → p x ≡ false → list_any p (x ∷ xs) ≡ b
    → list_any p xs ≡ b
rest_passes p x xs b fails h = sym (ap (λ c. c || list_any p xs) fails) ∙ h

-- where an element passes, the search counts and finds one
pub some_passes : {A : Type 0} (p : A → Bool) (xs : List A) → list_any p xs ≡ true → 0 < count_by p xs
some_passes p [] h = absurd (cc)
some_passes p (x ∷ xs) h =
    elim (cases_Bool (p x)) [
      | inl here ↦ omega (arith, count_by-passes p x xs here)
      | inr fails ↦ omega (arith, count_by-fails p x xs fails, some_passes p xs (rest_passes p x xs true fails h))
    ]

pub position-found : {A : Type 0} (p : A → Bool) (xs : List A) → 0 < count_by p xs
    → position p xs ≡ Some (position_or_len p xs)
position-found p xs h =
    let within = position-within p xs h in
    let found : nat_lt (position_or_len p xs) (length xs) ≡ true = grind (arith, nat_tests) in
    rw found

-- and where none passes, it counts and finds none
pub nothing_passes : {A : Type 0} (xs : List A) → list_any (λ _. false) xs ≡ false
nothing_passes [] = refl
nothing_passes (x ∷ xs) = nothing_passes xs

none_passes : {A : Type 0} (p : A → Bool) (x : A) (xs : List A) → list_any p (x ∷ xs) ≡ false
    → (p x ≡ false) × (list_any p xs ≡ false)
none_passes p x xs h =
    elim (cases_Bool (p x)) [
      | inl here ↦ absurd (cc (sym (ap (λ c. c || list_any p xs) here) ∙ h))
      | inr fails ↦ (fails, rest_passes p x xs false fails h)
    ]

pub count_by-none : {A : Type 0} (p : A → Bool) (xs : List A) → list_any p xs ≡ false → count_by p xs ≡ 0
count_by-none p [] h = refl
count_by-none p (x ∷ xs) h =
    let (fails, rest) = none_passes p x xs h in
    omega (arith, count_by-fails p x xs fails, count_by-none p xs rest)

position-end : {A : Type 0} (p : A → Bool) (xs : List A) → list_any p xs ≡ false → position_or_len p xs ≡ length xs
position-end p [] h = refl
position-end p (x ∷ xs) h =
    let (fails, rest) = none_passes p x xs h in
    omega (arith, position-fails p x xs fails, position-end p xs rest)

pub position-none : {A : Type 0} (p : A → Bool) (xs : List A) → list_any p xs ≡ false → position p xs ≡ None
position-none p xs h =
    let at_end = position-end p xs h in
    let not_within : nat_lt (position_or_len p xs) (length xs) ≡ false = grind (arith, nat_tests) in
    rw not_within
