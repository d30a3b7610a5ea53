-- Searching, filtering and running along the numbers of a range.
use Rattle.std.proofs.Common.{◌≡◌, ℕ, zero, suc, ◌+◌, ◌<◌, ◌≤◌, Bool, true, false, cond, List, [], ◌∷◌, ◌++◌, All}
use Rattle.std.proofs.Common.{Option, None, Some, refl, sym, ap, ◌∙◌, arith}
use Rattle.std.specs.Prelude.{filter}
use Rattle.std.specs.List.{find, range_with_len}
use Rattle.std.proofs.lemmas.List.Elements.{All-filter}
use Rattle.std.proofs.lemmas.List.FromFn.{length-range_with_len, get_or-range_with_len}

pub range_append : (a n m : ℕ) → range_with_len a (n + m) ≡ range_with_len a n ++ range_with_len (a + n) m
range_append a zero m =
    let e : a ≡ a + 0 = omega arith in
    let z : 0 + m ≡ m = omega arith in
    ap (range_with_len a) z ∙ ap (λ (k : ℕ). range_with_len k m) e
range_append a (suc n) m =
    let e : suc n + m ≡ suc (n + m) = omega arith in
    let f : (a + 1) + n ≡ a + suc n = omega arith in
    ap (range_with_len a) e ∙ ap (λ (t : List ℕ). a ∷ t) (range_append (a + 1) n m
    ∙ ap (λ (k : ℕ). range_with_len (a + 1) n ++ range_with_len k m) f)

module _ {A : Type 0} (test : A → Bool) where
  pub find_append : (xs ys : List A) → find test xs ≡ None → find test (xs ++ ys) ≡ find test ys
  find_append [] ys none = refl
  find_append (x ∷ xs) ys none = by (test x) none (λ e. find_append xs ys e)
    where
      by : (b : Bool) → cond b (Some x) (find test xs) ≡ None
          → (find test xs ≡ None → find test (xs ++ ys) ≡ find test ys)
          → cond b (Some x) (find test (xs ++ ys)) ≡ find test ys
      by true e later = absurd cc
      by false e later = later e

  pub find_found : (xs ys : List A) (a : A) → find test xs ≡ Some a → find test (xs ++ ys) ≡ Some a
  find_found [] ys a some = absurd cc
  find_found (x ∷ xs) ys a some = by (test x) some (λ e. find_found xs ys a e)
    where
      by : (b : Bool) → cond b (Some x) (find test xs) ≡ Some a
          → (find test xs ≡ Some a → find test (xs ++ ys) ≡ Some a) → cond b (Some x) (find test (xs ++ ys)) ≡ Some a
      by true e later = e
      by false e later = later e

  pub find_one : (x : A) (b : Bool) → test x ≡ b → find test (x ∷ []) ≡ cond b (Some x) None
  find_one x b e = ap (λ (t : Bool). cond t (Some x) None) e

module _ (test : ℕ → Bool) where
  -- none below n, and none is n
  pub find_more : (a n : ℕ) → find test (range_with_len a n) ≡ None → test (a + n) ≡ false
      → find test (range_with_len a (n + 1)) ≡ None
  find_more a n none out = ap (find test) (range_append a n 1)
      ∙ find_append test (range_with_len a n) ((a + n) ∷ []) none ∙ find_one test (a + n) false out

  -- none below n, and n is the first
  pub find_here : (a n m : ℕ) → n < m → find test (range_with_len a n) ≡ None → test (a + n) ≡ true
      → find test (range_with_len a m) ≡ Some (a + n)
  find_here a n m lt none here = by m lt
    where
      front : find test (range_with_len a (n + 1)) ≡ Some (a + n)
      front = ap (find test) (range_append a n 1) ∙ find_append test (range_with_len a n) ((a + n) ∷ []) none
          ∙ find_one test (a + n) true here

      by : (m : ℕ) → n < m → find test (range_with_len a m) ≡ Some (a + n)
      by m lt =
          let d = Rattle.std.specs.Prelude.◌-◌ m (n + 1) in
          let e : m ≡ (n + 1) + d = omega (arith, lt) in
          ap (λ (k : ℕ). find test (range_with_len a k)) e ∙ ap (find test) (range_append a (n + 1) d)
          ∙ find_found test (range_with_len a (n + 1)) (range_with_len (a + (n + 1)) d) (a + n) front

  -- where none is found, each fails
  pub none_passes : (a n : ℕ) → find test (range_with_len a n) ≡ None → (i : ℕ) → i < n → test (a + i) ≡ false
  none_passes a zero none i lt = absurd (omega (arith, lt))
  none_passes a (suc n) none i lt = by (test a) refl none i lt (λ none i lt. none_passes (a + 1) n none i lt)
    where
      by : (b : Bool) → test a ≡ b → cond b (Some a) (find test (range_with_len (a + 1) n)) ≡ None → (i : ℕ)
          → i < suc n
          → (find test (range_with_len (a + 1) n) ≡ None → (i : ℕ) → i < n → test ((a + 1) + i) ≡ false)
          → test (a + i) ≡ false
      by true e none i lt later = absurd cc
      by false e none zero lt later = let z : a + 0 ≡ a = omega arith in ap test z ∙ e
      by false e none (suc i) lt later = let z : a + suc i ≡ (a + 1) + i = omega arith in ap test z
          ∙ later none i (omega (arith, lt))

  -- where each fails, none is found
  pub all_fail : (a n : ℕ) → ((i : ℕ) → i < n → test (a + i) ≡ false) → find test (range_with_len a n) ≡ None
  all_fail a zero each = refl
  all_fail a (suc n) each =
      let z : a ≡ a + 0 = omega arith in
      ap (λ (b : Bool). cond b (Some a) (find test (range_with_len (a + 1) n))) (ap test z ∙ each 0 (omega arith))
      ∙ all_fail (a + 1) n (λ i lt. let e : (a + 1) + i ≡ a + suc i = omega arith in ap test e
      ∙ each (suc i) (omega (arith, lt)))

  -- what is found fails nowhere below
  pub passes_found : (a n i : ℕ) → find test (range_with_len a n) ≡ Some i → (a ≤ i) × (i < a + n) × (test i ≡ true)
  passes_found a zero i some = absurd cc
  passes_found a (suc n) i some = by (test a) refl some (λ is. passes_found (a + 1) n i is)
    where
      by : (b : Bool) → test a ≡ b → cond b (Some a) (find test (range_with_len (a + 1) n)) ≡ Some i
          → (find test (range_with_len (a + 1) n) ≡ Some i → (a + 1 ≤ i) × (i < (a + 1) + n) × (test i ≡ true))
          → (a ≤ i) × (i < a + suc n) × (test i ≡ true)
      by true e is later = let same : a ≡ i = Rattle.std.proofs.lemmas.Option.same_Some a i is in
          (omega (arith, same), omega (arith, same), ap test (sym same) ∙ e)
      by false e is later = let r = later is in (omega (arith, r.0), omega (arith, r.1), r.2)

-- two tests that agree along a range
pub filter_same_range : (p q : ℕ → Bool) (a n : ℕ) → ((m : ℕ) → a ≤ m → m < a + n → p m ≡ q m)
    → filter p (range_with_len a n) ≡ filter q (range_with_len a n)
filter_same_range p q a zero same = refl
filter_same_range p q a (suc n) same =
    ap (λ (b : Bool). cond b (a ∷ filter p (range_with_len (a + 1) n)) (filter p (range_with_len (a + 1) n)))
    (same a (omega arith) (omega arith))
    ∙ ap (λ (t : List ℕ). cond (q a) (a ∷ t) t)
    (filter_same_range p q (a + 1) n (λ m low high. same m (omega (arith, low)) (omega (arith, high))))

pub find_same_range : (p q : ℕ → Bool) (a n : ℕ) → ((m : ℕ) → a ≤ m → m < a + n → p m ≡ q m)
    → find p (range_with_len a n) ≡ find q (range_with_len a n)
find_same_range p q a zero same = refl
find_same_range p q a (suc n) same =
    ap (λ (b : Bool). cond b (Some a) (find p (range_with_len (a + 1) n))) (same a (omega arith) (omega arith))
    ∙ ap (λ (t : Option ℕ). cond (q a) (Some a) t)
    (find_same_range p q (a + 1) n (λ m low high. same m (omega (arith, low)) (omega (arith, high))))

-- the numbers of a range that pass stand within it
pub below_end : (p : ℕ → Bool) (a n : ℕ) → All (λ m. m < a + n) (filter p (range_with_len a n))
below_end p a n =
    All-filter p (λ m. m < a + n) (range_with_len a n)
    (λ k d lt. let inside : k < n = omega (arith, lt, length-range_with_len a n) in
    omega (arith, inside, get_or-range_with_len a n k d inside))
