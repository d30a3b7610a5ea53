-- What inserting an entry does to a list of entries in rising order, and to what is looked up in it.
use Rattle.std.proofs.Common.{◌≡◌, ◌≢◌, ℕ, ◌+◌, ◌<◌, cond, Bool, true, false, List, [], ◌∷◌, All, get_or, Option, None}
use Rattle.std.proofs.Common.{Some, map, sum_by, unwrap_or, option_map, Ordering, Less, Equal, Greater, nat_cmp, is_eq}
use Rattle.std.proofs.Common.{refl, sym, ap, ◌∙◌, arith, inl, inr}
use Rattle.std.specs.Ordering.{match_ordering}
use Rattle.std.specs.Cmp.{nat_cmp_is, nat_cmp_total, eq_by_cmp_equiv}
use Rattle.std.specs.BTreeMap.{is_at, insert_entry}
use Rattle.std.specs.Map.{lookup, set_value, keys_of, values_of}
use Rattle.std.specs.List.Sorted.{IsStrictlySortedBy}
use Rattle.std.proofs.lemmas.Bool.{cases_lt}
use Rattle.std.proofs.lemmas.Option.{slice_get-get_or}
use Rattle.std.proofs.lemmas.List.Elements.{All-from_recursion, recursion_from_All}
use Rattle.std.proofs.lemmas.List.Sums.{sum_by-cons}
use Rattle.std.proofs.lemmas.Map.{lookup-none}
use Rattle.std.proofs.lemmas.Map.Entries.{none_below_head, lookup_from_place, sum_by-insert_entry}
use Rattle.std.proofs.lemmas.Map.Keys.{sorted_tail, IsDistinct-from_sorted}
use Rattle.std.proofs.lemmas.Map.Lookups.{exact_unsigned}
use Rattle.std.proofs.lemmas.Map.Views.{All-keys-insert_entry}

pub cmp_same : (k : ℕ) → nat_cmp k k ≡ Equal
cmp_same k = sym (nat_cmp_is k k Equal refl)

pub cmp_apart : (q k : ℕ) → q ≢ k → is_eq (nat_cmp q k) ≡ false
cmp_apart q k ne =
    elim (cases_lt q k) [
      | inl l ↦ ap is_eq (sym (nat_cmp_is q k Less l))
      | inr m ↦ let above : k < q = omega arith in ap is_eq (sym (nat_cmp_is q k Greater above))
    ]

pub cmp_less : (q k : ℕ) → q < k → nat_cmp q k ≡ Less
cmp_less q k l = sym (nat_cmp_is q k Less l)

-- what the order says of two numbers
pub cmp_says_less : (q k : ℕ) → nat_cmp q k ≡ Less → q < k
cmp_says_less q k p =
    elim (cases_lt q k) [
      | inl l ↦ l
      | inr m ↦ elim (cases_lt k q) [
        | inl above ↦ let e : Less ≡ Greater = sym p ∙ sym (nat_cmp_is q k Greater above) in absurd (cc)
        | inr below ↦ let same : q ≡ k =
            omega arith in let e : Less ≡ Equal = sym p ∙ sym (nat_cmp_is q k Equal same) in absurd (cc)
      ]
    ]

pub cmp_says_greater : (q k : ℕ) → nat_cmp q k ≡ Greater → k < q
cmp_says_greater q k p =
    elim (cases_lt k q) [
      | inl l ↦ l
      | inr m ↦ elim (cases_lt q k) [
        | inl below ↦ let e : Greater ≡ Less = sym p ∙ sym (nat_cmp_is q k Less below) in absurd (cc)
        | inr above ↦ let same : q ≡ k =
            omega arith in let e : Greater ≡ Equal = sym p ∙ sym (nat_cmp_is q k Equal same) in absurd (cc)
      ]
    ]

-- what a value weighs, and 0 where there is none
abbrev pub weight : {X : Type 0} → (X → ℕ) → Option X → ℕ
weight f o = unwrap_or (option_map f o) 0

module _ {X : Type 0} where
  here_by : (e : ℕ × X) (es : List (ℕ × X)) (k : ℕ) (v : X) (r : Ordering) → nat_cmp k e.0 ≡ r
      → lookup (is_at (nat_cmp k)) (insert_entry nat_cmp es k v) ≡ Some v
      → lookup (is_at (nat_cmp k))
      (match_ordering r ((k, v) ∷ e ∷ es) ((e.0, v) ∷ es) (e ∷ insert_entry nat_cmp es k v)) ≡ Some v
  here_by e es k v Less p ih = ap (λ r. cond (is_eq r) (Some v) (lookup (is_at (nat_cmp k)) (e ∷ es))) (cmp_same k)
  here_by e es k v Equal p ih = ap (λ r. cond (is_eq r) (Some v) (lookup (is_at (nat_cmp k)) es)) p
  here_by e es k v Greater p ih =
      ap (λ r. cond (is_eq r) (Some e.1) (lookup (is_at (nat_cmp k)) (insert_entry nat_cmp es k v))) p ∙ ih

  pub lookup_here : (es : List (ℕ × X)) (k : ℕ) (v : X)
      → lookup (is_at (nat_cmp k)) (insert_entry nat_cmp es k v) ≡ Some v
  lookup_here [] k v = ap (λ r. cond (is_eq r) (Some v) None) (cmp_same k)
  lookup_here (e ∷ es) k v = here_by e es k v (nat_cmp k e.0) refl (lookup_here es k v)

  other_by : (e : ℕ × X) (es : List (ℕ × X)) (k : ℕ) (v : X) (q : ℕ) (r : Ordering) → q ≢ k → nat_cmp k e.0 ≡ r
      → lookup (is_at (nat_cmp q)) (insert_entry nat_cmp es k v) ≡ lookup (is_at (nat_cmp q)) es
      → lookup (is_at (nat_cmp q)) (match_ordering r ((k, v) ∷ e ∷ es) ((e.0, v) ∷ es)
      (e ∷ insert_entry nat_cmp es k v)) ≡ lookup (is_at (nat_cmp q)) (e ∷ es)
  other_by e es k v q Less ne p ih = ap (λ b. cond b (Some v) (lookup (is_at (nat_cmp q)) (e ∷ es))) (cmp_apart q k ne)
  other_by e es k v q Equal ne p ih =
      let apart : q ≢ e.0 = λ same. ne (same ∙ sym (exact_unsigned k e.0 p)) in
      ap (λ b. cond b (Some v) (lookup (is_at (nat_cmp q)) es)) (cmp_apart q e.0 apart)
      ∙ sym (ap (λ b. cond b (Some e.1) (lookup (is_at (nat_cmp q)) es)) (cmp_apart q e.0 apart))
  other_by e es k v q Greater ne p ih = ap (cond (is_eq (nat_cmp q e.0)) (Some e.1)) ih

  pub lookup_other : (es : List (ℕ × X)) (k : ℕ) (v : X) (q : ℕ) → q ≢ k
      → lookup (is_at (nat_cmp q)) (insert_entry nat_cmp es k v) ≡ lookup (is_at (nat_cmp q)) es
  lookup_other [] k v q ne = ap (λ b. cond b (Some v) None) (cmp_apart q k ne)
  lookup_other (e ∷ es) k v q ne = other_by e es k v q (nat_cmp k e.0) ne refl (lookup_other es k v q ne)

  rises_by : (e : ℕ × X) (es : List (ℕ × X)) (k : ℕ) (v : X) (r : Ordering) → nat_cmp k e.0 ≡ r
      → IsStrictlySortedBy nat_cmp (keys_of (e ∷ es))
      → IsStrictlySortedBy nat_cmp (keys_of (insert_entry nat_cmp es k v))
      → IsStrictlySortedBy nat_cmp
      (keys_of (match_ordering r ((k, v) ∷ e ∷ es) ((e.0, v) ∷ es) (e ∷ insert_entry nat_cmp es k v)))
  unfolding IsStrictlySortedBy
  rises_by e es k v Less p s ih =
      let later = All-from_recursion (λ y. nat_cmp e.0 y ≡ Less) (keys_of es) s.0 in
      let first = cmp_says_less k e.0 p in (
        (
          p,
          recursion_from_All (λ y. nat_cmp k y ≡ Less) (keys_of es)
              (λ i d l. let past = cmp_says_less e.0 (get_or (keys_of es) i d) (later i d l) in
              cmp_less k (get_or (keys_of es) i d) (omega arith)),
        ),
        s,
      )
  rises_by e es k v Equal p s ih = s
  rises_by e es k v Greater p s ih =
      let later = All-from_recursion (λ y. nat_cmp e.0 y ≡ Less) (keys_of es) s.0 in
      let first = cmp_less e.0 k (cmp_says_greater k e.0 p) in (
        recursion_from_All (λ y. nat_cmp e.0 y ≡ Less) (keys_of (insert_entry nat_cmp es k v))
            (All-keys-insert_entry nat_cmp k v (λ y. nat_cmp e.0 y ≡ Less) es later first),
        ih,
      )

  pub rises_insert : (es : List (ℕ × X)) (k : ℕ) (v : X) → IsStrictlySortedBy nat_cmp (keys_of es)
      → IsStrictlySortedBy nat_cmp (keys_of (insert_entry nat_cmp es k v))
  unfolding IsStrictlySortedBy
  rises_insert [] k v s = (tt, tt)
  rises_insert (e ∷ es) k v s =
      rises_by e es k v (nat_cmp k e.0) refl s (rises_insert es k v (sorted_tail nat_cmp e.0 (keys_of es) s))

  twice_by : (e : ℕ × X) (es : List (ℕ × X)) (k : ℕ) (u v : X) (r : Ordering) → nat_cmp k e.0 ≡ r
      → insert_entry nat_cmp (insert_entry nat_cmp es k u) k v ≡ insert_entry nat_cmp es k v
      → insert_entry nat_cmp (match_ordering r ((k, u) ∷ e ∷ es) ((e.0, u) ∷ es) (e ∷ insert_entry nat_cmp es k u)) k v
      ≡ match_ordering r ((k, v) ∷ e ∷ es) ((e.0, v) ∷ es) (e ∷ insert_entry nat_cmp es k v)
  twice_by e es k u v Less p ih =
      ap (λ r. match_ordering r ((k, v) ∷ (k, u) ∷ e ∷ es) ((k, v) ∷ e ∷ es)
      ((k, u) ∷ insert_entry nat_cmp (e ∷ es) k v)) (cmp_same k)
  twice_by e es k u v Equal p ih =
      ap (λ r. match_ordering r ((k, v) ∷ (e.0, u) ∷ es) ((e.0, v) ∷ es) ((e.0, u) ∷ insert_entry nat_cmp es k v)) p
  twice_by e es k u v Greater p ih =
      ap (λ r. match_ordering r ((k, v) ∷ e ∷ insert_entry nat_cmp es k u) ((e.0, v) ∷ insert_entry nat_cmp es k u)
      (e ∷ insert_entry nat_cmp (insert_entry nat_cmp es k u) k v)) p ∙ ap (λ t. e ∷ t) ih

  pub insert_twice : (es : List (ℕ × X)) (k : ℕ) (u v : X)
      → insert_entry nat_cmp (insert_entry nat_cmp es k u) k v ≡ insert_entry nat_cmp es k v
  insert_twice [] k u v =
      ap (λ r. match_ordering r ((k, v) ∷ (k, u) ∷ []) ((k, v) ∷ []) ((k, u) ∷ (k, v) ∷ [])) (cmp_same k)
  insert_twice (e ∷ es) k u v = twice_by e es k u v (nat_cmp k e.0) refl (insert_twice es k u v)

  set_by : (e : ℕ × X) (es : List (ℕ × X)) (k : ℕ) (v w : X) (r : Ordering) → nat_cmp k e.0 ≡ r
      → IsStrictlySortedBy nat_cmp (keys_of (e ∷ es))
      → cond (is_eq r) (Some e.1) (lookup (is_at (nat_cmp k)) es) ≡ Some w
      → (lookup (is_at (nat_cmp k)) es ≡ Some w → set_value (is_at (nat_cmp k)) es v ≡ insert_entry nat_cmp es k v)
      → cond (is_eq r) ((e.0, v) ∷ es) (e ∷ set_value (is_at (nat_cmp k)) es v)
      ≡ match_ordering r ((k, v) ∷ e ∷ es) ((e.0, v) ∷ es) (e ∷ insert_entry nat_cmp es k v)
  set_by e es k v w Less p s found ih =
      let no : None ≡ Some w = sym (lookup-none (is_at (nat_cmp k)) es (none_below_head nat_cmp_total k e es s p).1)
      ∙ found in
      absurd (cc)
  set_by e es k v w Equal p s found ih = refl
  set_by e es k v w Greater p s found ih = ap (λ t. e ∷ t) (ih found)

  pub set_is_insert : (es : List (ℕ × X)) (k : ℕ) (v w : X) → IsStrictlySortedBy nat_cmp (keys_of es)
      → lookup (is_at (nat_cmp k)) es ≡ Some w → set_value (is_at (nat_cmp k)) es v ≡ insert_entry nat_cmp es k v
  set_is_insert [] k v w s found = absurd (cc)
  set_is_insert (e ∷ es) k v w s found =
      set_by e es k v w (nat_cmp k e.0) refl s found
      (λ f. set_is_insert es k v w (sorted_tail nat_cmp e.0 (keys_of es) s) f)

  -- each entry is the one that is found at its key
  pub all_found : (es : List (ℕ × X)) → IsStrictlySortedBy nat_cmp (keys_of es)
      → All (λ e. lookup (is_at (nat_cmp e.0)) es ≡ Some e.1) es
  all_found es s i d l =
      lookup_from_place (eq_by_cmp_equiv nat_cmp_total) es i (get_or es i d).0 (get_or es i d).1
      (IsDistinct-from_sorted nat_cmp (keys_of es) s) (slice_get-get_or es i d l)

  -- a sum over the values is one over the entries that looks at their values alone
  pub values_sum : (f : X → ℕ) (es : List (ℕ × X)) → sum_by f (values_of es) ≡ sum_by (λ e. f e.1) es
  values_sum f [] = refl
  values_sum f (e ∷ es) =
      omega (arith, sum_by-cons f e.1 (values_of es), sum_by-cons (λ (t : ℕ × X). f t.1) e es, values_sum f es)

  pub sum_insert : (f : X → ℕ) (es : List (ℕ × X)) (k : ℕ) (v : X) → IsStrictlySortedBy nat_cmp (keys_of es)
      → sum_by (λ e. f e.1) (insert_entry nat_cmp es k v) + weight f (lookup (is_at (nat_cmp k)) es)
      ≡ sum_by (λ e. f e.1) es + f v
  sum_insert f es k v s =
      omega (
        arith,
        sum_by-insert_entry f nat_cmp_total es k v s,
        values_sum f (insert_entry nat_cmp es k v),
        values_sum f es,
      )

-- ---- with a function of the values

module _ {X Y : Type 0} (f : X → Y) where
  found_by : (b : Bool) (x : X) (o : Option X) → cond b (Some (f x)) (option_map f o) ≡ option_map f (cond b (Some x) o)
  found_by true x o = refl
  found_by false x o = refl

  pub lookup_values : (test : ℕ → Bool) (es : List (ℕ × X))
      → lookup test (map (λ e. (e.0, f e.1)) es) ≡ option_map f (lookup test es)
  lookup_values test [] = refl
  lookup_values test (e ∷ es) =
      ap (cond (test e.0) (Some (f e.1))) (lookup_values test es) ∙ found_by (test e.0) e.1 (lookup test es)

  insert_by : (r : Ordering) (e : ℕ × X) (es : List (ℕ × X)) (k : ℕ) (v : X)
      → map (λ t. (t.0, f t.1)) (insert_entry nat_cmp es k v)
      ≡ insert_entry nat_cmp (map (λ t. (t.0, f t.1)) es) k (f v)
      → map (λ t. (t.0, f t.1)) (match_ordering r ((k, v) ∷ e ∷ es) ((e.0, v) ∷ es) (e ∷ insert_entry nat_cmp es k v))
      ≡ match_ordering r ((k, f v) ∷ (e.0, f e.1) ∷ map (λ t. (t.0, f t.1)) es)
      ((e.0, f v) ∷ map (λ t. (t.0, f t.1)) es)
      ((e.0, f e.1) ∷ insert_entry nat_cmp (map (λ t. (t.0, f t.1)) es) k (f v))
  insert_by Less e es k v ih = refl
  insert_by Equal e es k v ih = refl
  insert_by Greater e es k v ih = ap (λ t. (e.0, f e.1) ∷ t) ih

  pub insert_values : (es : List (ℕ × X)) (k : ℕ) (v : X)
      → map (λ e. (e.0, f e.1)) (insert_entry nat_cmp es k v)
      ≡ insert_entry nat_cmp (map (λ e. (e.0, f e.1)) es) k (f v)
  insert_values [] k v = refl
  insert_values (e ∷ es) k v = insert_by (nat_cmp k e.0) e es k v (insert_values es k v)

  pub keys_values : (es : List (ℕ × X)) → keys_of (map (λ e. (e.0, f e.1)) es) ≡ keys_of es
  keys_values [] = refl
  keys_values (e ∷ es) = ap (λ t. e.0 ∷ t) (keys_values es)
