-- A list of entries in rising order, by what is found in it at each number.
use Rattle.std.proofs.Common.{◌≡◌, ℕ, zero, suc, ◌+◌, ◌<◌, ◌≤◌, List, [], ◌∷◌, ◌++◌, Option, None, Some, nat_cmp, refl}
use Rattle.std.proofs.Common.{sym, ap, ◌∙◌, arith, inl, inr, is_eq, Less}
use Rattle.std.specs.Prelude.{sum_by, option_map}
use Rattle.std.specs.Option.{option_map_or}
use Rattle.std.specs.List.{flat_map, filter_map, cons_option, range_with_len, AllByRecursion}
use Rattle.std.specs.List.Sorted.{IsStrictlySortedBy}
use Rattle.std.specs.Cmp.{nat_cmp_total}
use Rattle.std.specs.BTreeMap.{is_at}
use Rattle.std.specs.Map.{lookup, keys_of, values_of}
use Rattle.std.proofs.lemmas.Bool.{cases_eq}
use Rattle.std.proofs.lemmas.Option.{none-some}
use Rattle.std.proofs.lemmas.List.Sums.{sum_by-cons}
use Rattle.std.proofs.lemmas.Map.{lookup-none}
use Rattle.std.proofs.lemmas.Map.Entries.{lookup_head, lookup_tail, none_below_head}
use Rattle.std.proofs.lemmas.Map.Keys.{sorted_head, sorted_tail}
use Rattle.packet_set.specs.Packets.{Packets}
use Rattle.packet_verdicts.specs.KeptSet.{KeptSet, open_group}
use Rattle.packet_verdicts.specs.Union.{frames_in_group, frames_in}
use Rattle.packet_verdicts.specs.laws.EntryLaws.{weight, cmp_same, cmp_apart, cmp_less, cmp_says_less}

module _ {X : Type 0} where
  -- the entry of a number, where there is one
  abbrev pub entry_at : List (ℕ × X) → ℕ → Option (ℕ × X)
  entry_at es i = option_map (λ x. (i, x)) (lookup (is_at (nat_cmp i)) es)

  found_first : (e : ℕ × X) (es : List (ℕ × X)) (i : ℕ) → i ≡ e.0 → lookup (is_at (nat_cmp i)) (e ∷ es) ≡ Some e.1
  found_first e es i same =
      lookup_head (is_at (nat_cmp i)) e es (ap (λ (k : ℕ). is_eq (nat_cmp i k)) (sym same) ∙ ap is_eq (cmp_same i))

  found_behind : (e : ℕ × X) (es : List (ℕ × X)) (i : ℕ) → (i ≡ e.0 → ⊥)
      → lookup (is_at (nat_cmp i)) (e ∷ es) ≡ lookup (is_at (nat_cmp i)) es
  found_behind e es i apart = lookup_tail (is_at (nat_cmp i)) e es (cmp_apart i e.0 apart)

  above : (low : ℕ) (es : List (ℕ × X)) → AllByRecursion (λ y. nat_cmp low y ≡ Less) (keys_of es) → (i : ℕ) (x : X)
      → lookup (is_at (nat_cmp i)) es ≡ Some x → low < i
  above low [] all i x found = absurd (none-some x found)
  above low (e ∷ es) all i x found =
      elim (cases_eq i e.0) [
        | inl same ↦ omega (arith, cmp_says_less low e.0 all.0)
        | inr apart ↦ above low es all.1 i x (sym (found_behind e es i apart) ∙ found)
      ]

  -- what is found behind the first entry has a greater number
  found_later : (e : ℕ × X) (es : List (ℕ × X)) → IsStrictlySortedBy nat_cmp (keys_of (e ∷ es)) → (i : ℕ) (x : X)
      → lookup (is_at (nat_cmp i)) es ≡ Some x → e.0 < i
  found_later e es s = above e.0 es (sorted_head nat_cmp e.0 (keys_of es) s)

  same_from : (f g : ℕ → Option (ℕ × X)) (n k : ℕ) → ((i : ℕ) → k ≤ i → f i ≡ g i)
      → filter_map f (range_with_len k n) ≡ filter_map g (range_with_len k n)
  same_from f g zero k same = refl
  same_from f g (suc n) k same =
      ap (λ (o : Option (ℕ × X)). cons_option o (filter_map f (range_with_len (k + 1) n))) (same k (omega arith))
      ∙ ap (cons_option (g k)) (same_from f g n (k + 1) (λ i le. same i (omega arith)))

  -- the entries of the numbers of a range that has them all, in order
  pub entries_found : (n k : ℕ) (es : List (ℕ × X)) → IsStrictlySortedBy nat_cmp (keys_of es)
      → ((i : ℕ) (x : X) → lookup (is_at (nat_cmp i)) es ≡ Some x → (k ≤ i) × (i < k + n))
      → filter_map (entry_at es) (range_with_len k n) ≡ es
  entries_found zero k [] s within = refl
  entries_found zero k (e ∷ es) s within =
      let bounds = within e.0 e.1 (found_first e es e.0 refl) in
      absurd (omega (arith, bounds.0, bounds.1))
  entries_found (suc n) k [] s within = entries_found n (k + 1) [] s (λ i x found. absurd (none-some x found))
  entries_found (suc n) k (e ∷ es) s within =
      elim (cases_eq k e.0) [
        | inl same ↦
            let rest = filter_map (entry_at (e ∷ es)) (range_with_len (k + 1) n) in
            ap (λ (o : Option X). cons_option (option_map (λ x. (k, x)) o) rest) (found_first e es k same)
            ∙ ap (λ (i : ℕ). (i, e.1) ∷ rest) same
            ∙ ap (λ (l : List (ℕ × X)). e ∷ l) (same_from (entry_at (e ∷ es)) (entry_at es) n (k + 1)
            (λ i le. ap (option_map (λ x. (i, x))) (found_behind e es i (λ at. omega arith))))
            ∙ ap (λ (l : List (ℕ × X)). e ∷ l) (entries_found n (k + 1) es (sorted_tail nat_cmp e.0 (keys_of es) s)
            (λ i x found.
            let later = found_later e es s i x found in
            let bounds = within i x (found_behind e es i (λ at. omega arith) ∙ found) in
            (omega arith, omega (arith, bounds.1))))
        | inr apart ↦
            let bounds = within e.0 e.1 (found_first e es e.0 refl) in
            let below : k < e.0 = omega (arith, bounds.0) in
            let none : lookup (is_at (nat_cmp k)) (e ∷ es) ≡ None =
            lookup-none (is_at (nat_cmp k)) (e ∷ es) (none_below_head nat_cmp_total k e es s (cmp_less k e.0 below)) in
            ap (λ (o : Option X). cons_option (option_map (λ x. (k, x)) o)
            (filter_map (entry_at (e ∷ es)) (range_with_len (k + 1) n))) none
            ∙ entries_found n (k + 1) (e ∷ es) s
            (λ i x found.
            let inside = within i x found in
            let other : k ≡ i
            → ⊥ = λ same. none-some x (sym none ∙ ap (λ (j : ℕ). lookup (is_at (nat_cmp j)) (e ∷ es)) same ∙ found) in
            (omega (arith, inside.0, other), omega (arith, inside.1)))
      ]

  flat_by : {Y : Type 0} (f : ℕ × X → List Y) (i : ℕ) (o : Option X) (rest : List (ℕ × X))
      → flat_map f (cons_option (option_map (λ x. (i, x)) o) rest)
      ≡ option_map_or (λ x. f (i, x)) o [] ++ flat_map f rest
  flat_by f i None rest = refl
  flat_by f i (Some x) rest = refl

  flat_entries : {Y : Type 0} (f : ℕ × X → List Y) (es : List (ℕ × X)) (numbers : List ℕ)
      → flat_map f (filter_map (entry_at es) numbers)
      ≡ flat_map (λ i. option_map_or (λ x. f (i, x)) (lookup (is_at (nat_cmp i)) es) []) numbers
  flat_entries f es [] = refl
  flat_entries f es (i ∷ numbers) =
      flat_by f i (lookup (is_at (nat_cmp i)) es) (filter_map (entry_at es) numbers)
      ∙ ap (λ (l : List _). option_map_or (λ x. f (i, x)) (lookup (is_at (nat_cmp i)) es) [] ++ l)
      (flat_entries f es numbers)

  sum_by_case : (w : X → ℕ) (i : ℕ) (o : Option X) (rest : List (ℕ × X))
      → sum_by w (values_of (cons_option (option_map (λ x. (i, x)) o) rest)) ≡ weight w o + sum_by w (values_of rest)
  sum_by_case w i None rest = omega arith
  sum_by_case w i (Some x) rest = sum_by-cons w x (values_of rest)

  sum_entries : (w : X → ℕ) (es : List (ℕ × X)) (numbers : List ℕ)
      → sum_by w (values_of (filter_map (entry_at es) numbers))
      ≡ sum_by (λ i. weight w (lookup (is_at (nat_cmp i)) es)) numbers
  sum_entries w es [] = refl
  sum_entries w es (i ∷ numbers) =
      omega (
        arith,
        sum_by_case w i (lookup (is_at (nat_cmp i)) es) (filter_map (entry_at es) numbers),
        sum_entries w es numbers,
        sum_by-cons (λ (i : ℕ). weight w (lookup (is_at (nat_cmp i)) es)) i numbers,
      )

  module _ (es : List (ℕ × X)) (n : ℕ) (s : IsStrictlySortedBy nat_cmp (keys_of es))
      (below : (i : ℕ) (x : X) → lookup (is_at (nat_cmp i)) es ≡ Some x → i < n) where
    all_found_below : filter_map (entry_at es) (range_with_len 0 n) ≡ es
    all_found_below = entries_found n 0 es s (λ i x found. (omega arith, omega (arith, below i x found)))

    -- lists made of the entries, on end, are those made of what is found at each number
    pub flat_found : {Y : Type 0} (f : ℕ × X → List Y)
        → flat_map f es
        ≡ flat_map (λ i. option_map_or (λ x. f (i, x)) (lookup (is_at (nat_cmp i)) es) []) (range_with_len 0 n)
    flat_found f = ap (flat_map f) (sym all_found_below) ∙ flat_entries f es (range_with_len 0 n)

    -- and so is a sum over the values
    pub sum_found : (w : X → ℕ)
        → sum_by w (values_of es) ≡ sum_by (λ i. weight w (lookup (is_at (nat_cmp i)) es)) (range_with_len 0 n)
    sum_found w =
        ap (λ (l : List (ℕ × X)). sum_by w (values_of l)) (sym all_found_below) ∙ sum_entries w es (range_with_len 0 n)

-- the frames that are kept, where all open groups are below a number
pub frames_found : (set : KeptSet) (n : ℕ) → IsStrictlySortedBy nat_cmp (keys_of set.groups)
    → ((group : ℕ) (p : Packets) → open_group set group ≡ Some p → group < n)
    → frames_in set ≡ flat_map (λ group. option_map_or frames_in_group (open_group set group) []) (range_with_len 0 n)
frames_found set n rising below = flat_found set.groups n rising below (λ e. frames_in_group e.1)
