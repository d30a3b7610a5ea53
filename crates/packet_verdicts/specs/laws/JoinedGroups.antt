-- Laws of groups that are joined, for callers: what is found in them, that they rise, and what they sum to.
use Rattle.std.proofs.Common.{◌≡◌, ◌≢◌, ℕ, ◌+◌, ◌<◌, cond, List, [], ◌∷◌, zero, suc, length, get_or, Option, None, Some}
use Rattle.std.proofs.Common.{Less, nat_cmp, sum_by, is_eq, refl, sym, ap, ap₂, ◌∙◌, arith, inl, inr}
use Rattle.std.specs.List.{AllByRecursion}
use Rattle.std.specs.Option.{option_or}
use Rattle.std.specs.Cmp.{nat_cmp_total, eq_by_cmp_equiv}
use Rattle.std.specs.BTreeMap.{is_at, insert_entry}
use Rattle.std.specs.Map.{lookup, keys_of}
use Rattle.std.specs.List.Sorted.{IsStrictlySortedBy}
use Rattle.std.proofs.lemmas.Bool.{cases_eq}
use Rattle.std.proofs.lemmas.List.Sums.{sum_by-cons}
use Rattle.std.proofs.lemmas.Map.{lookup-none}
use Rattle.std.proofs.lemmas.Map.Entries.{none_below_head, none_past_head}
use Rattle.std.proofs.lemmas.Map.Keys.{sorted_head, sorted_tail, IsDistinct-from_sorted}
use Rattle.packet_set.specs.Packets.{Packets}
use Rattle.packet_verdicts.specs.Union.{join_slots, join_group, join_groups}
use Rattle.packet_verdicts.specs.laws.EntryLaws.{cmp_same, cmp_apart, cmp_less, cmp_says_less, weight, lookup_here}
use Rattle.packet_verdicts.specs.laws.EntryLaws.{lookup_other, rises_insert, sum_insert}

-- ---- what is found in entries in rising order

-- the value of a key
abbrev pub found : {X : Type 0} → List (ℕ × X) → ℕ → Option X
found es k = lookup (is_at (nat_cmp k)) es

-- the keys rise
abbrev pub Rises : {X : Type 0} → List (ℕ × X) → Type 0
Rises es = IsStrictlySortedBy nat_cmp (keys_of es)

module _ {X : Type 0} (e : ℕ × X) (es : List (ℕ × X)) where
  pub found_first : found (e ∷ es) e.0 ≡ Some e.1
  found_first = ap (λ r. cond (is_eq r) (Some e.1) (found es e.0)) (cmp_same e.0)

  pub found_later : (k : ℕ) → k ≢ e.0 → found (e ∷ es) k ≡ found es k
  found_later k ne = ap (λ b. cond b (Some e.1) (found es k)) (cmp_apart k e.0 ne)

  pub found_below : (k : ℕ) → Rises (e ∷ es) → k < e.0 → found (e ∷ es) k ≡ None
  found_below k s l =
      lookup-none (is_at (nat_cmp k)) (e ∷ es) (none_below_head nat_cmp_total k e es s (cmp_less k e.0 l))

  pub rises_later : Rises (e ∷ es) → Rises es
  rises_later s = sorted_tail nat_cmp e.0 (keys_of es) s

  pub once_found : Rises (e ∷ es) → found es e.0 ≡ None
  once_found s =
      lookup-none (is_at (nat_cmp e.0)) es (none_past_head (eq_by_cmp_equiv nat_cmp_total) e.0 e es
      (IsDistinct-from_sorted nat_cmp (keys_of (e ∷ es)) s) (ap is_eq (cmp_same e.0)))

-- ---- the payload of a number in joined slots

or_none : {A : Type 0} (o : Option A) → o ≡ option_or o None
or_none None = refl
or_none (Some x) = refl

pub slot_join : (mine theirs : List (Option (List ℕ))) (i : ℕ)
    → get_or (join_slots mine theirs) i None ≡ option_or (get_or mine i None) (get_or theirs i None)
unfolding join_slots
slot_join [] theirs i = refl
slot_join (x ∷ more) [] i = or_none (get_or (x ∷ more) i None)
slot_join (x ∷ more) (y ∷ rest) zero = refl
slot_join (x ∷ more) (y ∷ rest) (suc i) = slot_join more rest i

-- ---- what is found in joined groups

-- the packets of a group that is open in the one or the other
abbrev pub join_open : Option Packets → Option Packets → Option Packets
join_open mine None = mine
join_open mine (Some theirs) = Some (join_group mine theirs)

join_by : (mine : List (ℕ × Packets)) (e : ℕ × Packets) (rest : List (ℕ × Packets)) (k : ℕ) → Rises (e ∷ rest)
    → found (join_groups (insert_entry nat_cmp mine e.0 (join_group (found mine e.0) e.1)) rest) k
    ≡ join_open (found (insert_entry nat_cmp mine e.0 (join_group (found mine e.0) e.1)) k) (found rest k)
    → found (join_groups (insert_entry nat_cmp mine e.0 (join_group (found mine e.0) e.1)) rest) k
    ≡ join_open (found mine k) (found (e ∷ rest) k)
join_by mine e rest k s ih =
    let one : Packets = join_group (found mine e.0) e.1 in
    elim (cases_eq k e.0) [
      | inl here ↦
          ih
          ∙ ap (λ j. join_open (found (insert_entry nat_cmp mine e.0 one) j) (found rest j)) here
          ∙ ap₂ join_open (lookup_here mine e.0 one) (once_found e rest s)
          ∙ ap (join_open (found mine e.0)) (sym (found_first e rest))
          ∙ ap (λ j. join_open (found mine j) (found (e ∷ rest) j)) (sym here)
      | inr other ↦ ih ∙ ap₂ join_open (lookup_other mine e.0 one k other) (sym (found_later e rest k other))
    ]

pub found_join : (mine theirs : List (ℕ × Packets)) (k : ℕ) → Rises theirs
    → found (join_groups mine theirs) k ≡ join_open (found mine k) (found theirs k)
unfolding join_groups
found_join mine [] k s = refl
found_join mine (e ∷ rest) k s =
    join_by mine e rest k s
    (found_join (insert_entry nat_cmp mine e.0 (join_group (found mine e.0) e.1)) rest k (rises_later e rest s))

pub rises_join : (mine theirs : List (ℕ × Packets)) → Rises mine → Rises (join_groups mine theirs)
unfolding join_groups
rises_join mine [] s = s
rises_join mine (e ∷ rest) s =
    rises_join (insert_entry nat_cmp mine e.0 (join_group (found mine e.0) e.1)) rest
    (rises_insert mine e.0 (join_group (found mine e.0) e.1) s)

-- ---- a sum over joined groups, where what is added to a group is known

module _ (f : Packets → ℕ) (more : Option Packets → Packets → ℕ)
    (law : (o : Option Packets) (q : Packets) → f (join_group o q) ≡ weight f o + more o q) where
  abbrev added : List (ℕ × Packets) → List (ℕ × Packets) → ℕ
  added mine theirs = sum_by (λ e. more (found mine e.0) e.1) theirs

  added_cons : (mine : List (ℕ × Packets)) (e : ℕ × Packets) (rest : List (ℕ × Packets))
      → added mine (e ∷ rest) ≡ more (found mine e.0) e.1 + added mine rest
  added_cons mine e rest = sum_by-cons (λ (t : ℕ × Packets). more (found mine t.0) t.1) e rest

  added_apart : (mine : List (ℕ × Packets)) (k : ℕ) (v : Packets) (rest : List (ℕ × Packets))
      → AllByRecursion (λ y. nat_cmp k y ≡ Less) (keys_of rest)
      → added (insert_entry nat_cmp mine k v) rest ≡ added mine rest
  added_apart mine k v [] a = refl
  added_apart mine k v (e ∷ rest) a =
      let above = cmp_says_less k e.0 a.0 in
      let apart : e.0 ≢ k = λ same. let no : ⊥ = omega arith in no in
      added_cons (insert_entry nat_cmp mine k v) e rest
      ∙ ap₂ (λ o n. more o e.1 + n) (lookup_other mine k v e.0 apart) (added_apart mine k v rest a.1)
      ∙ sym (added_cons mine e rest)

  pub sum_join : (mine theirs : List (ℕ × Packets)) → Rises mine → Rises theirs
      → sum_by (λ e. f e.1) (join_groups mine theirs)
      ≡ sum_by (λ e. f e.1) mine + sum_by (λ e. more (found mine e.0) e.1) theirs
  unfolding join_groups
  sum_join mine [] s t = omega arith
  sum_join mine (e ∷ rest) s t =
      let one : Packets = join_group (found mine e.0) e.1 in
      let after = insert_entry nat_cmp mine e.0 one in
      omega (
        arith,
        sum_join after rest (rises_insert mine e.0 one s) (rises_later e rest t),
        sum_insert f mine e.0 one s,
        law (found mine e.0) e.1,
        added_apart mine e.0 one rest (sorted_head nat_cmp e.0 (keys_of rest) t),
        added_cons mine e rest,
      )

-- as many slots as each of the two has
pub length_join : (xs ys : List (Option (List ℕ))) → length xs ≡ length ys → length (join_slots xs ys) ≡ length xs
unfolding join_slots
length_join [] ys e = sym e
length_join (x ∷ xs) [] e = refl
length_join (x ∷ xs) (y ∷ ys) e = omega (arith, length_join xs ys (omega arith))
