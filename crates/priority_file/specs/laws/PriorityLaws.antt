-- What each priority keeps, for callers: its numbers are in range, each kind has exactly one layer, and so has each
-- place
-- that is listed.
use Rattle.std.proofs.Common.{◌≡◌, ◌+◌, ◌<◌, ◌≤◌, ◌==◌, ◌&&◌, ℕ, zero, suc, not, Bool, true, false, List, [], ◌∷◌}
use Rattle.std.proofs.Common.{length, Option, Some, None, IfSome, IsTrue, slice_get, slice_index_or, position, count_by}
use Rattle.std.proofs.Common.{option_and_then, unwrap_or, nat_lt, arith, refl, ap, inl, inr}
use Rattle.std.specs.List.{All, list_all, list_any, position_or_len, range_with_len}
use Rattle.std.proofs.lemmas.Bool.{and_parts, and_right, cases_Bool, cases_eq}
use Rattle.std.proofs.lemmas.Bool.Decides.{nat_tests}
use Rattle.std.proofs.lemmas.List.Sums.{AllPass-from_list_all}
use Rattle.pet_base.specs.declared.limits.TheConstants.{MAX_PACKETS}
use Rattle.priority_file.specs.declared.kinds.TheConstants.{LAST_PLACE}
use Rattle.pet_base.specs.declared.Kind.{Kind}
use Rattle.pet_base.specs.declared.Kind.TheVariants.{Head, I, P, B, D}
use Rattle.priority_file.specs.Kinds.{has_places, place_after, place_index, has_class, has_some_class, has_kind}
use Rattle.priority_file.specs.Kinds.{has_place, all_kinds}
use Rattle.priority_file.specs.laws.OnlyOne.{position-passes, position-within, only_position, passes_at_position}
use Rattle.priority_file.specs.laws.OnlyOne.{some_passes, nothing_passes, count_by-none, position-found, position-none}
use Rattle.priority_file.specs.Priority.{Rule, Priorities, layers_with, layers_at, has_places_once, has_each_kind_once}
use Rattle.priority_file.specs.Priority.{has_no_place_twice, is_priority, is_packets, is_need, head_is_first, layer_of}
use Rattle.priority_file.specs.Priority.{layer_of_kind, lists_place, IsOnlyLayer, IsOnlyLayerWith, IsOnlyLayerAt}

each_of_some : {A : Type 0} (Fact : A → Type 0) (o : Option A) → ((x : A) → o ≡ Some x → Fact x) → IfSome o Fact
each_of_some Fact None h = tt
each_of_some Fact (Some x) h = h x refl

list_all-cons : {A : Type 0} (p : A → Bool) (x : A) (xs : List A) → list_all p (x ∷ xs) ≡ true
    → (p x ≡ true) × (list_all p xs ≡ true)
list_all-cons p x xs h = and_parts (p x) (list_all p xs) h

all_kinds_pass : (p : Kind → Bool) → list_all p all_kinds ≡ true → (k : Kind) → p k ≡ true
all_kinds_pass p h k =
    let a = list_all-cons p Head (I ∷ P ∷ B ∷ D ∷ []) h in
    let b = list_all-cons p I (P ∷ B ∷ D ∷ []) a.1 in
    let c = list_all-cons p P (B ∷ D ∷ []) b.1 in
    let d = list_all-cons p B (D ∷ []) c.1 in
    let e = list_all-cons p D [] d.1 in
    elim k as (λ k. p k ≡ true) [ Head ↦ a.0 | I ↦ b.0 | P ↦ c.0 | B ↦ d.0 | D ↦ e.0 ]

less : (i n : ℕ) → i < n → nat_lt i n ≡ true
less i n h = grind (arith, nat_tests)

is_need-range : (packets n : ℕ) → is_need packets n ≡ true → (0 < n) × (n ≤ packets)
is_need-range packets n h = (grind (arith, nat_tests), grind (arith, nat_tests))

-- what `is_priority` tests, one by one
pub record KeepsBounds (p : Priorities) : Type 0 where
  pub packets : is_packets p.packets ≡ true
  pub needs : list_all (λ r. is_need p.packets r.need) p.layers ≡ true
  pub kinds : has_each_kind_once p.layers ≡ true
  pub places : has_no_place_twice p.layers ≡ true
  pub head : head_is_first p.layers ≡ true

pub bounds_of : (p : Priorities) → is_priority p ≡ true → KeepsBounds p
bounds_of p h =
    let packets = is_packets p.packets in
    let needs = list_all (λ r. is_need p.packets r.need) p.layers in
    let kinds = has_each_kind_once p.layers in
    let places = has_no_place_twice p.layers in
    let (front, head) = and_parts (((packets && needs) && kinds) && places) (head_is_first p.layers) h in
    let (middle, no_place_twice) = and_parts ((packets && needs) && kinds) places front in
    let (numbers, each_kind) = and_parts (packets && needs) kinds middle in
    let (few, fit) = and_parts packets needs numbers in
    record { packets = few; needs = fit; kinds = each_kind; places = no_place_twice; head = head }

-- each kind is in exactly one layer
pub layers_with-one : (p : Priorities) → is_priority p ≡ true → (k : Kind) → layers_with k p.layers ≡ 1
unfolding has_each_kind_once
layers_with-one p h k =
    let one = all_kinds_pass (λ k. layers_with k p.layers == 1) (bounds_of p h).kinds k in
    grind (arith, nat_tests)

pub layer_of_kind-within : (p : Priorities) → is_priority p ≡ true → (k : Kind) → layer_of_kind p k < length p.layers
layer_of_kind-within p h k =
    position-within (λ r. has_kind r.kinds k) p.layers (omega (arith, layers_with-one p h k))

-- at most one layer lists a place
list_all-range : (p : ℕ → Bool) (a len n : ℕ) → list_all p (range_with_len a len) ≡ true → a ≤ n → n < a + len
    → p n ≡ true
list_all-range p a zero n h low high = absurd (omega arith)
list_all-range p a (suc len) n h low high =
    let (here, rest) = list_all-cons p a (range_with_len (a + 1) len) h in
    elim (cases_eq n a) [
      | inl same ↦ rw same here
      | inr other ↦ list_all-range p (a + 1) len n rest (omega arith) (omega arith)
    ]

at_most_one : (n : ℕ) → not (nat_lt 1 n) ≡ true → n ≤ 1
at_most_one n h = grind (arith, nat_tests)

place_once : (layers : List Rule) (bit n : ℕ)
    → (nat_lt 0 n && not (nat_lt LAST_PLACE n) ≡ true
    → count_by (λ (r : Rule). has_some_class r.kinds (place_after bit n)) layers ≤ 1)
    → count_by (λ (r : Rule). has_some_class r.kinds (place_after bit n)) layers ≤ 1
place_once layers bit n h =
    elim (cases_Bool (nat_lt 0 n && not (nat_lt LAST_PLACE n))) [
      | inl place ↦ h place
      | inr none ↦
          let zero_counts = count_by-none (λ (r : Rule). has_some_class r.kinds (place_after bit n)) layers
          (rw none (nothing_passes layers)) in
          omega (arith, zero_counts)
    ]

place_range : (last n : ℕ) → nat_lt 0 n && not (nat_lt last n) ≡ true → (1 ≤ n) × (n < 1 + last)
place_range last n h =
    let (low, high) = and_parts (nat_lt 0 n) (not (nat_lt last n)) h in
    (grind (arith, nat_tests), grind (arith, nat_tests))

pub layers_at-once : (p : Priorities) → is_priority p ≡ true → (k : Kind) (n : ℕ) → layers_at k n p.layers ≤ 1
unfolding has_no_place_twice
layers_at-once p h k n =
    let ls = p.layers in
    let pass = list_all-range (has_places_once ls) 1 LAST_PLACE n (bounds_of p h).places in
    let once : nat_lt 0 n && not (nat_lt LAST_PLACE n) ≡ true
    → (layers_at P n ls ≤ 1) × (layers_at B n ls ≤ 1) = λ place.
    let (low, high) = place_range LAST_PLACE n place in
    let (of_p, of_b) = and_parts (not (nat_lt 1 (layers_at P n ls))) (not (nat_lt 1 (layers_at B n ls)))
    (pass low high) in
    (at_most_one (layers_at P n ls) of_p, at_most_one (layers_at B n ls) of_b) in
    let none : count_by (λ (r : Rule). false) ls ≤ 1 =
    let zero_counts = count_by-none (λ (r : Rule). false) ls (nothing_passes ls) in
    omega (arith, zero_counts) in
    elim k as (λ k. layers_at k n ls ≤ 1) [
      | Head ↦ none
      | I ↦ none
      | P ↦ place_once ls 4 n (λ place. (once place).0)
      | B ↦ place_once ls 13 n (λ place. (once place).1)
      | D ↦ none
    ]

-- the only layer that passes a test
only_layer : (test : Rule → Bool) (layers : List Rule) → count_by test layers ≡ 1
    → IsOnlyLayer test layers (position_or_len test layers)
only_layer test layers one =
    record {
      within = position-within test layers (omega (arith, one));
      listed =
          each_of_some (λ r. IsTrue (test r)) (slice_get layers (position_or_len test layers))
          (passes_at_position test layers);
      only = λ j. each_of_some (λ r. IsTrue (test r) → j ≡ position_or_len test layers) (slice_get layers j)
          (only_position test layers one j);
    }

-- a place that a layer lists is looked for and found
placed : (layers : List Rule) (o : Option ℕ) (other : ℕ)
    → list_any (λ (r : Rule). has_some_class r.kinds o) layers ≡ true
    → unwrap_or (option_and_then (λ i. position (λ (r : Rule). has_class r.kinds i) layers) o) other
    ≡ position_or_len (λ (r : Rule). has_some_class r.kinds o) layers
placed layers None other h = absurd (cc (nothing_passes layers, h))
placed layers (Some i) other h =
    let test : Rule → Bool = λ r. has_class r.kinds i in
    rw (position-found test layers (some_passes test layers h))

unplaced : (layers : List Rule) (o : Option ℕ) (other : ℕ)
    → list_any (λ (r : Rule). has_some_class r.kinds o) layers ≡ false
    → unwrap_or (option_and_then (λ i. position (λ (r : Rule). has_class r.kinds i) layers) o) other ≡ other
unplaced layers None other h = refl
unplaced layers (Some i) other h = rw (position-none (λ (r : Rule). has_class r.kinds i) layers h)

-- where a layer lists the place, it is the layer, and the only one that lists it
pub layer_of-listed : (p : Priorities) → is_priority p ≡ true → (k : Kind) (n : ℕ) → lists_place k n p.layers ≡ true
    → IsOnlyLayerAt k n p.layers (layer_of p k n)
layer_of-listed p h k n listed =
    let test : Rule → Bool = λ r. has_place r.kinds k n in
    let some = some_passes test p.layers listed in
    let most = layers_at-once p h k n in
    rw (placed p.layers (place_index k n) (layer_of_kind p k) listed)
    (only_layer test p.layers (omega (arith, some, most)))

-- where none does, it is the only layer that has the kind
pub layer_of-is_kind : (p : Priorities) (k : Kind) (n : ℕ) → lists_place k n p.layers ≡ false
    → layer_of p k n ≡ layer_of_kind p k
layer_of-is_kind p k n unlisted = unplaced p.layers (place_index k n) (layer_of_kind p k) unlisted

pub layer_of-unlisted : (p : Priorities) → is_priority p ≡ true → (k : Kind) (n : ℕ) → lists_place k n p.layers ≡ false
    → IsOnlyLayerWith k p.layers (layer_of p k n)
layer_of-unlisted p h k n unlisted =
    rw (layer_of-is_kind p k n unlisted) (only_layer (λ r. has_kind r.kinds k) p.layers (layers_with-one p h k))

-- the layer of each piece is there
pub layer_of-within : (p : Priorities) → is_priority p ≡ true → (k : Kind) (n : ℕ) → layer_of p k n < length p.layers
layer_of-within p h k n =
    elim (cases_Bool (lists_place k n p.layers)) [
      | inl listed ↦ (layer_of-listed p h k n listed).within
      | inr unlisted ↦ (layer_of-unlisted p h k n unlisted).within
    ]

-- the place of a piece that is no P or B picture is not looked at
pub layer_of-no_places : (p : Priorities) (k : Kind) (n : ℕ) → has_places k ≡ false → layer_of p k n ≡ layer_of_kind p k
layer_of-no_places p k n =
    elim k as (λ k. has_places k ≡ false → layer_of p k n ≡ layer_of_kind p k) [
      | Head ↦ λ h. refl
      | I ↦ λ h. refl
      | P ↦ λ h. absurd (cc)
      | B ↦ λ h. absurd (cc)
      | D ↦ λ h. refl
    ]

-- and a P or B picture past the last place goes to the layer of its kind
pub layer_of-past : (p : Priorities) (k : Kind) (n : ℕ) → LAST_PLACE < n → layer_of p k n ≡ layer_of_kind p k
layer_of-past p k n past =
    let none : nat_lt 0 n && not (nat_lt LAST_PLACE n) ≡ false =
    and_right (nat_lt 0 n) (not (nat_lt LAST_PLACE n)) (ap not (less LAST_PLACE n past)) in
    elim k as (λ k. layer_of p k n ≡ layer_of_kind p k) [
      | Head ↦ refl
      | I ↦ refl
      | P ↦ rw none
      | B ↦ rw none
      | D ↦ refl
    ]

-- the number of packets is in its range
pub packets-in_range : (p : Priorities) → is_priority p ≡ true → (0 < p.packets) × (p.packets ≤ MAX_PACKETS)
packets-in_range p h =
    let bounds = (bounds_of p h).packets in
    (grind (arith, nat_tests), grind (arith, nat_tests))

-- so a search finds it
pub layer_of_kind-position : (p : Priorities) → is_priority p ≡ true → (k : Kind)
    → position (λ r. has_kind r.kinds k) p.layers ≡ Some (layer_of_kind p k)
layer_of_kind-position p h k =
    let found : nat_lt (layer_of_kind p k) (length p.layers) ≡ true =
    less (layer_of_kind p k) (length p.layers) (layer_of_kind-within p h k) in
    rw found

-- each need is one that some packets can meet
pub needs-in_range : (p : Priorities) → is_priority p ≡ true → All (λ r. (0 < r.need) × (r.need ≤ p.packets)) p.layers
needs-in_range p h =
    let pass = AllPass-from_list_all (λ r. is_need p.packets r.need) p.layers (bounds_of p h).needs in
    λ k d inside. is_need-range p.packets (slice_index_or p.layers k d).need (pass k d inside)

first_is_0 : (layers : List Rule) → head_is_first layers ≡ true
    → position_or_len (λ r. has_kind r.kinds Head) layers ≡ 0
first_is_0 [] h = absurd (cc)
first_is_0 (r ∷ rest) h = position-passes (λ r. has_kind r.kinds Head) r rest h

-- Head is in layer 0
pub layer_of-head : (p : Priorities) → is_priority p ≡ true → (n : ℕ) → layer_of p Head n ≡ 0
layer_of-head p h n = first_is_0 p.layers (bounds_of p h).head
