-- The sums over the open groups of a kept set, and when a set is complete.
use Rattle.std.specs.Prelude.{is_some, count_by, sum_by, nat_le, option_map, IsSome, IfSome, MatchOption, IsTrue}
use Rattle.std.specs.Prelude.{nat_eq}
use Rattle.std.proofs.Common.{◌≡◌, ◌↔◌, ℕ, ◌+◌, ◌*◌, ◌^◌, ◌<◌, ◌≤◌, eqb, cond, Bool, true, false, List, [], ◌∷◌, length}
use Rattle.std.proofs.Common.{All, Option, None, Some, nat_cmp, get_or, map, refl, sym, ap, ◌∙◌, arith, subst, inl, inr}
use Rattle.std.specs.List.{range_with_len, list_any, slice_get}
use Rattle.std.specs.Ordering.{eq_by_cmp}
use Rattle.std.specs.Cmp.{nat_eq_equiv}
use Rattle.std.specs.Map.{keys_of, values_of}
use Rattle.std.specs.BTreeMap.{is_at, insert_entry}
use Rattle.std.proofs.lemmas.Bool.{eq-eqb, cases_lt}
use Rattle.std.proofs.lemmas.List.{length-map, nil_from_length}
use Rattle.std.proofs.lemmas.List.Elements.{All-map, All-head, All-tail, All-cons}
use Rattle.std.proofs.lemmas.List.FromFn.{length-range_with_len, get_or-range_with_len}
use Rattle.std.proofs.lemmas.List.Sums.{sum_by-cons, sum_by-le, count_by-le-length}
use Rattle.std.proofs.lemmas.Map.Entries.{All-lookup}
use Rattle.std.proofs.lemmas.Map.Views.{length-le_from_below, Contains-keys_from_lookup, list_any-from_Contains}
use Rattle.std.proofs.lemmas.Map.Views.{exact_unsigned_eq, tells_apart}
use Rattle.std.proofs.lemmas.Map.Lookups.{exact_unsigned}
use Rattle.std.proofs.lemmas.Option.{same_Some}
use Rattle.std.proofs.lemmas.Map.Views.{All-keys-insert_entry}
use Rattle.std.specs.Option.{unwrap_or}
use Rattle.std.proofs.lemmas.Map.Steps.{le-length_from_below}
use Rattle.pet_base.specs.declared.limits.TheConstants.{MAX_GROUPS, MAX_PACKETS, MAX_LAYERS}
use Rattle.stripe_plan.specs.Layers.{count_of}
use Rattle.packet_set.specs.Packets.{Packets, count_in}
use Rattle.packet_verdicts.specs.KeptSet.{KeptSet, IsKeptSetBy, open_group, told_by}
use Rattle.packet_receiver.specs.Arrivals.{GroupState, ReceiverState, kept_set, layers_of}
use Rattle.packet_verdicts.specs.GroupLayers.{shown_in, is_whole, whole_in}
use Rattle.packet_receiver.specs.ShownBytes.{IsShownIn, IsComplete, groups_told}
use Rattle.packet_verdicts.specs.laws.EntryLaws.{all_found, rises_insert, sum_insert}
use Rattle.packet_verdicts.specs.laws.LayerSetLaws.{one-le}
use Rattle.packet_verdicts.specs.laws.ToldLaws.{first_some, none_open, open_tells}

-- ---- counting

count_all : {A : Type 0} (test : A → Bool) (xs : List A) → count_by test xs ≡ length xs → All (λ x. test x ≡ true) xs
count_all test [] e = λ k d l. absurd (omega arith)
count_all test (x ∷ xs) e =
    let one = sum_by-cons (λ t. cond (test t) 1 0) x xs in
    let most = count_by-le-length test xs in
    let small = one-le (test x) in
    All-cons (λ t. test t ≡ true) x xs (is_one (test x) (omega arith)) (count_all test xs (omega arith))
  where
    is_one : (b : Bool) → 1 ≤ cond b 1 0 → b ≡ true
    is_one true l = refl
    is_one false l = absurd (omega arith)

all_count : {A : Type 0} (test : A → Bool) (xs : List A) → All (λ x. test x ≡ true) xs → count_by test xs ≡ length xs
all_count test [] h = refl
all_count test (x ∷ xs) h =
    let one : Bool → ℕ = λ b. cond b 1 0 in
    omega (
      arith,
      sum_by-cons (λ t. cond (test t) 1 0) x xs,
      ap one (All-head (λ t. test t ≡ true) x xs h),
      all_count test xs (All-tail (λ t. test t ≡ true) x xs h),
    )

sum_states : {E : Type 0} (f : Packets → ℕ) (es : List (ℕ × GroupState E))
    → sum_by (λ g. f g.packets) (values_of es) ≡ sum_by (λ (e : ℕ × Packets). f e.1) (map (λ e. (e.0, e.1.packets)) es)
sum_states f [] = refl
sum_states f (e ∷ es) =
    omega (
      arith,
      sum_by-cons (λ (g : GroupState _). f g.packets) e.1 (values_of es),
      sum_by-cons (λ (t : ℕ × Packets). f t.1) (e.0, e.1.packets) (map (λ e. (e.0, e.1.packets)) es),
      sum_states f es,
    )

-- the sum by the fields is that over the kept set of the receiver as it is seen
pub sum_seen : {E : Type 0} (f : Packets → ℕ) {r v : ReceiverState E} → r ≡ v
    → sum_by (λ g. f g.packets) (values_of r.groups) ≡ sum_by (λ (e : ℕ × Packets). f e.1) (kept_set v).groups
sum_seen f {r} {v} is =
    sum_states f r.groups
    ∙ ap (λ (t : ReceiverState _). sum_by (λ (e : ℕ × Packets). f e.1) (kept_set t).groups) is

-- a sum over a list that has come as far as an item: with this one, and that it is at most the whole
pub sum_more : {X : Type 0} (f : X → ℕ) (total one whole : ℕ) (it : List X) (x : X) (rest : List X) → it ≡ x ∷ rest
    → one ≡ f x
    → total + sum_by f it ≡ whole → (total + one + sum_by f rest ≡ whole) × (total + one ≤ whole)
sum_more f total one whole it x rest is here so =
    let first = sum_by-cons f x rest in
    let same = ap (sum_by f) is in
    (omega arith, omega arith)

-- ---- the frames of an open group

-- what an open group keeps to
pub record IsLimited (n group : ℕ) (p : Packets) : Type 0 where
  pub below : group < n
  pub few : n ≤ MAX_GROUPS
  pub packets : count_in p ≤ MAX_PACKETS
  pub layers : length (layers_of p) ≤ MAX_LAYERS

module _ {word : ℕ} (set : KeptSet) (sound : IsKeptSetBy word set) (n : ℕ) (told : told_by set ≡ Some n) where
  limited : (group : ℕ) (p : Packets) → open_group set group ≡ Some p → IsLimited n group p
  limited group p opened =
      let g = sound.groups group p opened in
      let one = first_some p.slots g.some in
      let frame = g.frames one.0 one.1 one.2 in
      let same : p.header.groups ≡ n = same_Some p.header.groups n (sym (open_tells set sound group p opened) ∙ told) in
      record {
        below = omega (arith, frame.group, g.same_group, same);
        few = omega (arith, frame.few_groups, same);
        packets = omega (arith, count_by-le-length is_some p.slots, g.slots, frame.table.few_packets);
        layers = frame.table.few_layers;
      }

  pub all_limited : All (λ e. IsLimited n e.0 e.1) set.groups
  all_limited i d l =
      limited (get_or set.groups i d).0 (get_or set.groups i d).1 (all_found set.groups sound.rising i d l)

  keys_below : All (λ k. k < n) (keys_of set.groups)
  keys_below = All-map (λ k. k < n) (λ (e : ℕ × Packets). e.0) set.groups (λ i d l. (all_limited i d l).below)

  pub few_open : length set.groups ≤ n
  few_open =
      omega (
        arith,
        length-le_from_below n (keys_of set.groups) sound.rising keys_below,
        length-map set.groups (λ (e : ℕ × Packets). e.0),
      )

  pub sum_few : (f : Packets → ℕ) (most : ℕ) → ((e : ℕ × Packets) → IsLimited n e.0 e.1 → f e.1 ≤ most)
      → sum_by (λ e. f e.1) set.groups ≤ length set.groups * most
  sum_few f most each =
      sum_by-le (λ (e : ℕ × Packets). f e.1) most set.groups (λ i d l. each (get_or set.groups i d) (all_limited i d l))

  -- ---- completeness

  whole_is : (p : Packets) → (is_whole p ≡ true) ↔ ((layer : ℕ) → layer < length (layers_of p) → IsShownIn p layer)
  whole_is p =
      let test : ℕ → Bool = λ layer. nat_le (count_of (layers_of p) layer) (count_in p) in
      let size = length (layers_of p) in (
        λ whole layer l.
            let all = count_all test (range_with_len 0 size)
            (exact_unsigned_eq (shown_in p) size whole ∙ sym (length-range_with_len 0 size)) in
            let here : test (get_or (range_with_len 0 size) layer 0) ≡ true =
            all layer 0 (omega (arith, l, length-range_with_len 0 size)) in (
              l,
              le_from_test (count_of (layers_of p) layer) (count_in p) (ap test (sym (at_place size layer 0 l)) ∙ here),
            ),
        λ each. eq-eqb (shown_in p) size (all_count test (range_with_len 0 size) (λ k d l.
            let i : k < size = omega (arith, l, length-range_with_len 0 size) in
            ap test (at_place size k d i) ∙ test_from_le (count_of (layers_of p) k) (count_in p) (each k i).1)
            ∙ length-range_with_len 0 size),
      )
    where
      at_place : (n i d : ℕ) → i < n → get_or (range_with_len 0 n) i d ≡ i
      at_place n i d l = let z : 0 + i ≡ i = omega arith in get_or-range_with_len 0 n i d l ∙ z

      le_from_test : (a b : ℕ) → nat_le a b ≡ true → a ≤ b
      le_from_test a b t = grind (arith, t)

      test_from_le : (a b : ℕ) → a ≤ b → nat_le a b ≡ true
      test_from_le a b l = grind (arith, l)

  ones : (es : List (ℕ × Packets)) → sum_by (λ e. 1) es ≡ length es
  ones [] = refl
  ones (e ∷ es) = omega (arith, sum_by-cons (λ (t : ℕ × Packets). 1) e es, ones es)

  -- where as many groups are open as there are, each is
  all_open : length set.groups ≡ n → (group : ℕ) → group < n → IsSome (open_group set group)
  all_open full group l = by (open_group set group) refl
    where
      by : (o : Option Packets) → open_group set group ≡ o → is_some o ≡ true
      by (Some p) is = refl
      by None is =
          let v : Packets = (get_or set.groups 0 (
            0,
            record {
              header = record { session = []; groups = 0; group = 0; table = record { packets = 0; layers = [] } };
              word = 0;
              slots = [];
            },
          )).1 in
          let more = insert_entry nat_cmp set.groups group v in
          let long = sum_insert (λ (p : Packets). 1) set.groups group v sound.rising in
          let one : Option Packets → ℕ = λ o. unwrap_or (option_map (λ (p : Packets). 1) o) 0 in
          let none = ap one is in
          let most = length-le_from_below n (keys_of more) (rises_insert set.groups group v sound.rising)
          (All-keys-insert_entry nat_cmp group v (λ k. k < n) set.groups keys_below l) in
          absurd (omega
          (arith, long, none, most, length-map more (λ (e : ℕ × Packets). e.0), ones more, ones set.groups, full, l))

  some_open : 0 < length set.groups
  some_open =
      elim (cases_lt 0 (length set.groups)) [
        | inl l ↦ l
        | inr none ↦
            let empty : set.groups ≡ [] = nil_from_length set.groups (omega arith) in
            let no : None
            ≡ Some n =
            sym (ap (λ (es : List (ℕ × Packets)). option_map (λ (e : ℕ × Packets). e.1.header.groups) (slice_get es 0))
            empty) ∙ told in
            absurd (cc)
      ]

  told_is : groups_told set ≡ n
  told_is = ap (λ o. unwrap_or o 0) told

  whole_at : All (λ e. is_whole e.1 ≡ true) set.groups → (group : ℕ) (o : Option Packets) → open_group set group ≡ o
      → is_some o ≡ true
      → MatchOption o ⊥ (λ p. (layer : ℕ) → layer < length (layers_of p) → IsShownIn p layer)
  whole_at all group None is some = absurd (cc)
  whole_at all group (Some p) is some =
      (whole_is p).0 (subst (λ o. IfSome o (λ (q : Packets). is_whole q ≡ true)) is
      (All-lookup (λ (q : Packets). is_whole q ≡ true) (is_at (nat_cmp group)) set.groups all))

  is_there : (o : Option Packets)
      → MatchOption o ⊥ (λ p. (layer : ℕ) → layer < length (layers_of p) → IsShownIn p layer) → is_some o ≡ true
  is_there None h = absurd h
  is_there (Some p) h = refl

  complete_count : (sum_by (λ e. cond (is_whole e.1) 1 0) set.groups ≡ n) ↔ IsComplete set
  complete_count =
      let test : ℕ × Packets → Bool = λ e. is_whole e.1 in (
        λ e.
            let most = count_by-le-length test set.groups in
            let full : length set.groups ≡ n = omega (arith, few_open) in
            let all = count_all test set.groups (omega (arith, full)) in
            record {
              some = some_open;
              shown = λ group l. whole_at all group (open_group set group) refl
                  (all_open full group (omega (arith, told_is)));
            },
        λ c.
            let each : All (λ e. is_whole e.1 ≡ true) set.groups =
            λ i d l.
            let e = get_or set.groups i d in
            let low : e.0 < groups_told set = omega (arith, (all_limited i d l).below, told_is) in
            (whole_is e.1).1 (subst (λ o. MatchOption o ⊥
            (λ (p : Packets). (layer : ℕ) → layer < length (layers_of p) → IsShownIn p layer))
            (all_found set.groups sound.rising i d l) (c.shown e.0 low)) in
            let there : (q : ℕ) → q < n → list_any (eqb q) (keys_of set.groups) ≡ true =
            λ q l. list_any-from_Contains nat_eq_equiv q (keys_of set.groups)
            (Contains-keys_from_lookup {eq = eq_by_cmp nat_cmp} (tells_apart exact_unsigned) q set.groups
            (is_there (open_group set q) (c.shown q (omega (arith, told_is))))) in
            omega (
              arith,
              all_count test set.groups each,
              le-length_from_below (keys_of set.groups) n there,
              length-map set.groups (λ (e : ℕ × Packets). e.0),
              few_open,
            ),
      )

whole_sum : (es : List (ℕ × Packets)) → sum_by (λ e. whole_in e.1) es ≡ sum_by (λ e. cond (is_whole e.1) 1 0) es
unfolding whole_in
whole_sum es = refl

pub complete_is : {word : ℕ} (set : KeptSet) → IsKeptSetBy word set → (n total : ℕ) → told_by set ≡ Some n
    → total ≡ sum_by (λ e. whole_in e.1) set.groups → IsTrue (nat_eq total n) ↔ IsComplete set
complete_is set sound n total told is =
    let c = complete_count set sound n told in (
      λ yes. c.0 (sym (is ∙ whole_sum set.groups) ∙ exact_unsigned_eq total n yes),
      λ whole. eq-eqb total n (is ∙ whole_sum set.groups ∙ c.1 whole),
    )

pub not_complete : (set : KeptSet) → told_by set ≡ None → IsTrue false ↔ IsComplete set
not_complete set told = (λ no. absurd (cc), λ c. absurd (omega (arith, c.some, ap length (none_open set.groups told))))

fit_by : {word : ℕ} (set : KeptSet) → IsKeptSetBy word set → (f : Packets → ℕ)
    → ((n : ℕ) (e : ℕ × Packets) → IsLimited n e.0 e.1 → f e.1 ≤ MAX_PACKETS) → (o : Option ℕ) → told_by set ≡ o
    → sum_by (λ (e : ℕ × Packets). f e.1) set.groups < 2 ^ 32
fit_by set sound f most None told =
    let e = ap (sum_by (λ (e : ℕ × Packets). f e.1)) (none_open set.groups told) in omega (arith, e)
fit_by set sound f most (Some n) told =
    let few = few_open set sound n told in
    let some = some_open set sound n told in
    let first = (all_limited set sound n told 0 (
      0,
      record {
        header = record { session = []; groups = 0; group = 0; table = record { packets = 0; layers = [] } };
        word = 0;
        slots = [];
      },
    ) some).few in
    let sum = sum_few set sound n told f MAX_PACKETS (most n) in
    omega (arith, few, first, sum)

shown_few : (n group : ℕ) (p : Packets) → IsLimited n group p → shown_in p ≤ MAX_PACKETS
shown_few n group p l =
    omega (
      arith,
      count_by-le-length (λ layer. nat_le (count_of (layers_of p) layer) (count_in p))
          (range_with_len 0 (length (layers_of p))),
      length-range_with_len 0 (length (layers_of p)),
      l.layers,
    )

whole_few : (p : Packets) → whole_in p ≤ MAX_PACKETS
unfolding whole_in
whole_few p = omega (arith, one-le (is_whole p))

-- no sum of these over the open groups is above 65,535 times 4,096
module _ {E : Type 0} {word : ℕ} (r : ReceiverState E) (sound : IsKeptSetBy word (kept_set r)) where
  sums_fit : (f : Packets → ℕ) → ((n : ℕ) (e : ℕ × Packets) → IsLimited n e.0 e.1 → f e.1 ≤ MAX_PACKETS)
      → sum_by (λ g. f g.packets) (values_of r.groups) < 2 ^ 32
  sums_fit f most =
      let fits = fit_by (kept_set r) sound f most (told_by (kept_set r)) refl in
      omega (arith, sum_states f r.groups, fits)

  pub kept_fits : sum_by (λ g. count_in g.packets) (values_of r.groups) < 2 ^ 32
  kept_fits = sums_fit count_in (λ n e l. omega (arith, l.packets))

  pub shown_fits : sum_by (λ g. shown_in g.packets) (values_of r.groups) < 2 ^ 32
  shown_fits = sums_fit shown_in (λ n e l. shown_few n e.0 e.1 l)

  pub whole_fits : sum_by (λ g. whole_in g.packets) (values_of r.groups) < 2 ^ 32
  whole_fits = sums_fit whole_in (λ n e l. whole_few e.1)
