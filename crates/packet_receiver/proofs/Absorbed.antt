-- What a receiver is that has taken in all that another has kept.
use Rattle.std.specs.Prelude.{is_some, is_none, nat_lt, map, option_map, MatchOption}
use Rattle.std.proofs.Common.{◌≡◌, ℕ, ◌+◌, ◌<◌, ◌≤◌, ◌&&◌, filter, cond, Bool, true, false, zero, suc, List, [], ◌∷◌}
use Rattle.std.proofs.Common.{◌++◌, length, All, Option, None, Some, nat_cmp, get_or, replicate, refl, sym, ap, ap₂}
use Rattle.std.proofs.Common.{◌∙◌, arith, subst, ◌⊎◌, inl, inr}
use Rattle.std.specs.List.{flat_map, range_with_len, AllByRecursion}
use Rattle.std.specs.Option.{option_or}
use Rattle.std.specs.Map.{lookup}
use Rattle.std.specs.BTreeMap.{is_at}
use Rattle.std.specs.List.Sorted.{IsStrictlySortedBy}
use Rattle.std.proofs.lemmas.Option.{none-some, same_Some}
use Rattle.std.proofs.lemmas.List.{length-replicate}
use Rattle.std.proofs.lemmas.List.Elements.{recursion_from_All}
use Rattle.field_elements.specs.Field.{Coding}
use Rattle.stripe_plan.specs.Sizes.{IsTable}
use Rattle.packet_frame.specs.declared.frame.Header.{Header}
use Rattle.packet_set.specs.Packets.{Packets, slot_at, count_in, no_packets_of}
use Rattle.packet_verdicts.specs.KeptSet.{KeptSet, IsKeptSet, IsKeptSetBy, IsKeptGroupBy, open_group, count_kept}
use Rattle.packet_verdicts.specs.KeptSet.{cost_kept, told_by}
use Rattle.packet_receiver.specs.Arrivals.{GroupState, ReceiverState, Order, HoldsAfter, HasKept, layers_of, numbers_of}
use Rattle.packet_receiver.specs.Arrivals.{kept_set, state_of}
use Rattle.packet_receiver.specs.UnionSteps.{union_steps}
use Rattle.packet_verdicts.specs.Union.{join_slots, join_group, join_groups, is_new, new_numbers, new_pairs, union}
use Rattle.packet_verdicts.specs.Union.{absorb_fault, shown_by_union}
use Rattle.packet_verdicts.specs.Verdicts.{shown_between}
use Rattle.packet_verdicts.specs.laws.UnionSound.{union_count, added_to}
use Rattle.packet_receiver.specs.Receiving.{IsReceiver}
use Rattle.packet_receiver.specs.inside.Joining.{packets_of, OpensAll, JoinsAll, CanJoin, IsReadyAt, IsFillable}
use Rattle.packet_verdicts.specs.laws.EntryLaws.{weight, keys_values, all_found}
use Rattle.packet_verdicts.specs.laws.KeptSetLaws.{none_in, count_none}
use Rattle.packet_verdicts.specs.laws.JoinedGroups.{found, Rises, join_open, found_join, rises_join}
use Rattle.packet_verdicts.specs.laws.SameSets.{same_entries}
use Rattle.packet_verdicts.specs.laws.FitLaws.{Agrees, some_frame}
use Rattle.packet_verdicts.specs.laws.FitExactly.{fit_agrees, fit_within}
use Rattle.packet_verdicts.specs.laws.UnionKept.{IsFrom, open_from, one_header, union_sound, union_told}
use Rattle.packet_receiver.proofs.Received.{found_in}
use Rattle.packet_receiver.proofs.Joined.{SameNew, same_pairs, same_steps, packets_found, rises_packets, StandsOpened}
use Rattle.packet_receiver.proofs.Joined.{SameLayers, joins_packets, joins_order, joins_steps, opened_at, opened_rises}
use Rattle.packet_receiver.proofs.Joined.{opened_stands}

-- joined with an empty group of as many numbers, slots are as they were
join_empty : (n : ℕ) (xs : List (Option (List ℕ))) → length xs ≡ n → join_slots (replicate n None) xs ≡ xs
unfolding join_slots
join_empty zero xs e = refl
join_empty (suc n) [] e = absurd (omega arith)
join_empty (suc n) (x ∷ xs) e = ap (λ t. x ∷ t) (join_empty n xs (omega arith))

join_opened : (word : ℕ) (q : Packets) → q.word ≡ word → length q.slots ≡ q.header.table.packets
    → join_group (Some (no_packets_of word q.header)) q ≡ q
join_opened word q same long =
    ap₂ (λ w t. record { header = q.header; word = w; slots = t }) (sym same)
    (join_empty q.header.table.packets q.slots long)

and_true : (b : Bool) → (b && true) ≡ b
and_true true = refl
and_true false = refl

module _ {E : Type 0} (P : E → Type 0) (c : Coding E) where
  can_from : (es ts : List (ℕ × GroupState E)) → AllByRecursion (λ e. IsReadyAt P c es e.0 e.1.packets) ts
      → CanJoin P c es ts
  unfolding CanJoin
  can_from es [] h = tt
  can_from es (t ∷ rest) h = (h.0, can_from es rest h.1)

  layers_from : (es ts : List (ℕ × GroupState E)) → CanJoin P c es ts → SameLayers P c es ts
  unfolding CanJoin
  layers_from es [] h = tt
  layers_from es (t ∷ rest) h = (
    λ g is. let can : IsFillable P c g t.1.packets =
        subst (λ o. MatchOption o ⊥ (λ s. IsFillable P c s t.1.packets)) is h.0 in
        ap (λ (x : Header). x.table.layers) can.header,
    layers_from es rest h.1,
  )

module _ {E : Type 0} (P : E → Type 0) (c : Coding E) (two : c.width ≡ 2) (r o : ReceiverState E)
    (kept : IsKeptSet (kept_set r)) (other : IsKeptSet (kept_set o)) (agrees : Agrees (kept_set r) (kept_set o)) where
  abbrev mine : List (ℕ × Packets)
  mine = packets_of r.groups

  abbrev theirs : List (ℕ × Packets)
  theirs = packets_of o.groups

  rises_theirs : Rises o.groups
  rises_theirs =
      subst (IsStrictlySortedBy nat_cmp) (keys_values (λ (g : GroupState E). g.packets) o.groups) other.rising

  rises_mine : Rises r.groups
  rises_mine = subst (IsStrictlySortedBy nat_cmp) (keys_values (λ (g : GroupState E). g.packets) r.groups) kept.rising

  module _ (opened : List (ℕ × GroupState E)) (all : OpensAll P c r.groups o.groups opened) where
    -- the packets of an opened group
    abbrev opened_packets : Option Packets → Option Packets → Option Packets
    opened_packets (Some p) u = Some p
    opened_packets None None = None
    opened_packets None (Some q) = Some (no_packets_of c.width q.header)

    packets_by : (a b x : Option (GroupState E)) → StandsOpened P c a b x
        → option_map (λ (g : GroupState E). g.packets) x
        ≡ opened_packets (option_map (λ (g : GroupState E). g.packets) a)
        (option_map (λ (g : GroupState E). g.packets) b)
    packets_by (Some g) b x h = ap (option_map (λ (g : GroupState E). g.packets)) h
    packets_by None None x h = ap (option_map (λ (g : GroupState E). g.packets)) h
    packets_by None (Some t) x h = ap (option_map (λ (g : GroupState E). g.packets)) h.1 ∙ ap Some h.2

    packets_opened : (k : ℕ) → found (packets_of opened) k ≡ opened_packets (found mine k) (found theirs k)
    packets_opened k =
        packets_found P c opened k
        ∙ packets_by (lookup (is_at (nat_cmp k)) r.groups) (lookup (is_at (nat_cmp k)) o.groups)
        (lookup (is_at (nat_cmp k)) opened) (opened_at P c r.groups o.groups opened all k)
        ∙ ap₂ opened_packets (sym (packets_found P c r.groups k)) (sym (packets_found P c o.groups k))

    -- ---- joined with what is opened, or with what was open, the other's groups are the same

    long_theirs : (k : ℕ) (q : Packets) → found theirs k ≡ Some q → length q.slots ≡ q.header.table.packets
    long_theirs k q is = (other.groups k q is).slots

    word_theirs : (k : ℕ) (q : Packets) → found theirs k ≡ Some q → q.word ≡ c.width
    word_theirs k q is = (other.groups k q is).word_is ∙ sym two

    join_by : (k : ℕ) (a b : Option Packets) → found theirs k ≡ b → join_open (opened_packets a b) b ≡ join_open a b
    join_by k (Some p) b is = refl
    join_by k None None is = refl
    join_by k None (Some q) is = ap Some (join_opened c.width q (word_theirs k q is) (long_theirs k q is))

    same_join : join_groups (packets_of opened) theirs ≡ join_groups mine theirs
    same_join =
        let rises_opened = rises_packets P c opened (opened_rises P c r.groups o.groups opened all rises_mine) in
        same_entries (join_groups (packets_of opened) theirs) (join_groups mine theirs)
        (rises_join (packets_of opened) theirs rises_opened) (rises_join mine theirs kept.rising)
        (λ k. found_join (packets_of opened) theirs k other.rising
        ∙ ap (λ x. join_open x (found theirs k)) (packets_opened k) ∙ join_by k (found mine k) (found theirs k) refl
        ∙ sym (found_join mine theirs k other.rising))

    -- ---- what is new beside what is opened is what is new beside what was open

    new_by : (t : ℕ × Packets) (a : Option Packets) → new_numbers (opened_packets a (Some t.1)) t.1 ≡ new_numbers a t.1
    new_by t (Some p) = refl
    new_by t None = same_filter (range_with_len 0 (length t.1.slots))
      where
        one : (n : ℕ) → is_new (Some (no_packets_of c.width t.1.header)) t.1 n ≡ is_new None t.1 n
        one n =
            ap (λ (x : Option (List ℕ)). is_some (slot_at t.1 n) && is_none x)
            (none_in (List ℕ) t.1.header.table.packets n) ∙ and_true (is_some (slot_at t.1 n))

        same_filter : (xs : List ℕ)
            → filter (is_new (Some (no_packets_of c.width t.1.header)) t.1) xs ≡ filter (is_new None t.1) xs
        same_filter [] = refl
        same_filter (x ∷ xs) = ap₂ (λ b rest. cond b (x ∷ rest) rest) (one x) (same_filter xs)

    count_by_open : (t : ℕ × Packets) (a : Option Packets)
        → weight count_in (opened_packets a (Some t.1)) ≡ weight count_in a
    count_by_open t (Some p) = refl
    count_by_open t None = count_none (List ℕ) t.1.header.table.packets

    same_new : AllByRecursion (SameNew (packets_of opened) mine) theirs
    same_new =
        recursion_from_All (SameNew (packets_of opened) mine) theirs
        (λ i d l. same_at (get_or theirs i d) (all_found theirs other.rising i d l))
      where
        same_at : (t : ℕ × Packets) → found theirs t.0 ≡ Some t.1 → SameNew (packets_of opened) mine t
        same_at t is =
            let at : found (packets_of opened) t.0 ≡ opened_packets (found mine t.0) (Some t.1) =
            packets_opened t.0 ∙ ap (opened_packets (found mine t.0)) is in
            record {
              numbers = ap (λ x. new_numbers x t.1) at ∙ new_by t (found mine t.0);
              count = ap (weight count_in) at ∙ count_by_open t (found mine t.0);
            }

    -- ---- each can take in the other's packets

    table_of : (set : KeptSet) → IsKeptSet set → (k : ℕ) (p : Packets) → open_group set k ≡ Some p
        → IsTable p.header.table.packets (layers_of p)
    table_of set sound k p is =
        let g = sound.groups k p is in
        let one = some_frame p g.some in
        (g.frames one.0 one.1 one.2).table

    module _ (order : Order) (stands : HasKept P c r order) where
      ready_by : (k : ℕ) (t : GroupState E) (a x : Option (GroupState E)) → lookup (is_at (nat_cmp k)) r.groups ≡ a
          → lookup (is_at (nat_cmp k)) o.groups ≡ Some t → StandsOpened P c a (Some t) x
          → MatchOption x ⊥ (λ g. IsFillable P c g t.packets)
      ready_by k t (Some g) x is so h =
          let here : found mine k ≡ Some g.packets =
          packets_found P c r.groups k ∙ ap (option_map (λ (s : GroupState E). s.packets)) is in
          let there : found theirs k ≡ Some t.packets =
          packets_found P c o.groups k ∙ ap (option_map (λ (s : GroupState E). s.packets)) so in
          subst (λ y. MatchOption y ⊥ (λ s. IsFillable P c s t.packets)) (sym h) (record {
            header = one_header (kept_set r) (kept_set o) kept other agrees k g.packets t.packets here there;
            word = (kept.groups k g.packets here).word_is ∙ sym two;
            same_word = word_theirs k t.packets there;
            slots = (kept.groups k g.packets here).slots;
            table = table_of (kept_set r) kept k g.packets here;
            holds = (
              numbers_of order k,
              subst (λ y. MatchOption y (numbers_of order k ≡ []) (λ s. HoldsAfter P c s (numbers_of order k))) is
                  (stands k),
            );
          })
      ready_by k t None x is so h =
          let there : found theirs k ≡ Some t.packets =
          packets_found P c o.groups k ∙ ap (option_map (λ (s : GroupState E). s.packets)) so in
          let same : h.0.packets ≡ no_packets_of c.width t.packets.header = h.2 in
          subst (λ y. MatchOption y ⊥ (λ s. IsFillable P c s t.packets)) (sym h.1) (record {
            header = ap (λ (p : Packets). p.header) same;
            word = ap (λ (p : Packets). p.word) same;
            same_word = word_theirs k t.packets there;
            slots =
                subst (λ (p : Packets). length p.slots ≡ p.header.table.packets) (sym same)
                (length-replicate t.packets.header.table.packets None);
            table =
                subst (λ (p : Packets). IsTable p.header.table.packets (layers_of p)) (sym same)
                (table_of (kept_set o) other k t.packets there);
            holds = ([], h.3);
          })

      ready_at : (e : ℕ × GroupState E) → lookup (is_at (nat_cmp e.0)) o.groups ≡ Some e.1
          → IsReadyAt P c opened e.0 e.1.packets
      ready_at e is =
          ready_by e.0 e.1 (lookup (is_at (nat_cmp e.0)) r.groups) (lookup (is_at (nat_cmp e.0)) opened) refl is
          (subst (λ y. StandsOpened P c (lookup (is_at (nat_cmp e.0)) r.groups) y
          (lookup (is_at (nat_cmp e.0)) opened)) is (opened_at P c r.groups o.groups opened all e.0))

      pub can_join : CanJoin P c opened o.groups
      can_join =
          can_from P c opened o.groups (recursion_from_All (λ e. IsReadyAt P c opened e.0 e.1.packets) o.groups
          (λ i d l. ready_at (get_or o.groups i d) (all_found o.groups rises_theirs i d l)))

      -- ---- and once all have

      module _ (steps : ℕ) (final : List (ℕ × GroupState E)) (more : ℕ)
          (joins : JoinsAll P c opened steps o.groups final more) where
        abbrev joined_it : ReceiverState E
        joined_it = record { format = r.format; session = r.session; limit = r.limit; groups = final }

        pub joined_set : kept_set joined_it ≡ union (kept_set r) (kept_set o)
        joined_set =
            ap (λ t. record { session = r.session; limit = r.limit; groups = t })
            (joins_packets P c opened steps o.groups final more joins ∙ same_join)

        pub joined_order : (by : Order) → HasKept P c r by
            → HasKept P c joined_it (by ++ new_pairs (kept_set r) (kept_set o))
        joined_order by h =
            let done = joins_order P c opened steps o.groups final more joins other.rising by
            (opened_stands P c r.groups o.groups opened all by h) in
            subst (λ (t : Order). HasKept P c joined_it (by ++ t))
            (same_pairs (packets_of opened) mine theirs same_new) done

        pub joined_steps : more ≤ steps + union_steps (kept_set r) (kept_set o)
        joined_steps =
            let done = joins_steps P c opened steps o.groups final more joins rises_theirs
            (layers_from P c opened o.groups can_join) in
            omega (arith, done, same_steps (packets_of opened) mine theirs same_new)

-- the packets of an open group are at most so many
few_open : {E : Type 0} (r : ReceiverState E) (count : ℕ)
    → ((group : ℕ) (g : GroupState E) → state_of r group ≡ Some g → g.packets.header.table.packets ≤ count)
    → (group : ℕ) (p : Packets) → open_group (kept_set r) group ≡ Some p → p.header.table.packets ≤ count
few_open {E} r count few group p opened = by (state_of r group) refl
  where
    by : (o : Option (GroupState E)) → state_of r group ≡ o → p.header.table.packets ≤ count
    by None is =
        absurd (none-some p (sym (found_in r group ∙ ap (option_map (λ (t : GroupState E). t.packets)) is) ∙ opened))
    by (Some g) is =
        let same : g.packets
        ≡ p =
        same_Some g.packets p
        (sym (found_in r group ∙ ap (option_map (λ (t : GroupState E). t.packets)) is) ∙ opened) in
        subst (λ (q : Packets). q.header.table.packets ≤ count) same (few group g is)

-- all of it
module _ {E : Type 0} (P : E → Type 0) (count : ℕ) (c : Coding E) (r o : ReceiverState E) (told there : Option ℕ)
    (cost costs : ℕ) (two : c.width ≡ 2)
    (h : IsReceiver P count c r told cost) (ho : IsReceiver P count c o there costs)
    (fit : absorb_fault (kept_set r) (kept_set o) ≡ None)
    (opened : List (ℕ × GroupState E)) (all : OpensAll P c r.groups o.groups opened) where
  kept : IsKeptSet (kept_set r)
  kept = subst (λ w. IsKeptSetBy w (kept_set r)) two h.set

  other : IsKeptSet (kept_set o)
  other = subst (λ w. IsKeptSetBy w (kept_set o)) two ho.set

  agree : Agrees (kept_set r) (kept_set o)
  agree = fit_agrees (kept_set r) (kept_set o) kept other fit

  pub can_take : CanJoin P c opened o.groups
  can_take = can_join P c two r o kept other agree opened all h.stands.0 h.stands.1

  module _ (steps : ℕ) (final : List (ℕ × GroupState E)) (more : ℕ)
      (joins : JoinsAll P c opened steps o.groups final more) where
    abbrev pub taken : ReceiverState E
    taken = record { format = r.format; session = r.session; limit = r.limit; groups = final }

    pub taken_set : kept_set taken ≡ union (kept_set r) (kept_set o)
    taken_set = joined_set P c two r o kept other agree opened all h.stands.0 h.stands.1 steps final more joins

    pub taken_order : (by : Order) → HasKept P c r by → HasKept P c taken (by ++ new_pairs (kept_set r) (kept_set o))
    taken_order by k =
        joined_order P c two r o kept other agree opened all h.stands.0 h.stands.1 steps final more joins by k

    pub taken_steps : more ≤ steps + union_steps (kept_set r) (kept_set o)
    taken_steps = joined_steps P c two r o kept other agree opened all h.stands.0 h.stands.1 steps final more joins

    sound : IsKeptSet (union (kept_set r) (kept_set o))
    sound = union_sound (kept_set r) (kept_set o) kept other agree (fit_within (kept_set r) (kept_set o) kept other fit)

    few_from : (group : ℕ) (p : Packets)
        → IsFrom (kept_set r) (kept_set o) kept other agree group p (kept_set r)
        ⊎ IsFrom (kept_set r) (kept_set o) kept other agree group p (kept_set o) → p.header.table.packets ≤ count
    few_from group p (inl x) =
        subst (λ (t : Header). t.table.packets ≤ count) (sym x.header) (few_open r count h.few group x.packets x.opened)
    few_from group p (inr x) =
        subst (λ (t : Header). t.table.packets ≤ count) (sym x.header)
        (few_open o count ho.few group x.packets x.opened)

    taken_few : (group : ℕ) (g : GroupState E) → state_of taken group ≡ Some g → g.packets.header.table.packets ≤ count
    taken_few group g is =
        let here : open_group (kept_set taken) group ≡ Some g.packets =
        found_in taken group ∙ ap (option_map (λ (t : GroupState E). t.packets)) is in
        few_from group g.packets (open_from (kept_set r) (kept_set o) kept other agree group g.packets
        (ap (λ s. open_group s group) (sym taken_set) ∙ here))

    pub taken_again : (n : ℕ) → n ≡ cost_kept (union (kept_set r) (kept_set o))
        → IsReceiver P count c taken (option_or told there) n
    taken_again n is = record {
      format = h.format;
      plan = h.plan;
      word = h.word;
      points = h.points;
      few = taken_few;
      fits = h.fits;
      set =
          subst (IsKeptSetBy c.width) (sym taken_set)
          (subst (λ w. IsKeptSetBy w (union (kept_set r) (kept_set o))) (sym two) sound);
      stands = (h.stands.0 ++ new_pairs (kept_set r) (kept_set o), taken_order h.stands.0 h.stands.1);
      told_is =
          ap₂ option_or h.told_is ho.told_is ∙ sym (union_told (kept_set r) (kept_set o) kept other agree sound)
          ∙ ap told_by (sym taken_set);
      cost_is = is ∙ ap cost_kept (sym taken_set);
    }

-- ---- each open group

module _ {E : Type 0} {word : ℕ} (r : ReceiverState E) (kept : IsKeptSetBy word (kept_set r)) where
  each_found : All (λ (e : ℕ × GroupState E). state_of r e.0 ≡ Some e.1) r.groups
  each_found =
      all_found r.groups
      (subst (IsStrictlySortedBy nat_cmp) (keys_values (λ (g : GroupState E). g.packets) r.groups) kept.rising)

  kept_of : (e : ℕ × GroupState E) → state_of r e.0 ≡ Some e.1 → IsKeptGroupBy word r.session e.0 e.1.packets
  kept_of e found =
      kept.groups e.0 e.1.packets (found_in r e.0 ∙ ap (option_map (λ (g : GroupState E). g.packets)) found)

  above : (n : ℕ) → 0 < n → nat_lt 0 n ≡ true
  above n l = grind (arith, l)

  -- some packet is kept of it
  pub some_kept : All (λ (e : ℕ × GroupState E). nat_lt 0 (count_in e.1.packets) ≡ true) r.groups
  some_kept i d l = let e = get_or r.groups i d in above (count_in e.1.packets) (kept_of e (each_found i d l)).some

  -- its payloads have so many bytes for each stripe
  pub each_word : (n : ℕ) → word ≡ n → All (λ (e : ℕ × GroupState E). e.1.packets.word ≡ n) r.groups
  each_word n is i d l = (kept_of (get_or r.groups i d) (each_found i d l)).word_is ∙ is

  -- it has so many packets at most
  pub each_few : (count : ℕ)
      → ((group : ℕ) (g : GroupState E) → state_of r group ≡ Some g → g.packets.header.table.packets ≤ count)
      → All (λ (e : ℕ × GroupState E). e.1.packets.header.table.packets ≤ count) r.groups
  each_few count few i d l = few (get_or r.groups i d).0 (get_or r.groups i d).1 (each_found i d l)

-- the layers that are newly shown
abbrev shown_beside : KeptSet → KeptSet → ℕ × Packets → List (ℕ × ℕ)
shown_beside a b e =
    map (λ layer. (e.0, layer)) (shown_between (layers_of e.1) (count_kept a e.0) (count_kept (union a b) e.0))

abbrev shown_here : KeptSet → ℕ × Packets → List (ℕ × ℕ)
shown_here a e =
    map (λ layer. (e.0, layer))
    (shown_between (layers_of e.1) (count_kept a e.0) (count_kept a e.0 + length (new_numbers (open_group a e.0) e.1)))

same_shown : (a b : KeptSet) (ts : List (ℕ × Packets))
    → AllByRecursion (λ (t : ℕ × Packets). shown_here a t ≡ shown_beside a b t) ts
    → flat_map (shown_here a) ts ≡ flat_map (shown_beside a b) ts
same_shown a b [] h = refl
same_shown a b (t ∷ rest) h = ap₂ (λ (x y : List (ℕ × ℕ)). x ++ y) h.0 (same_shown a b rest h.1)

pub shown_is : (a b : KeptSet) → Rises b.groups → flat_map (shown_here a) b.groups ≡ shown_by_union a b
shown_is a b s =
    same_shown a b b.groups (recursion_from_All (λ (t : ℕ × Packets). shown_here a t ≡ shown_beside a b t) b.groups
    (λ i d l. one (get_or b.groups i d) (all_found b.groups s i d l)))
  where
    one : (t : ℕ × Packets) → open_group b t.0 ≡ Some t.1 → shown_here a t ≡ shown_beside a b t
    one t is =
        let count : count_kept (union a b) t.0 ≡ count_kept a t.0 + length (new_numbers (open_group a t.0) t.1) =
        union_count a b t.0 s ∙ ap (λ o. count_kept a t.0 + added_to (open_group a t.0) o) is in
        ap (λ n. map (λ layer. (t.0, layer)) (shown_between (layers_of t.1) (count_kept a t.0) n)) (sym count)
