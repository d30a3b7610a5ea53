-- A receiver that has opened and taken in all groups of another: its packets are those of the union.
use Rattle.std.specs.Prelude.{sum_by, map, option_map, MatchOption, filter}
use Rattle.std.proofs.Common.{◌≡◌, ◌≢◌, ℕ, ◌+◌, ◌≤◌, ◌==◌, cond, List, [], ◌∷◌, ◌++◌, length, Option, None, Some, Less}
use Rattle.std.proofs.Common.{nat_cmp, refl, sym, ap, ap₂, ◌∙◌, arith, subst, inl, inr}
use Rattle.std.specs.List.{flat_map, AllByRecursion}
use Rattle.std.specs.Map.{lookup, keys_of}
use Rattle.std.specs.BTreeMap.{is_at, insert_entry}
use Rattle.std.specs.List.Sorted.{IsStrictlySortedBy}
use Rattle.std.proofs.lemmas.Bool.{cases_eq, eq-eqb, ne_eqb}
use Rattle.std.proofs.lemmas.List.{append_assoc, append-nil, map-append}
use Rattle.std.proofs.lemmas.List.Elements.{filter-append}
use Rattle.std.proofs.lemmas.List.Sums.{sum_by-cons}
use Rattle.std.proofs.lemmas.Map.Keys.{sorted_head}
use Rattle.field_elements.specs.Field.{Coding}
use Rattle.packet_set.specs.Packets.{Packets, count_in, no_packets_of}
use Rattle.packet_receiver.specs.Arrivals.{GroupState, Order, HoldsAfter, layers_of, stripe_lengths, numbers_of}
use Rattle.packet_receiver.specs.UnionSteps.{steps_after}
use Rattle.packet_verdicts.specs.Union.{join_group, join_groups, new_numbers}
use Rattle.packet_receiver.specs.inside.Joining.{packets_of, OpensAll, JoinsOne, JoinsAll}
use Rattle.packet_verdicts.specs.laws.EntryLaws.{cmp_says_less, weight, lookup_here, lookup_other, rises_insert}
use Rattle.packet_verdicts.specs.laws.EntryLaws.{lookup_values, insert_values, keys_values}
use Rattle.packet_verdicts.specs.laws.JoinedGroups.{found, Rises, found_first, found_later, rises_later}

-- ---- what is new beside two lists of entries

-- what is new of a group beside the one is what is new beside the other
pub record SameNew (a b : List (ℕ × Packets)) (t : ℕ × Packets) : Type 0 where
  pub numbers : new_numbers (found a t.0) t.1 ≡ new_numbers (found b t.0) t.1
  pub count : weight count_in (found a t.0) ≡ weight count_in (found b t.0)

same_found : (a b : List (ℕ × Packets)) (t : ℕ × Packets) → found a t.0 ≡ found b t.0 → SameNew a b t
same_found a b t e = record { numbers = ap (λ o. new_numbers o t.1) e; count = ap (weight count_in) e }

abbrev pub pairs_by : List (ℕ × Packets) → List (ℕ × Packets) → Order
pairs_by mine theirs = flat_map (λ e. map (λ number. (e.0, number)) (new_numbers (found mine e.0) e.1)) theirs

abbrev pub steps_at : List (ℕ × Packets) → ℕ × Packets → ℕ
steps_at mine e =
    steps_after (weight count_in (found mine e.0)) (stripe_lengths (layers_of e.1))
    (length (new_numbers (found mine e.0) e.1))

abbrev pub steps_by : List (ℕ × Packets) → List (ℕ × Packets) → ℕ
steps_by mine theirs = sum_by (steps_at mine) theirs

pub same_pairs : (a b theirs : List (ℕ × Packets)) → AllByRecursion (SameNew a b) theirs
    → pairs_by a theirs ≡ pairs_by b theirs
same_pairs a b [] h = refl
same_pairs a b (t ∷ rest) h =
    ap₂ (λ (ns : List ℕ) (more : Order). map (λ number. (t.0, number)) ns ++ more) h.0.numbers (same_pairs a b rest h.1)

pub same_steps : (a b theirs : List (ℕ × Packets)) → AllByRecursion (SameNew a b) theirs
    → steps_by a theirs ≡ steps_by b theirs
same_steps a b [] h = refl
same_steps a b (t ∷ rest) h =
    let one : steps_at a t ≡ steps_at b t =
    ap₂ (λ n (ns : List ℕ). steps_after n (stripe_lengths (layers_of t.1)) (length ns)) h.0.count h.0.numbers in
    omega (arith, sum_by-cons (steps_at a) t rest, sum_by-cons (steps_at b) t rest, one, same_steps a b rest h.1)

apart_from : (mine : List (ℕ × Packets)) (k : ℕ) (v : Packets) (rest : List (ℕ × Packets))
    → AllByRecursion (λ y. nat_cmp k y ≡ Less) (keys_of rest)
    → AllByRecursion (SameNew (insert_entry nat_cmp mine k v) mine) rest
apart_from mine k v [] a = tt
apart_from mine k v (t ∷ rest) a =
    let above = cmp_says_less k t.0 a.0 in
    let apart : t.0 ≢ k = λ same. let no : ⊥ = omega (arith, above, same) in no in
    (same_found (insert_entry nat_cmp mine k v) mine t (lookup_other mine k v t.0 apart), apart_from mine k v rest a.1)

-- ---- one group more in an order

numbers_same : (group : ℕ) (ns : List ℕ) → numbers_of (map (λ number. (group, number)) ns) group ≡ ns
numbers_same group [] = refl
numbers_same group (n ∷ ns) =
    ap (λ b. map (λ (p : ℕ × ℕ). p.1) (cond b
    ((group, n) ∷ filter (λ (p : ℕ × ℕ). p.0 == group) (map (λ number. (group, number)) ns))
    (filter (λ (p : ℕ × ℕ). p.0 == group) (map (λ number. (group, number)) ns)))) (eq-eqb group group refl)
    ∙ ap (λ t. n ∷ t) (numbers_same group ns)

numbers_none : (group at : ℕ) (ns : List ℕ) → group ≢ at → numbers_of (map (λ number. (group, number)) ns) at ≡ []
numbers_none group at [] ne = refl
numbers_none group at (n ∷ ns) ne =
    ap (λ b. map (λ (p : ℕ × ℕ). p.1) (cond b
    ((group, n) ∷ filter (λ (p : ℕ × ℕ). p.0 == at) (map (λ number. (group, number)) ns))
    (filter (λ (p : ℕ × ℕ). p.0 == at) (map (λ number. (group, number)) ns)))) (ne_eqb group at ne)
    ∙ numbers_none group at ns ne

numbers_append : (a b : Order) (at : ℕ) → numbers_of (a ++ b) at ≡ numbers_of a at ++ numbers_of b at
numbers_append a b at =
    ap (map (λ (p : ℕ × ℕ). p.1)) (filter-append (λ (p : ℕ × ℕ). p.0 == at) a b)
    ∙ map-append (λ (p : ℕ × ℕ). p.1) (filter (λ (p : ℕ × ℕ). p.0 == at) a) (filter (λ (p : ℕ × ℕ). p.0 == at) b)

module _ {E : Type 0} (P : E → Type 0) (c : Coding E) where
  -- what is held of the groups stands for an order
  abbrev pub Stands : List (ℕ × GroupState E) → Order → Type 0
  Stands es order =
      (group : ℕ)
      → MatchOption (lookup (is_at (nat_cmp group)) es) (numbers_of order group ≡ [])
      (λ g. HoldsAfter P c g (numbers_of order group))

  pub packets_found : (es : List (ℕ × GroupState E)) (k : ℕ)
      → found (packets_of es) k ≡ option_map (λ (g : GroupState E). g.packets) (lookup (is_at (nat_cmp k)) es)
  packets_found es k = lookup_values (λ (g : GroupState E). g.packets) (is_at (nat_cmp k)) es

  pub rises_packets : (es : List (ℕ × GroupState E)) → Rises es → Rises (packets_of es)
  rises_packets es s = subst (IsStrictlySortedBy nat_cmp) (sym (keys_values (λ (g : GroupState E). g.packets) es)) s

  -- ---- one group is taken in

  module _ (es : List (ℕ × GroupState E)) (k : ℕ) (theirs : Packets) (before : ℕ) (mid : List (ℕ × GroupState E))
      (steps : ℕ) (j : JoinsOne P c es k theirs before mid steps) where
    mine_is : found (packets_of es) k ≡ Some j.was.packets
    mine_is = packets_found es k ∙ ap (option_map (λ (g : GroupState E). g.packets)) j.found

    packets_mid : packets_of mid ≡ insert_entry nat_cmp (packets_of es) k j.state.packets
    packets_mid = ap packets_of j.entries ∙ insert_values (λ (g : GroupState E). g.packets) es k j.state

    joined_mid : packets_of mid ≡ insert_entry nat_cmp (packets_of es) k (join_group (found (packets_of es) k) theirs)
    joined_mid =
        packets_mid
        ∙ ap (insert_entry nat_cmp (packets_of es) k) (j.filled.packets ∙ ap (λ o. join_group o theirs) (sym mine_is))

    numbers_mid : (order : Order) → Stands es order
        → Stands mid (order ++ map (λ number. (k, number)) (new_numbers (found (packets_of es) k) theirs))
    numbers_mid order s group =
        let ns = new_numbers (found (packets_of es) k) theirs in
        let more : Order = order ++ map (λ number. (k, number)) ns in
        elim (cases_eq group k) [
          | inl here ↦
              let held : HoldsAfter P c j.was (numbers_of order k) =
              subst (λ o. MatchOption o (numbers_of order k ≡ []) (λ g. HoldsAfter P c g (numbers_of order k))) j.found
              (s k) in
              let is : numbers_of more k ≡ numbers_of order k ++ new_numbers (Some j.was.packets) theirs =
              numbers_append order (map (λ number. (k, number)) ns) k
              ∙ ap (λ t. numbers_of order k ++ t) (numbers_same k ns ∙ ap (λ o. new_numbers o theirs) mine_is) in
              let now : HoldsAfter P c j.state (numbers_of more k) =
              subst (HoldsAfter P c j.state) (sym is) (j.filled.holds (numbers_of order k) held) in
              let at : lookup (is_at (nat_cmp k)) mid ≡ Some j.state =
              ap (lookup (is_at (nat_cmp k))) j.entries ∙ lookup_here es k j.state in
              subst (λ q. MatchOption (lookup (is_at (nat_cmp q)) mid) (numbers_of more q ≡ [])
              (λ g. HoldsAfter P c g (numbers_of more q))) (sym here)
              (subst (λ o. MatchOption o (numbers_of more k ≡ []) (λ g. HoldsAfter P c g (numbers_of more k)))
              (sym at) now)
          | inr ne ↦
              let apart : k ≢ group = λ e. ne (sym e) in
              let is : numbers_of more group ≡ numbers_of order group =
              numbers_append order (map (λ number. (k, number)) ns) group
              ∙ ap (λ t. numbers_of order group ++ t) (numbers_none k group ns apart)
              ∙ append-nil (numbers_of order group) in
              let at : lookup (is_at (nat_cmp group)) mid ≡ lookup (is_at (nat_cmp group)) es =
              ap (lookup (is_at (nat_cmp group))) j.entries ∙ lookup_other es k j.state group ne in
              subst (λ o. MatchOption o (numbers_of more group ≡ []) (λ g. HoldsAfter P c g (numbers_of more group)))
              (sym at)
              (subst (λ t. MatchOption (lookup (is_at (nat_cmp group)) es) (t ≡ []) (λ g. HoldsAfter P c g t)) (sym is)
              (s group))
        ]

    steps_mid : stripe_lengths (layers_of j.was.packets) ≡ stripe_lengths (layers_of theirs)
        → steps ≤ before + steps_at (packets_of es) (k, theirs)
    steps_mid same =
        let is : steps_after (count_in j.was.packets) (stripe_lengths (layers_of j.was.packets))
        (length (new_numbers (Some j.was.packets) theirs)) ≡ steps_at (packets_of es) (k, theirs) =
        ap (λ l. steps_after (count_in j.was.packets) l (length (new_numbers (Some j.was.packets) theirs))) same
        ∙ ap (λ o. steps_after (weight count_in o) (stripe_lengths (layers_of theirs)) (length (new_numbers o theirs)))
        (sym mine_is) in
        omega (arith, j.filled.cost, is)

  -- ---- all groups are taken in

  pub joins_packets : (es : List (ℕ × GroupState E)) (steps : ℕ) (theirs after : List (ℕ × GroupState E)) (more : ℕ)
      → JoinsAll P c es steps theirs after more
      → packets_of after ≡ join_groups (packets_of es) (packets_of theirs)
  unfolding JoinsAll join_groups
  joins_packets es steps [] after more j = ap packets_of j.0
  joins_packets es steps (e ∷ rest) after more j =
      joins_packets j.0 j.1 rest after more j.3
      ∙ ap (λ t. join_groups t (packets_of rest)) (joined_mid es e.0 e.1.packets steps j.0 j.1 j.2)

  apart_mid : (es : List (ℕ × GroupState E)) (e : ℕ × GroupState E) (rest : List (ℕ × GroupState E)) (v : Packets)
      → Rises (packets_of (e ∷ rest))
      → AllByRecursion (SameNew (insert_entry nat_cmp (packets_of es) e.0 v) (packets_of es)) (packets_of rest)
  apart_mid es e rest v s =
      apart_from (packets_of es) e.0 v (packets_of rest) (sorted_head nat_cmp e.0 (keys_of (packets_of rest)) s)

  rises_rest : (e : ℕ × Packets) (rest : List (ℕ × Packets)) → Rises (e ∷ rest) → Rises rest
  rises_rest e rest s = rises_later e rest s

  pub joins_order : (es : List (ℕ × GroupState E)) (steps : ℕ) (theirs after : List (ℕ × GroupState E)) (more : ℕ)
      → JoinsAll P c es steps theirs after more → Rises (packets_of theirs)
      → (order : Order) → Stands es order → Stands after (order ++ pairs_by (packets_of es) (packets_of theirs))
  unfolding JoinsAll
  joins_order es steps [] after more j s order h =
      subst (λ t. Stands t (order ++ [])) (sym j.0) (subst (Stands es) (sym (append-nil order)) h)
  joins_order es steps (e ∷ rest) after more j s order h =
      let one = j.2 in
      let first : Order = map (λ number. (e.0, number)) (new_numbers (found (packets_of es) e.0) e.1.packets) in
      let mid = numbers_mid es e.0 e.1.packets steps j.0 j.1 one order h in
      let same : pairs_by (packets_of j.0) (packets_of rest) ≡ pairs_by (packets_of es) (packets_of rest) =
      ap (λ t. pairs_by t (packets_of rest)) (packets_mid es e.0 e.1.packets steps j.0 j.1 one)
      ∙ same_pairs (insert_entry nat_cmp (packets_of es) e.0 one.state.packets) (packets_of es) (packets_of rest)
      (apart_mid es e rest one.state.packets s) in
      let all = joins_order j.0 j.1 rest after more j.3 (rises_rest (e.0, e.1.packets) (packets_of rest) s)
      (order ++ first) mid in
      subst (Stands after)
      (ap (λ t. (order ++ first) ++ t) same ∙ append_assoc order first (pairs_by (packets_of es) (packets_of rest))) all

  -- a group here has the layers of the same group there
  abbrev pub SameLayers : List (ℕ × GroupState E) → List (ℕ × GroupState E) → Type 0
  SameLayers es theirs =
      AllByRecursion (λ e. (g : GroupState E) → lookup (is_at (nat_cmp e.0)) es ≡ Some g
      → layers_of g.packets ≡ layers_of e.1.packets) theirs

  layers_mid : (es : List (ℕ × GroupState E)) (k : ℕ) (v : GroupState E) (rest : List (ℕ × GroupState E))
      → AllByRecursion (λ y. nat_cmp k y ≡ Less) (keys_of rest) → SameLayers es rest
      → SameLayers (insert_entry nat_cmp es k v) rest
  layers_mid es k v [] a h = tt
  layers_mid es k v (t ∷ rest) a h =
      let above = cmp_says_less k t.0 a.0 in
      let apart : t.0 ≢ k = λ same. let no : ⊥ = omega (arith, above, same) in no in
      (λ g is. h.0 g (sym (lookup_other es k v t.0 apart) ∙ is), layers_mid es k v rest a.1 h.1)

  pub joins_steps : (es : List (ℕ × GroupState E)) (steps : ℕ) (theirs after : List (ℕ × GroupState E)) (more : ℕ)
      → JoinsAll P c es steps theirs after more → Rises theirs → SameLayers es theirs
      → more ≤ steps + steps_by (packets_of es) (packets_of theirs)
  unfolding JoinsAll
  joins_steps es steps [] after more j s h = omega (arith, j.1)
  joins_steps es steps (e ∷ rest) after more j s h =
      let one = j.2 in
      let head = sorted_head nat_cmp e.0 (keys_of rest) s in
      let mid = layers_mid es e.0 one.state rest head h.1 in
      let tail : Rises rest = rises_later e rest s in
      let more_steps = joins_steps j.0 j.1 rest after more j.3 tail
      (subst (λ t. SameLayers t rest) (sym one.entries) mid) in
      let apart = apart_from (packets_of es) e.0 one.state.packets (packets_of rest)
      (sorted_head nat_cmp e.0 (keys_of (packets_of rest)) (rises_packets (e ∷ rest) s)) in
      let same : steps_by (packets_of j.0) (packets_of rest) ≡ steps_by (packets_of es) (packets_of rest) =
      ap (λ t. steps_by t (packets_of rest)) (packets_mid es e.0 e.1.packets steps j.0 j.1 one)
      ∙ same_steps (insert_entry nat_cmp (packets_of es) e.0 one.state.packets) (packets_of es)
      (packets_of rest) apart in
      let layers : layers_of one.was.packets ≡ layers_of e.1.packets = h.0 one.was one.found in
      let first = steps_mid es e.0 e.1.packets steps j.0 j.1 one (ap stripe_lengths layers) in
      omega (
        arith,
        more_steps,
        same,
        first,
        sum_by-cons (steps_at (packets_of es)) (e.0, e.1.packets) (packets_of rest),
      )

  -- ---- all groups are opened

  -- what stands under a group once it is opened
  abbrev pub StandsOpened : Option (GroupState E) → Option (GroupState E) → Option (GroupState E) → Type 0
  StandsOpened (Some g) theirs after = after ≡ Some g
  StandsOpened None None after = after ≡ None
  StandsOpened None (Some t) after =
      (g : GroupState E) × (after ≡ Some g) × (g.packets ≡ no_packets_of c.width t.packets.header) × HoldsAfter P c g []

  one_by : (es mid : List (ℕ × GroupState E)) (k : ℕ) (t : GroupState E) (o : Option (GroupState E))
      → lookup (is_at (nat_cmp k)) es ≡ o
      → MatchOption o ((g : GroupState E) × (mid ≡ insert_entry nat_cmp es k g)
      × (g.packets ≡ no_packets_of c.width t.packets.header) × HoldsAfter P c g []) (λ g. mid ≡ es)
      → StandsOpened o (Some t) (lookup (is_at (nat_cmp k)) mid)
  one_by es mid k t (Some g) is m = ap (lookup (is_at (nat_cmp k))) m ∙ is
  one_by es mid k t None is m = (m.0, ap (lookup (is_at (nat_cmp k))) m.1 ∙ lookup_here es k m.0, m.2, m.3)

  one_other : (es mid : List (ℕ × GroupState E)) (k : ℕ) (t : GroupState E) (q : ℕ) → q ≢ k
      → (o : Option (GroupState E)) → lookup (is_at (nat_cmp k)) es ≡ o
      → MatchOption o ((g : GroupState E) × (mid ≡ insert_entry nat_cmp es k g)
      × (g.packets ≡ no_packets_of c.width t.packets.header) × HoldsAfter P c g []) (λ g. mid ≡ es)
      → lookup (is_at (nat_cmp q)) mid ≡ lookup (is_at (nat_cmp q)) es
  one_other es mid k t q ne (Some g) is m = ap (lookup (is_at (nat_cmp q))) m
  one_other es mid k t q ne None is m = ap (lookup (is_at (nat_cmp q))) m.1 ∙ lookup_other es k m.0 q ne

  -- what was opened stays
  after_first : (o : Option (GroupState E)) (t : GroupState E) (m u after : Option (GroupState E))
      → StandsOpened o (Some t) m → StandsOpened m u after → StandsOpened o (Some t) after
  after_first (Some g) t m u after one all = subst (λ x. StandsOpened x u after) one all
  after_first None t m u after one all = (one.0, subst (λ x. StandsOpened x u after) one.1 all, one.2, one.3)

  pub opened_at : (es theirs after : List (ℕ × GroupState E)) → OpensAll P c es theirs after → (q : ℕ)
      → StandsOpened (lookup (is_at (nat_cmp q)) es) (lookup (is_at (nat_cmp q)) theirs)
      (lookup (is_at (nat_cmp q)) after)
  unfolding OpensAll
  opened_at es [] after all q =
      none_by (lookup (is_at (nat_cmp q)) es) (lookup (is_at (nat_cmp q)) after) (ap (lookup (is_at (nat_cmp q))) all)
    where
      none_by : (o a : Option (GroupState E)) → a ≡ o → StandsOpened o None a
      none_by (Some g) a e = e
      none_by None a e = e
  opened_at es (e ∷ rest) after all q =
      let mid = all.0 in
      let ih = opened_at mid rest after all.2 q in
      elim (cases_eq q e.0) [
        | inl here ↦
            let first = one_by es mid e.0 e.1 (lookup (is_at (nat_cmp e.0)) es) refl all.1 in
            let at : StandsOpened (lookup (is_at (nat_cmp e.0)) mid) (lookup (is_at (nat_cmp e.0)) rest)
            (lookup (is_at (nat_cmp e.0)) after) =
            subst (λ k. StandsOpened (lookup (is_at (nat_cmp k)) mid) (lookup (is_at (nat_cmp k)) rest)
            (lookup (is_at (nat_cmp k)) after)) here ih in
            let done = after_first (lookup (is_at (nat_cmp e.0)) es) e.1 (lookup (is_at (nat_cmp e.0)) mid)
            (lookup (is_at (nat_cmp e.0)) rest) (lookup (is_at (nat_cmp e.0)) after) first at in
            subst (λ k. StandsOpened (lookup (is_at (nat_cmp k)) es) (lookup (is_at (nat_cmp k)) (e ∷ rest))
            (lookup (is_at (nat_cmp k)) after)) (sym here)
            (subst (λ o. StandsOpened (lookup (is_at (nat_cmp e.0)) es) o (lookup (is_at (nat_cmp e.0)) after))
            (sym (found_first e rest)) done)
        | inr ne ↦
            let same = one_other es mid e.0 e.1 q ne (lookup (is_at (nat_cmp e.0)) es) refl all.1 in
            subst (λ o. StandsOpened o (lookup (is_at (nat_cmp q)) (e ∷ rest)) (lookup (is_at (nat_cmp q)) after)) same
            (subst (λ o. StandsOpened (lookup (is_at (nat_cmp q)) mid) o (lookup (is_at (nat_cmp q)) after))
            (sym (found_later e rest q ne)) ih)
      ]

  rises_one : (es mid : List (ℕ × GroupState E)) (k : ℕ) (t : GroupState E) → Rises es → (o : Option (GroupState E))
      → MatchOption o ((g : GroupState E) × (mid ≡ insert_entry nat_cmp es k g)
      × (g.packets ≡ no_packets_of c.width t.packets.header) × HoldsAfter P c g []) (λ g. mid ≡ es) → Rises mid
  rises_one es mid k t s (Some g) m = subst Rises (sym m) s
  rises_one es mid k t s None m = subst Rises (sym m.1) (rises_insert es k m.0 s)

  pub opened_rises : (es theirs after : List (ℕ × GroupState E)) → OpensAll P c es theirs after → Rises es → Rises after
  unfolding OpensAll
  opened_rises es [] after all s = subst Rises (sym all) s
  opened_rises es (e ∷ rest) after all s =
      opened_rises all.0 rest after all.2 (rises_one es all.0 e.0 e.1 s (lookup (is_at (nat_cmp e.0)) es) all.1)

  -- and stands for the same order
  stands_by : (order : Order) (group : ℕ) (o t after : Option (GroupState E)) → StandsOpened o t after
      → MatchOption o (numbers_of order group ≡ []) (λ g. HoldsAfter P c g (numbers_of order group))
      → MatchOption after (numbers_of order group ≡ []) (λ g. HoldsAfter P c g (numbers_of order group))
  stands_by order group (Some g) t after h s =
      subst (λ x. MatchOption x (numbers_of order group ≡ []) (λ g. HoldsAfter P c g (numbers_of order group)))
      (sym h) s
  stands_by order group None None after h s =
      subst (λ x. MatchOption x (numbers_of order group ≡ []) (λ g. HoldsAfter P c g (numbers_of order group)))
      (sym h) s
  stands_by order group None (Some t) after h s =
      subst (λ x. MatchOption x (numbers_of order group ≡ []) (λ g. HoldsAfter P c g (numbers_of order group)))
      (sym h.1) (subst (HoldsAfter P c h.0) (sym s) h.3)

  pub opened_stands : (es theirs after : List (ℕ × GroupState E)) → OpensAll P c es theirs after → (order : Order)
      → Stands es order → Stands after order
  opened_stands es theirs after all order s group =
      stands_by order group (lookup (is_at (nat_cmp group)) es) (lookup (is_at (nat_cmp group)) theirs)
      (lookup (is_at (nat_cmp group)) after) (opened_at es theirs after all group) (s group)
