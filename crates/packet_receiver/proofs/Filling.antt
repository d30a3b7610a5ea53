-- An open group that takes in the packets of the same group, number by number.
use Rattle.std.specs.Prelude.{is_some, is_none, IfSome, sum_by, MatchOption}
use Rattle.std.proofs.Common.{◌≡◌, ◌≢◌, ℕ, ◌+◌, ◌<◌, ◌≤◌, ◌&&◌, cond, Bool, true, false, List, [], ◌∷◌, ◌++◌, length}
use Rattle.std.proofs.Common.{Option, None, Some, nat_cmp, set, filter, refl, sym, ap, ap₂, ◌∙◌, arith, subst, inl, inr}
use Rattle.std.specs.List.{range_with_len}
use Rattle.std.specs.Option.{option_or}
use Rattle.std.specs.Map.{lookup, set_value, keys_of}
use Rattle.std.specs.List.Sorted.{IsStrictlySortedBy}
use Rattle.std.specs.BTreeMap.{is_at}
use Rattle.std.proofs.Common.{map-id}
use Rattle.std.proofs.lemmas.Bool.{cases_eq, cases_lt}
use Rattle.std.proofs.lemmas.List.{length-set, get_or-set_same, get_or-set_other, get_or_past, length-append}
use Rattle.std.proofs.lemmas.List.{append_assoc, same_lists, get_or_default}
use Rattle.std.proofs.lemmas.List.FromFn.{map-range_with_len_more}
use Rattle.std.proofs.lemmas.List.Sums.{sum_by-append, sum_by-cons}
use Rattle.field_elements.specs.Field.{Coding}
use Rattle.stripe_plan.specs.Sizes.{IsTable}
use Rattle.packet_frame.specs.declared.frame.Header.{Header}
use Rattle.packet_set.specs.Packets.{Packets, IsPackets, slot_at, count_in, payload_length}
use Rattle.pet_interp.specs.Progressive.{step_bound}
use Rattle.packet_receiver.specs.Arrivals.{GroupState, HoldsAfter, layers_of, stripe_lengths}
use Rattle.packet_receiver.specs.UnionSteps.{steps_after}
use Rattle.packet_verdicts.specs.Union.{join_slots, is_new, new_numbers}
use Rattle.packet_receiver.specs.inside.Joining.{with_slot, with_theirs, IsFillable, IsFilledTo, HasFilled, IsReadyAt}
use Rattle.packet_receiver.specs.inside.Joining.{CanJoin, JoinsOne, JoinsAll}
use Rattle.packet_verdicts.specs.laws.EntryLaws.{lookup_here, lookup_other, set_is_insert}
use Rattle.packet_verdicts.specs.laws.LayerSetLaws.{filter_more}
use Rattle.packet_verdicts.specs.laws.JoinedGroups.{length_join, slot_join}

-- a payload that is kept has the length of the group's payloads
pub payload_long : (p : Packets) → IsPackets p → (number : ℕ) (payload : List ℕ) → Some payload ≡ slot_at p number
    → length payload ≡ payload_length p
payload_long p is number payload e =
    elim (cases_lt number (length p.slots)) [
      | inl l ↦ subst (λ o. IfSome o (λ x. length x ≡ payload_length p)) (sym e) (is.payloads number None l)
      | inr past ↦ let no : Some payload ≡ None = e ∙ get_or_past p.slots number None past in absurd (cc)
    ]

range_next : (a n : ℕ) → range_with_len a (n + 1) ≡ range_with_len a n ++ ((a + n) ∷ [])
range_next a n =
    sym (map-id (range_with_len a (n + 1))) ∙ map-range_with_len_more (λ (x : ℕ). x) a n (a + n) refl
    ∙ ap (λ t. t ++ ((a + n) ∷ [])) (map-id (range_with_len a n))

pub steps_more : (before : ℕ) (lengths : List ℕ) (many : ℕ)
    → steps_after before lengths (many + 1) ≡ steps_after before lengths many + step_bound (before + many) lengths
steps_more before lengths many =
    let f : ℕ → ℕ = λ r. step_bound r lengths in
    ap (sum_by f) (range_next before many)
    ∙ omega (
      arith,
      sum_by-append f (range_with_len before many) ((before + many) ∷ []),
      sum_by-cons f (before + many) [],
    )

-- ---- one number more

with_header : (p : Packets) (number : ℕ) (mine theirs : Option (List ℕ))
    → (with_slot p number mine theirs).header ≡ p.header
with_header p number (Some x) theirs = refl
with_header p number None None = refl
with_header p number None (Some y) = refl

with_word : (p : Packets) (number : ℕ) (mine theirs : Option (List ℕ)) → (with_slot p number mine theirs).word ≡ p.word
with_word p number (Some x) theirs = refl
with_word p number None None = refl
with_word p number None (Some y) = refl

with_long : (p : Packets) (number : ℕ) (mine theirs : Option (List ℕ))
    → length (with_slot p number mine theirs).slots ≡ length p.slots
with_long p number (Some x) theirs = refl
with_long p number None None = refl
with_long p number None (Some y) = length-set p.slots number (Some y)

with_here : (p : Packets) (number : ℕ) (mine theirs : Option (List ℕ)) → slot_at p number ≡ mine
    → number < length p.slots → slot_at (with_slot p number mine theirs) number ≡ option_or mine theirs
with_here p number (Some x) theirs e l = e
with_here p number None None e l = e
with_here p number None (Some y) e l = get_or-set_same p.slots number (Some y) None l

with_other : (p : Packets) (number i : ℕ) (mine theirs : Option (List ℕ)) → i ≢ number
    → slot_at (with_slot p number mine theirs) i ≡ slot_at p i
with_other p number i (Some x) theirs ne = refl
with_other p number i None None ne = refl
with_other p number i None (Some y) ne = get_or-set_other p.slots number i (Some y) None ne

module _ {E : Type 0} (P : E → Type 0) (c : Coding E) (g : GroupState E) (theirs : Packets)
    (can : IsFillable P c g theirs) where
  abbrev new_to : ℕ → List ℕ
  new_to n = filter (is_new (Some g.packets) theirs) (range_with_len 0 n)

  module _ (n before : ℕ) (s : GroupState E) (k : ℕ) (f : IsFilledTo P c g theirs n before s k) where
    pub fillable_to : IsFillable P c s theirs
    fillable_to = record {
      header = f.header ∙ can.header;
      word = f.word ∙ can.word;
      same_word = can.same_word;
      slots = f.long ∙ can.slots ∙ ap (λ (h : Header). h.table.packets) (sym f.header);
      table = subst (λ (h : Header). IsTable h.table.packets h.table.layers) (sym f.header) can.table;
      holds = (can.holds.0 ++ new_to n, f.holds can.holds.0 can.holds.1);
    }

    many_to : count_in s.packets ≡ count_in g.packets + length (new_to n)
    many_to =
        let now = f.holds can.holds.0 can.holds.1 in
        omega (arith, now.many, can.holds.1.many, length-append can.holds.0 (new_to n))

    same_new : is_new (Some s.packets) theirs n ≡ is_new (Some g.packets) theirs n
    same_new = ap (λ (o : Option (List ℕ)). is_some (slot_at theirs n) && is_none o) (f.above n (omega arith))

    cost_by : (b : Bool) (k' m : ℕ) → m ≡ length (new_to n)
        → k' ≤ k + cond b (step_bound (count_in s.packets) (stripe_lengths (layers_of s.packets))) 0
        → k' ≤ before
        + steps_after (count_in g.packets) (stripe_lengths (layers_of g.packets))
        (length (new_to n ++ cond b (n ∷ []) []))
    cost_by true k' m is l =
        let one : step_bound (count_in s.packets) (stripe_lengths (layers_of s.packets))
        ≡ step_bound (count_in g.packets + length (new_to n)) (stripe_lengths (layers_of g.packets)) =
        ap₂ step_bound many_to (ap (λ (h : Header). stripe_lengths h.table.layers) f.header) in
        let long : length (new_to n ++ (n ∷ [])) ≡ length (new_to n) + 1 =
        omega (arith, length-append (new_to n) (n ∷ [])) in
        let more = ap (steps_after (count_in g.packets) (stripe_lengths (layers_of g.packets))) long
        ∙ steps_more (count_in g.packets) (stripe_lengths (layers_of g.packets)) (length (new_to n)) in
        omega (arith, l, one, more, f.cost)
    cost_by false k' m is l =
        let same : length (new_to n ++ []) ≡ length (new_to n) = omega (arith, length-append {A = ℕ} (new_to n) []) in
        let more = ap (steps_after (count_in g.packets) (stripe_lengths (layers_of g.packets))) same in
        omega (arith, l, more, f.cost)

    module _ (after : GroupState E) (k' : ℕ) (l : n < g.packets.header.table.packets)
        (packets : after.packets ≡ with_theirs s.packets theirs n)
        (held : (numbers : List ℕ) → HoldsAfter P c s numbers
        → HoldsAfter P c after (numbers ++ cond (is_new (Some s.packets) theirs n) (n ∷ []) []))
        (cost : k' ≤ k
        + cond (is_new (Some s.packets) theirs n)
        (step_bound (count_in s.packets) (stripe_lengths (layers_of s.packets))) 0) where
      mine : Option (List ℕ)
      mine = slot_at s.packets n

      slot_is : (i : ℕ) → slot_at after.packets i ≡ slot_at (with_theirs s.packets theirs n) i
      slot_is i = ap (λ (p : Packets). slot_at p i) packets

      below_more : (i : ℕ) → i < n + 1 → slot_at after.packets i ≡ option_or (slot_at g.packets i) (slot_at theirs i)
      below_more i m =
          elim (cases_eq i n) [
            | inl here ↦
                let inside : n < length s.packets.slots = omega (arith, l, f.long, can.slots) in
                let at : slot_at after.packets n ≡ option_or (slot_at g.packets n) (slot_at theirs n) =
                slot_is n ∙ with_here s.packets n (slot_at s.packets n) (slot_at theirs n) refl inside
                ∙ ap (λ o. option_or o (slot_at theirs n)) (f.above n (omega arith)) in
                subst (λ j. slot_at after.packets j ≡ option_or (slot_at g.packets j) (slot_at theirs j)) (sym here) at
            | inr other ↦ slot_is i ∙ with_other s.packets n i (slot_at s.packets n) (slot_at theirs n) other
                ∙ f.below i (omega (arith, m, other))
          ]

      above_more : (i : ℕ) → n + 1 ≤ i → slot_at after.packets i ≡ slot_at g.packets i
      above_more i m =
          let other : i ≢ n = λ same. let no : ⊥ = omega (arith, same, m) in no in
          slot_is i ∙ with_other s.packets n i (slot_at s.packets n) (slot_at theirs n) other
          ∙ f.above i (omega (arith, m))

      more_is : new_to (n + 1) ≡ new_to n ++ cond (is_new (Some s.packets) theirs n) (n ∷ []) []
      more_is = filter_more (is_new (Some g.packets) theirs) n ∙ ap (λ b. new_to n ++ cond b (n ∷ []) []) (sym same_new)

      pub filled_more : IsFilledTo P c g theirs (n + 1) before after k'
      filled_more = record {
        header =
            ap (λ (p : Packets). p.header) packets ∙ with_header s.packets n (slot_at s.packets n) (slot_at theirs n)
            ∙ f.header;
        word =
            ap (λ (p : Packets). p.word) packets ∙ with_word s.packets n (slot_at s.packets n) (slot_at theirs n)
            ∙ f.word;
        long =
            ap (λ (p : Packets). length p.slots) packets
            ∙ with_long s.packets n (slot_at s.packets n) (slot_at theirs n) ∙ f.long;
        below = below_more;
        above = above_more;
        holds =
            λ numbers h.
            let one = held (numbers ++ new_to n) (f.holds numbers h) in
            subst (HoldsAfter P c after) (append_assoc numbers (new_to n)
            (cond (is_new (Some s.packets) theirs n) (n ∷ []) []) ∙ ap (λ t. numbers ++ t) (sym more_is)) one;
        cost =
            subst (λ t. k'
            ≤ before + steps_after (count_in g.packets) (stripe_lengths (layers_of g.packets)) (length t)) (sym more_is)
            (cost_by (is_new (Some s.packets) theirs n) k' (length (new_to n)) refl cost);
      }

  -- all numbers
  pub filled_end : IsPackets theirs → (n before : ℕ) (s : GroupState E) (k : ℕ) → n ≡ theirs.header.table.packets
      → IsFilledTo P c g theirs n before s k → HasFilled P c g theirs before s k
  filled_end is n before s k all f =
      let long : length theirs.slots ≡ n = is.slots ∙ sym all in
      let mine : length g.packets.slots ≡ n = can.slots ∙ ap (λ (h : Header). h.table.packets) can.header ∙ sym all in
      let slots : s.packets.slots ≡ join_slots g.packets.slots theirs.slots =
      same_lists s.packets.slots (join_slots g.packets.slots theirs.slots)
      (f.long ∙ sym (length_join g.packets.slots theirs.slots (mine ∙ sym long)))
      (λ i d l. get_or_default s.packets.slots i d None l ∙ f.below i (omega (arith, l, f.long, mine))
      ∙ sym (slot_join g.packets.slots theirs.slots i)
      ∙ get_or_default (join_slots g.packets.slots theirs.slots) i None d
      (omega (arith, l, f.long, length_join g.packets.slots theirs.slots (mine ∙ sym long)))) in
      record {
        packets =
            ap (λ w. record { header = s.packets.header; word = w; slots = s.packets.slots }) f.word
            ∙ ap₂ (λ (h : Header) t. record { header = h; word = g.packets.word; slots = t }) f.header slots;
        long = f.long;
        holds = λ numbers h. subst (λ m. HoldsAfter P c s (numbers ++ new_to m)) (sym long) (f.holds numbers h);
        cost =
            subst (λ m. k
            ≤ before + steps_after (count_in g.packets) (stripe_lengths (layers_of g.packets)) (length (new_to m)))
            (sym long) f.cost;
      }

-- ---- among the open groups

module _ {E : Type 0} (P : E → Type 0) (c : Coding E) where
  pub joined_one : (es : List (ℕ × GroupState E)) (group : ℕ) (theirs : Packets) (before : ℕ)
      (was state : GroupState E) (after : List (ℕ × GroupState E)) (steps : ℕ)
      → IsStrictlySortedBy nat_cmp (keys_of es) → lookup (is_at (nat_cmp group)) es ≡ Some was
      → HasFilled P c was theirs before state steps
      → after ≡ set_value (is_at (nat_cmp group)) es state → JoinsOne P c es group theirs before after steps
  joined_one es group theirs before was state after steps rising found filled set = record {
    was = was;
    state = state;
    found = found;
    filled = filled;
    entries = set ∙ set_is_insert es group state was rising found;
  }

  -- what a group can take in, it can still take in
  fillable_after : (was state : GroupState E) (theirs other : Packets) (before steps : ℕ)
      → HasFilled P c was theirs before state steps → IsFillable P c was other → IsFillable P c state other
  fillable_after was state theirs other before steps f can =
      let same : state.packets.header ≡ was.packets.header = ap (λ (p : Packets). p.header) f.packets in
      record {
        header = same ∙ can.header;
        word = ap (λ (p : Packets). p.word) f.packets ∙ can.word;
        same_word = can.same_word;
        slots = f.long ∙ can.slots ∙ ap (λ (h : Header). h.table.packets) (sym same);
        table = subst (λ (h : Header). IsTable h.table.packets h.table.layers) (sym same) can.table;
        holds = (can.holds.0 ++ new_numbers (Some was.packets) theirs, f.holds can.holds.0 can.holds.1);
      }

  ready_after : (es : List (ℕ × GroupState E)) (group : ℕ) (theirs : Packets) (before : ℕ)
      (after : List (ℕ × GroupState E)) (steps : ℕ) → JoinsOne P c es group theirs before after steps
      → (at : ℕ) (other : Packets) → IsReadyAt P c es at other → IsReadyAt P c after at other
  ready_after es group theirs before after steps j at other r =
      elim (cases_eq at group) [
        | inl here ↦
            let can : IsFillable P c j.was other = subst (λ o. MatchOption o ⊥ (λ g. IsFillable P c g other))
            (ap (λ k. lookup (is_at (nat_cmp k)) es) here ∙ j.found) r in
            let found : lookup (is_at (nat_cmp at)) after ≡ Some j.state =
            ap (λ k. lookup (is_at (nat_cmp k)) after) here ∙ ap (lookup (is_at (nat_cmp group))) j.entries
            ∙ lookup_here es group j.state in
            subst (λ o. MatchOption o ⊥ (λ g. IsFillable P c g other)) (sym found)
            (fillable_after j.was j.state theirs other before steps j.filled can)
        | inr ne ↦
            let found : lookup (is_at (nat_cmp at)) after ≡ lookup (is_at (nat_cmp at)) es =
            ap (lookup (is_at (nat_cmp at))) j.entries ∙ lookup_other es group j.state at ne in
            subst (λ o. MatchOption o ⊥ (λ g. IsFillable P c g other)) (sym found) r
      ]

  pub can_after : (es : List (ℕ × GroupState E)) (group : ℕ) (theirs : Packets) (before : ℕ)
      (after : List (ℕ × GroupState E)) (steps : ℕ) → JoinsOne P c es group theirs before after steps
      → (rest : List (ℕ × GroupState E)) → CanJoin P c es rest → CanJoin P c after rest
  unfolding CanJoin
  can_after es group theirs before after steps j [] can = tt
  can_after es group theirs before after steps j (e ∷ rest) can = (
    ready_after es group theirs before after steps j e.0 e.1.packets can.0,
    can_after es group theirs before after steps j rest can.1,
  )

  pub can_first : (es : List (ℕ × GroupState E)) (e : ℕ × GroupState E) (rest : List (ℕ × GroupState E))
      → CanJoin P c es (e ∷ rest) → IsReadyAt P c es e.0 e.1.packets × CanJoin P c es rest
  unfolding CanJoin
  can_first es e rest can = can

  pub joins_next : (es : List (ℕ × GroupState E)) (steps : ℕ) (e : ℕ × GroupState E)
      (rest mid : List (ℕ × GroupState E)) (some : ℕ) (after : List (ℕ × GroupState E)) (more : ℕ)
      → JoinsOne P c es e.0 e.1.packets steps mid some → JoinsAll P c mid some rest after more
      → JoinsAll P c es steps (e ∷ rest) after more
  unfolding JoinsAll
  joins_next es steps e rest mid some after more one all = (mid, some, one, all)

  pub joins_end : (es : List (ℕ × GroupState E)) (steps : ℕ) → JoinsAll P c es steps [] es steps
  unfolding JoinsAll
  joins_end es steps = (refl, refl)
