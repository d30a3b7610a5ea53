-- The entries of the open groups after one frame more.
use Rattle.std.specs.Prelude.{option_map, MatchOption}
use Rattle.std.proofs.Common.{◌≡◌, ℕ, ◌+◌, ◌≤◌, List, [], ◌∷◌, ◌++◌, length, Option, None, Some, nat_cmp, unwrap_or}
use Rattle.std.proofs.Common.{refl, sym, ap, ◌∙◌, subst}
use Rattle.std.specs.List.Sorted.{IsStrictlySortedBy}
use Rattle.std.specs.Map.{lookup, keys_of, set_value}
use Rattle.std.specs.BTreeMap.{is_at, insert_entry}
use Rattle.std.proofs.lemmas.List.{length-replicate}
use Rattle.std.proofs.lemmas.Option.{same_Some}
use Rattle.field_elements.specs.Field.{Coding}
use Rattle.packet_frame.specs.Frame.{Fields}
use Rattle.packet_set.specs.Packets.{Packets, slot_at, with_packet, count_in, no_packets_of}
use Rattle.pet_interp.specs.Progressive.{step_bound}
use Rattle.packet_verdicts.specs.KeptSet.{header_of}
use Rattle.packet_receiver.specs.Arrivals.{GroupState, HoldsAfter, stripe_lengths}
use Rattle.packet_receiver.specs.inside.Receiving.{IsReadyFor, HasGrown}
use Rattle.packet_receiver.specs.inside.Joining.{OpensOne}
use Rattle.packet_verdicts.specs.laws.EntryLaws.{lookup_here, set_is_insert, insert_twice}
use Rattle.packet_verdicts.specs.laws.KeptSetLaws.{none_in, count_none}

module _ {E : Type 0} (P : E → Type 0) (c : Coding E) (es : List (ℕ × GroupState E)) (f : Fields) where
  -- what is written of the open group
  pub record IsPut (from : List (ℕ × GroupState E)) (g : GroupState E) (after : List (ℕ × GroupState E)) : Type 0 where
    pub state : GroupState E
    pub rising : IsStrictlySortedBy nat_cmp (keys_of from)
    pub entries : after ≡ set_value (is_at (nat_cmp f.group)) from state
    pub packets : state.packets ≡ with_packet g.packets f.number f.payload
    pub holds : (numbers : List ℕ) → HoldsAfter P c g numbers → HoldsAfter P c state (numbers ++ (f.number ∷ []))

  -- in an open group
  grown_open : (g : GroupState E) (after : List (ℕ × GroupState E)) → lookup (is_at (nat_cmp f.group)) es ≡ Some g
      → IsPut es g after → HasGrown P c es f after
  grown_open g after found p = record {
    state = p.state;
    entries = p.entries ∙ set_is_insert es f.group p.state g p.rising found;
    packets =
        p.packets ∙ ap (λ t. with_packet (unwrap_or (option_map (λ (s : GroupState E). s.packets) t)
        (no_packets_of c.width (header_of f))) f.number f.payload) (sym found);
    holds = λ numbers h. p.holds numbers
        (subst (λ t. MatchOption t (numbers ≡ []) (λ s. HoldsAfter P c s numbers)) found h);
  }

  -- in a group that was just opened
  grown_new : (g : GroupState E) (from after : List (ℕ × GroupState E)) → lookup (is_at (nat_cmp f.group)) es ≡ None
      → from ≡ insert_entry nat_cmp es f.group g → g.packets ≡ no_packets_of c.width (header_of f)
      → HoldsAfter P c g [] → IsPut from g after → HasGrown P c es f after
  grown_new g from after none made empty held p = record {
    state = p.state;
    entries =
        let found : lookup (is_at (nat_cmp f.group)) from ≡ Some g =
        ap (lookup (is_at (nat_cmp f.group))) made ∙ lookup_here es f.group g in
        p.entries ∙ set_is_insert from f.group p.state g p.rising found
        ∙ ap (λ t. insert_entry nat_cmp t f.group p.state) made ∙ insert_twice es f.group g p.state;
    packets =
        p.packets ∙ ap (λ t. with_packet t f.number f.payload) empty
        ∙ ap (λ t. with_packet (unwrap_or (option_map (λ (s : GroupState E). s.packets) t)
        (no_packets_of c.width (header_of f))) f.number f.payload) (sym none);
    holds =
        λ numbers h.
        let no : numbers ≡ [] = subst (λ t. MatchOption t (numbers ≡ []) (λ s. HoldsAfter P c s numbers)) none h in
        subst (λ ns. HoldsAfter P c p.state (ns ++ (f.number ∷ []))) (sym no) (p.holds [] held);
  }

  -- a group that was just opened can keep the frame
  ready_new : (g : GroupState E) (from : List (ℕ × GroupState E)) → from ≡ insert_entry nat_cmp es f.group g
      → g.packets ≡ no_packets_of c.width (header_of f) → HoldsAfter P c g [] → IsReadyFor P c from f
  ready_new g from made empty held =
      let found : lookup (is_at (nat_cmp f.group)) from ≡ Some g =
      ap (lookup (is_at (nat_cmp f.group))) made ∙ lookup_here es f.group g in
      let same : (t : GroupState E) → lookup (is_at (nat_cmp f.group)) from ≡ Some t
      → g ≡ t = λ t is. same_Some g t (sym found ∙ is) in
      record {
        header = λ t is. ap (λ (p : Packets). p.header)
            (ap (λ (s : GroupState E). s.packets) (sym (same t is)) ∙ empty);
        word = λ t is. ap (λ (p : Packets). p.word) (ap (λ (s : GroupState E). s.packets) (sym (same t is)) ∙ empty);
        absent = λ t is. ap (λ (p : Packets). slot_at p f.number)
            (ap (λ (s : GroupState E). s.packets) (sym (same t is)) ∙ empty) ∙ none_in (List ℕ) f.packets f.number;
        slots =
            λ t is.
            subst (λ (p : Packets). length p.slots ≡ p.header.table.packets)
            (sym (ap (λ (s : GroupState E). s.packets) (sym (same t is)) ∙ empty)) (length-replicate f.packets None);
        holds = λ t is. ([], subst (λ s. HoldsAfter P c s []) (same t is) held);
      }

  -- ---- in a group that was open, or was just opened

  -- what a frame that is put into an open group leaves
  abbrev pub Puts : List (ℕ × GroupState E) → List (ℕ × GroupState E) → Type 0
  Puts from after =
      (g : GroupState E) → lookup (is_at (nat_cmp f.group)) from ≡ Some g
      → (h : GroupState E) × (after ≡ set_value (is_at (nat_cmp f.group)) from h)
      × (h.packets ≡ with_packet g.packets f.number f.payload)
      × ((numbers : List ℕ) → HoldsAfter P c g numbers → HoldsAfter P c h (numbers ++ (f.number ∷ [])))

  put_of : (from after : List (ℕ × GroupState E)) (g : GroupState E) → lookup (is_at (nat_cmp f.group)) from ≡ Some g
      → IsStrictlySortedBy nat_cmp (keys_of from) → Puts from after → IsPut from g after
  put_of from after g found rising puts =
      let put = puts g found in
      record { state = put.0; rising = rising; entries = put.1; packets = put.2; holds = put.3 }

  module _ (mid : List (ℕ × GroupState E)) where
    abbrev Opens : Option (GroupState E) → Type 0
    Opens o =
        MatchOption o ((g : GroupState E) × (mid ≡ insert_entry nat_cmp es f.group g)
        × (g.packets ≡ no_packets_of c.width (header_of f)) × HoldsAfter P c g []) (λ g. mid ≡ es)

    open_by : (o : Option (GroupState E)) → lookup (is_at (nat_cmp f.group)) es ≡ o → Opens o
        → (g : GroupState E) × (lookup (is_at (nat_cmp f.group)) mid ≡ Some g)
    open_by (Some g) is m = (g, ap (lookup (is_at (nat_cmp f.group))) m ∙ is)
    open_by None is m = (m.0, ap (lookup (is_at (nat_cmp f.group))) m.1 ∙ lookup_here es f.group m.0)

    ready_by : (o : Option (GroupState E)) → Opens o → IsReadyFor P c es f → IsReadyFor P c mid f
    ready_by (Some g) m ready = subst (λ t. IsReadyFor P c t f) (sym m) ready
    ready_by None m ready = ready_new m.0 mid m.1 m.2 m.3

    grown_by : (o : Option (GroupState E)) → lookup (is_at (nat_cmp f.group)) es ≡ o → Opens o
        → (after : List (ℕ × GroupState E)) → IsStrictlySortedBy nat_cmp (keys_of mid) → Puts mid after
        → HasGrown P c es f after
    grown_by (Some g) is m after rising puts =
        grown_open g after is (put_of es after g is (subst (λ t. IsStrictlySortedBy nat_cmp (keys_of t)) m rising)
        (subst (λ t. Puts t after) m puts))
    grown_by None is m after rising puts =
        let found : lookup (is_at (nat_cmp f.group)) mid ≡ Some m.0 =
        ap (lookup (is_at (nat_cmp f.group))) m.1 ∙ lookup_here es f.group m.0 in
        grown_new m.0 mid after is m.1 m.2 m.3 (put_of mid after m.0 found rising puts)

    cost_by : (o : Option (GroupState E)) → lookup (is_at (nat_cmp f.group)) es ≡ o → Opens o → (before steps : ℕ)
        → ((g : GroupState E) → lookup (is_at (nat_cmp f.group)) mid ≡ Some g
        → steps ≤ before + step_bound (count_in g.packets) (stripe_lengths f.layers))
        → steps ≤ before
        + step_bound (unwrap_or (option_map (λ (g : GroupState E). count_in g.packets) o) 0) (stripe_lengths f.layers)
    cost_by (Some g) is m before steps cost = cost g (ap (lookup (is_at (nat_cmp f.group))) m ∙ is)
    cost_by None is m before steps cost =
        let none : count_in m.0.packets ≡ 0 = ap count_in m.2 ∙ count_none (List ℕ) f.packets in
        subst (λ n. steps ≤ before + step_bound n (stripe_lengths f.layers)) none
        (cost m.0 (ap (lookup (is_at (nat_cmp f.group))) m.1 ∙ lookup_here es f.group m.0))

    module _ (opens : OpensOne P c es f.group (header_of f) mid) where
      pub is_open : (g : GroupState E) × (lookup (is_at (nat_cmp f.group)) mid ≡ Some g)
      is_open = open_by (lookup (is_at (nat_cmp f.group)) es) refl opens

      -- it can keep the frame
      pub ready_opened : IsReadyFor P c es f → IsReadyFor P c mid f
      ready_opened ready = ready_by (lookup (is_at (nat_cmp f.group)) es) opens ready

      pub grown_opened : (after : List (ℕ × GroupState E)) → IsStrictlySortedBy nat_cmp (keys_of mid) → Puts mid after
          → HasGrown P c es f after
      grown_opened after rising puts = grown_by (lookup (is_at (nat_cmp f.group)) es) refl opens after rising puts

      pub cost_opened : (before steps : ℕ)
          → ((g : GroupState E) → lookup (is_at (nat_cmp f.group)) mid ≡ Some g
          → steps ≤ before + step_bound (count_in g.packets) (stripe_lengths f.layers))
          → steps ≤ before
          + step_bound (unwrap_or (option_map (λ (g : GroupState E). count_in g.packets)
          (lookup (is_at (nat_cmp f.group)) es)) 0) (stripe_lengths f.layers)
      cost_opened before steps cost = cost_by (lookup (is_at (nat_cmp f.group)) es) refl opens before steps cost
