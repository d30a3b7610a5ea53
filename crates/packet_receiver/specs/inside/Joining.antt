-- How a receiver takes in what another has kept, step by step: the checks, the room, and the packets. This project's
-- own.
use Rattle.std.specs.Prelude.{◌≡◌, ℕ, ◌+◌, ◌<◌, ◌≤◌, Bool, not, nat_lt, if◌then◌else◌, List, [], ◌∷◌, ◌++◌, ⊤, length}
use Rattle.std.specs.Prelude.{map, filter, Option, None, Some, is_none, MatchOption}
use Rattle.std.specs.Option.{option_or}
use Rattle.std.specs.Ordering.{nat_cmp}
use Rattle.std.specs.BTreeMap.{is_at, insert_entry}
use Rattle.std.specs.Map.{lookup}
use Rattle.std.specs.List.{range_with_len, flat_map}
use Rattle.field_elements.specs.Field.{Coding}
use Rattle.stripe_plan.specs.Sizes.{IsTable}
use Rattle.packet_frame.specs.declared.frame.Header.{Header}
use Rattle.packet_set.specs.Packets.{Packets, slot_at, with_packet, count_in, no_packets_of}
use Rattle.packet_verdicts.specs.GroupClash.{first_clash_in}
use Rattle.packet_verdicts.specs.GroupLayers.{shown_by_both}
use Rattle.packet_receiver.specs.Arrivals.{GroupState, HoldsAfter, layers_of, stripe_lengths}
use Rattle.packet_receiver.specs.UnionSteps.{steps_after}
use Rattle.packet_verdicts.specs.Union.{join_group, is_new, new_numbers}
use Rattle.packet_verdicts.specs.declared.union.Absorb.{Absorb}
use Rattle.packet_verdicts.specs.declared.union.Absorb.TheVariants.{Clash}

-- the packets of groups, where each has them so
abbrev pub packets_by : {G : Type 0} → (G → Packets) → List (ℕ × G) → List (ℕ × Packets)
packets_by kept es = map (λ e. (e.0, kept e.1)) es

-- the packets of open groups
abbrev pub packets_of : {E : Type 0} → List (ℕ × GroupState E) → List (ℕ × Packets)
packets_of es = packets_by (λ g. g.packets) es

-- the packets of one of them, where it is open
abbrev pub packets_at : List (ℕ × Packets) → ℕ → Option Packets
packets_at es group = lookup (is_at (nat_cmp group)) es

-- ---- the checks

-- the first packet that clashes: of this group, or else of the later ones
abbrev pub clash_or : ℕ → Option ℕ → Option Absorb → Option Absorb
clash_or group None later = later
clash_or group (Some number) later = Some (Clash group number)

unfoldable pub clash_from : Option ℕ → List (ℕ × Packets) → List (ℕ × Packets) → Option Absorb
clash_from told mine [] = None
clash_from told mine (e ∷ rest) =
    clash_or e.0 (first_clash_in told (packets_at mine e.0) e.1) (clash_from told mine rest)

-- the other's groups that are not open here
abbrev pub new_of : List (ℕ × Packets) → List (ℕ × Packets) → List (ℕ × Packets)
new_of mine theirs = filter (λ e. is_none (packets_at mine e.0)) theirs

-- what the open groups cost with one that costs `more`, if it is not open; nothing where that passes the limit
unfoldable pub cost_beside : ℕ → ℕ → Bool → ℕ → Option ℕ
cost_beside limit cost closed more =
    if not closed then Some cost else if nat_lt limit (cost + more) then None else Some (cost + more)

-- the layers that are shown by all that is kept here or there, and not by what is kept here
abbrev pub shown_at : List (ℕ × Packets) → ℕ × Packets → List (ℕ × ℕ)
shown_at mine e = map (λ layer. (e.0, layer)) (shown_by_both (packets_at mine e.0) e.1)

abbrev pub shown_by : List (ℕ × Packets) → List (ℕ × Packets) → List (ℕ × ℕ)
shown_by mine theirs = flat_map (shown_at mine) theirs

-- ---- the room

-- the packets with that of a number, where it is kept there and not here
abbrev pub with_slot : Packets → ℕ → Option (List ℕ) → Option (List ℕ) → Packets
with_slot p number (Some kept) theirs = p
with_slot p number None None = p
with_slot p number None (Some payload) = with_packet p number payload

abbrev pub with_theirs : Packets → Packets → ℕ → Packets
with_theirs p theirs number = with_slot p number (slot_at p number) (slot_at theirs number)

module _ {E : Type 0} (is_element : E → Type 0) (c : Coding E) where
  -- a group is open, or is opened now with no packet
  abbrev pub OpensOne : List (ℕ × GroupState E) → ℕ → Header → List (ℕ × GroupState E) → Type 0
  OpensOne es group header after =
      MatchOption (lookup (is_at (nat_cmp group)) es)
      ((g : GroupState E) × (after ≡ insert_entry nat_cmp es group g) × (g.packets ≡ no_packets_of c.width header)
      × HoldsAfter is_element c g [])
      (λ g. after ≡ es)

  -- each of the other's groups is open, or is opened now
  unfoldable pub OpensAll : List (ℕ × GroupState E) → List (ℕ × GroupState E) → List (ℕ × GroupState E) → Type 0
  OpensAll es [] after = after ≡ es
  OpensAll es (e ∷ rest) after =
      (mid : List (ℕ × GroupState E)) × OpensOne es e.0 e.1.packets.header mid × OpensAll mid rest after

  -- ---- the packets

  -- an open group can take in the packets of the same group
  pub record IsFillable (g : GroupState E) (theirs : Packets) : Type 0 where
    pub header : g.packets.header ≡ theirs.header
    pub word : g.packets.word ≡ c.width
    pub same_word : theirs.word ≡ c.width
    pub slots : length g.packets.slots ≡ g.packets.header.table.packets
    pub table : IsTable g.packets.header.table.packets (layers_of g.packets)
    pub holds : (numbers : List ℕ) × HoldsAfter is_element c g numbers

  -- the group after it, and what it counted
  pub record HasFilled (g : GroupState E) (theirs : Packets) (before : ℕ) (after : GroupState E)
      (steps : ℕ) : Type 0 where
    pub packets : after.packets ≡ join_group (Some g.packets) theirs
    pub long : length after.packets.slots ≡ length g.packets.slots
    pub holds : (numbers : List ℕ) → HoldsAfter is_element c g numbers
        → HoldsAfter is_element c after (numbers ++ new_numbers (Some g.packets) theirs)
    pub cost : steps
        ≤ before + steps_after (count_in g.packets) (stripe_lengths (layers_of g.packets))
        (length (new_numbers (Some g.packets) theirs))

  -- the group with the packets of the numbers below n, and what it counted
  pub record IsFilledTo (g : GroupState E) (theirs : Packets) (n before : ℕ) (after : GroupState E)
      (steps : ℕ) : Type 0 where
    pub header : after.packets.header ≡ g.packets.header
    pub word : after.packets.word ≡ g.packets.word
    pub long : length after.packets.slots ≡ length g.packets.slots
    pub below : (i : ℕ) → i < n → slot_at after.packets i ≡ option_or (slot_at g.packets i) (slot_at theirs i)
    pub above : (i : ℕ) → n ≤ i → slot_at after.packets i ≡ slot_at g.packets i
    pub holds : (numbers : List ℕ) → HoldsAfter is_element c g numbers
        → HoldsAfter is_element c after (numbers ++ filter (is_new (Some g.packets) theirs) (range_with_len 0 n))
    pub cost : steps
        ≤ before + steps_after (count_in g.packets) (stripe_lengths (layers_of g.packets))
        (length (filter (is_new (Some g.packets) theirs) (range_with_len 0 n)))

  -- a group is open, and can take in these packets
  abbrev pub IsReadyAt : List (ℕ × GroupState E) → ℕ → Packets → Type 0
  IsReadyAt es group theirs = MatchOption (lookup (is_at (nat_cmp group)) es) ⊥ (λ g. IsFillable g theirs)

  -- each of the other's groups is open, and can take in its packets
  unfoldable pub CanJoin : List (ℕ × GroupState E) → List (ℕ × GroupState E) → Type 0
  CanJoin es [] = ⊤
  CanJoin es (e ∷ rest) = IsReadyAt es e.0 e.1.packets × CanJoin es rest

  -- an open group has taken in these packets
  pub record JoinsOne (es : List (ℕ × GroupState E)) (group : ℕ) (theirs : Packets) (before : ℕ)
      (after : List (ℕ × GroupState E)) (steps : ℕ) : Type 0 where
    pub was : GroupState E
    pub state : GroupState E
    pub found : lookup (is_at (nat_cmp group)) es ≡ Some was
    pub filled : HasFilled was theirs before state steps
    pub entries : after ≡ insert_entry nat_cmp es group state

  -- group by group the packets are taken in
  unfoldable pub JoinsAll : List (ℕ × GroupState E) → ℕ → List (ℕ × GroupState E) → List (ℕ × GroupState E) → ℕ → Type 0
  JoinsAll es steps [] after more = (after ≡ es) × (more ≡ steps)
  JoinsAll es steps (e ∷ rest) after more =
      (mid : List (ℕ × GroupState E)) × (some : ℕ) × JoinsOne es e.0 e.1.packets steps mid some
      × JoinsAll mid some rest after more
