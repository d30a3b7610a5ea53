-- The verdict of a frame by what is kept of its group, and what one frame more leaves of the groups.
use Rattle.std.specs.Prelude.{◌≡◌, ℕ, ◌+◌, nat_lt, if◌then◌else◌, List, [], ◌∷◌, ◌++◌, length, Option, None, Some}
use Rattle.std.specs.Prelude.{option_map, unwrap_or, MatchOption}
use Rattle.std.specs.Ordering.{nat_cmp}
use Rattle.std.specs.BTreeMap.{is_at, insert_entry}
use Rattle.std.specs.Map.{lookup}
use Rattle.field_elements.specs.Field.{Coding}
use Rattle.packet_frame.specs.Frame.{Fields}
use Rattle.packet_set.specs.Packets.{Packets, slot_at, with_packet, no_packets_of}
use Rattle.stripe_plan.specs.Sizes.{cost_by}
use Rattle.packet_verdicts.specs.declared.verdict.Verdict.{Verdict}
use Rattle.packet_verdicts.specs.declared.verdict.Verdict.TheVariants.{Full}
use Rattle.packet_verdicts.specs.KeptSet.{header_of}
use Rattle.packet_verdicts.specs.GroupVerdict.{verdict_in, shows_next}
use Rattle.packet_receiver.specs.Arrivals.{GroupState, HoldsAfter}

-- where its group is not open
abbrev pub verdict_new : ℕ → Fields → ℕ → ℕ → Verdict
verdict_new word f limit cost = if nat_lt limit (cost + cost_by word f.packets f.layers) then Full else shows_next f 0

-- by what is kept of its group
abbrev pub verdict_by : ℕ → Fields → Option Packets → ℕ → ℕ → Verdict
verdict_by word f None limit cost = verdict_new word f limit cost
verdict_by word f (Some p) limit cost = verdict_in f p

module _ {E : Type 0} (is_element : E → Type 0) (c : Coding E) where
  -- a frame can be kept next: where its group is open, it has the group's header and its number is not kept
  pub record IsReadyFor (groups : List (ℕ × GroupState E)) (f : Fields) : Type 0 where
    pub header : (g : GroupState E) → lookup (is_at (nat_cmp f.group)) groups ≡ Some g → g.packets.header ≡ header_of f
    pub word : (g : GroupState E) → lookup (is_at (nat_cmp f.group)) groups ≡ Some g → g.packets.word ≡ c.width
    pub absent : (g : GroupState E) → lookup (is_at (nat_cmp f.group)) groups ≡ Some g
        → slot_at g.packets f.number ≡ None
    pub slots : (g : GroupState E) → lookup (is_at (nat_cmp f.group)) groups ≡ Some g
        → length g.packets.slots ≡ g.packets.header.table.packets
    pub holds : (g : GroupState E) → lookup (is_at (nat_cmp f.group)) groups ≡ Some g
        → (numbers : List ℕ) × HoldsAfter is_element c g numbers

  -- the frame's group has the frame too, is opened where it was not open, and is held for one number more
  pub record HasGrown (groups : List (ℕ × GroupState E)) (f : Fields) (after : List (ℕ × GroupState E)) : Type 0 where
    pub state : GroupState E
    pub entries : after ≡ insert_entry nat_cmp groups f.group state
    pub packets : state.packets
        ≡ with_packet (unwrap_or (option_map (λ g. g.packets) (lookup (is_at (nat_cmp f.group)) groups))
        (no_packets_of c.width (header_of f))) f.number f.payload
    pub holds : (numbers : List ℕ)
        → MatchOption (lookup (is_at (nat_cmp f.group)) groups) (numbers ≡ []) (λ g. HoldsAfter is_element c g numbers)
        → HoldsAfter is_element c state (numbers ++ (f.number ∷ []))
