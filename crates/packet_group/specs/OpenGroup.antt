-- What is held of one open group, and the packets for which it stands, in their order. This project's own. No order is
-- stored.
use Rattle.std.specs.Prelude.{◌≡◌, ◌↔◌, ℕ, ◌<◌, ◌≤◌, List, [], length, Contains, map, IsSome, unwrap_or, slice_index_or}
use Rattle.field_elements.specs.Field.{Coding}
use Rattle.pet_poly.specs.Value.{AreDistinct}
use Rattle.pet_poly.specs.Rows.{words}
use Rattle.pet_interp.specs.Progressive.{Held, StandsFor, stripe_of, lengths_of}
use Rattle.stripe_plan.specs.Layers.{plan_stripes}
pub use Rattle.stripe_plan.specs.Layers.{stripe_lengths}
pub use Rattle.packet_set.specs.Packets.{Packets, slot_at, count_in, layers_of, no_packets_of, payload_length}
use Rattle.packet_session.specs.Payload.{stripes_in}
use Rattle.packet_session.specs.Session.{IsMessage}

-- the points of the packets of these numbers, each with the words of its payload
abbrev pub points_of : {E : Type 0} → Coding E → Packets → List ℕ → List (E × List E)
points_of c p numbers =
    map (λ i. (c.point_of i, words c.spelt c.width (length (plan_stripes (layers_of p))) (unwrap_or (slot_at p i) [])))
    numbers

-- what is held of an open group: its packets, the message as far as it is known, and the progressive state
pub record GroupState (E : Type 0) : Type 0 where
  pub packets : Packets
  pub message : List ℕ
  pub held : Held E

module _ {E : Type 0} (is_element : E → Type 0) (c : Coding E) where
  -- what is held of a group stands for the packets of these numbers, in this order, and they are all that is kept of it
  pub record HoldsAfter (g : GroupState E) (numbers : List ℕ) : Type 0 where
    pub once : AreDistinct numbers
    pub kept : (number : ℕ) → IsSome (slot_at g.packets number) ↔ Contains numbers number
    pub many : length numbers ≡ count_in g.packets
    pub lengths : lengths_of g.held ≡ stripe_lengths (layers_of g.packets)
    pub stands : StandsFor is_element c.ops g.held (points_of c g.packets numbers)
    -- the words of a stripe stand in the message from the packet on that makes them known
    pub message : IsMessage c.width (layers_of g.packets) g.message
    pub known : (j : ℕ) → j < length g.held.stripes → length (stripe_of g.held j) ≤ length numbers
        → slice_index_or (stripes_in c (layers_of g.packets) g.message) j [] ≡ stripe_of g.held j
