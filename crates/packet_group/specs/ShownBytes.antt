-- The bytes of a shown layer, by the packets that were kept of its group. This project's own, on interpolation by
-- polynomials.
use Rattle.std.specs.Prelude.{◌≡◌, ℕ, ◌+◌, ◌<◌, ◌≤◌, List, [], length, take, slice_index_or, Some}
use Rattle.field_elements.specs.Field.{Coding}
use Rattle.pet_interp.specs.Progressive.{column}
use Rattle.pet_interp.specs.Points.{IsOnlyThrough}
use Rattle.stripe_plan.specs.Layers.{plan_stripes, words_before, count_of}
use Rattle.stripe_plan.specs.Counts.{Meets}
use Rattle.packet_set.specs.Packets.{Packets, slot_at}
use Rattle.packet_session.specs.Payload.{stripes_in, payload_at}
use Rattle.packet_session.specs.Session.{IsMessage, bytes_of_layer}
use Rattle.packet_group.specs.OpenGroup.{count_in, layers_of, points_of}

-- the layer of a group is shown
abbrev pub IsShownIn : Packets → ℕ → Type 0
IsShownIn p layer = (layer < length (layers_of p)) × (count_of (layers_of p) layer ≤ count_in p)

module _ {E : Type 0} (is_element : E → Type 0) (c : Coding E) where
  -- The bytes of a layer by the packets of these numbers, in their order. Of a stripe of k words that has a word of the
  -- layer, the words are the only k that have the first k packets' words for this stripe as their values.
  pub record IsShownBytes (p : Packets) (numbers : List ℕ) (layer : ℕ) (bytes : List ℕ) : Type 0 where
    pub message : List ℕ
    pub is_message : IsMessage c.width (layers_of p) message
    pub stripes : (j : ℕ) → j < length (plan_stripes (layers_of p))
        → Meets (words_before (layers_of p) layer) (words_before (layers_of p) (layer + 1))
        (slice_index_or (plan_stripes (layers_of p)) j (0, 0))
        → IsOnlyThrough is_element c.ops
        (column c.ops j (take (slice_index_or (plan_stripes (layers_of p)) j (0, 0)).1 (points_of c p numbers)))
        (slice_index_or (stripes_in c (layers_of p) message) j [])
    pub bytes_are : bytes ≡ bytes_of_layer c.width (layers_of p) message layer

-- each payload that is kept of the group is that of the message
abbrev pub Agrees : {E : Type 0} → Coding E → Packets → List ℕ → Type 0
Agrees c p message =
    (number : ℕ) (payload : List ℕ) → slot_at p number ≡ Some payload
    → payload ≡ payload_at c (layers_of p) message (c.point_of number)
