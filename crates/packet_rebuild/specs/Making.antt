-- The layers of a group, and their message as far as it has come.
use Rattle.std.specs.Prelude.{◌≡◌, ℕ, ◌<◌, List, [], length, slice_index_or, Some}
use Rattle.field_elements.specs.Field.{Coding}
use Rattle.packet_set.specs.Packets.{Packets}
use Rattle.packet_session.specs.Session.{IsMessage, bytes_of_layer}
use Rattle.packet_verdicts.specs.KeptSet.{open_group}
use Rattle.pet_receive.specs.Arrivals.{Order, ReceiverState, HasKept, kept_set, numbers_of, layers_of}
use Rattle.pet_receive.specs.ShownBytes.{IsShownBytes, Agrees}
use Rattle.packet_rebuild.specs.Message.{message_of}

module _ {E : Type 0} (is_element : E → Type 0) (c : Coding E) (r : ReceiverState E) (group : ℕ) where
  -- these are the bytes of a layer, for whatever order of arrival and for whatever message with which the kept
  -- packets agree
  pub record HasLayer (layer : ℕ) (bytes : List ℕ) : Type 0 where
    pub shown : (order : Order) (p : Packets) → HasKept is_element c r order → open_group (kept_set r) group ≡ Some p
        → IsShownBytes is_element c p (numbers_of order group) layer bytes
    pub agreed : (p : Packets) (message : List ℕ) → open_group (kept_set r) group ≡ Some p
        → IsMessage c.width (layers_of p) message → Agrees c p message
        → bytes ≡ bytes_of_layer c.width (layers_of p) message layer

  -- this is the message of the first layers
  pub record HasLayers (count : ℕ) (message : List ℕ) : Type 0 where
    pub layers : List (List ℕ)
    pub many : length layers ≡ count
    pub each : (layer : ℕ) → layer < count → HasLayer layer (slice_index_or layers layer [])
    pub message_is : message ≡ message_of layers
