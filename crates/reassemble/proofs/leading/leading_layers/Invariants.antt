use Rattle.std.proofs.Common.{◌≡◌, ℕ, ◌<◌, List, length, map, Some}
use Rattle.std.specs.List.{range_with_len}
use Rattle.packet_set.specs.Packets.{Packets}
use Rattle.packet_session.specs.Session.{IsMessage, bytes_of_layer}
use Rattle.pet_receive.specs.Arrivals.{Order, HasKept, kept_set, numbers_of, layers_of}
use Rattle.packet_verdicts.specs.KeptSet.{open_group}
use Rattle.pet_receive.specs.ShownBytes.{IsShown, Agrees}
use Rattle.reassemble.specs.Leading.{AreShownBytes}
use Rattle.reassemble.proofs.leading.leading_layers.Given as goal

-- the layers so far
abbrev pub invariant-loop-layer : goal.invariant-loop-layer
invariant-loop-layer g l = record {
  many : length l.layers.items ≡ l.layer;
  shown : (layer : ℕ) → layer < l.layer → IsShown (kept_set l.receiver) l.group layer;
  bytes :
      (order : Order) (p : Packets) → HasKept g.F.Field.is_element g.F.Field.coding l.receiver order
      → open_group (kept_set l.receiver) l.group ≡ Some p
      → AreShownBytes g.F.Field.is_element g.F.Field.coding p (numbers_of order l.group)
      (map (λ e. e.bytes.now) l.layers.items);
  agreed :
      (p : Packets) (message : List ℕ) → open_group (kept_set l.receiver) l.group ≡ Some p
      → IsMessage g.F.Field.coding.width (layers_of p) message
      → Agrees g.F.Field.coding p message
      → map (λ e. e.bytes.now) l.layers.items
      ≡ map (bytes_of_layer g.F.Field.coding.width (layers_of p) message) (range_with_len 0 l.layer);
}
