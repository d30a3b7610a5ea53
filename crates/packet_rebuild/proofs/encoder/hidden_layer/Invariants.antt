use Rattle.std.proofs.Common.{◌≡◌, Some, None}
use Rattle.std.specs.List.{find, range_with_len}
use Rattle.packet_set.specs.Packets.{Packets}
use Rattle.packet_verdicts.specs.KeptSet.{open_group}
use Rattle.pet_receive.specs.Arrivals.{kept_set}
use Rattle.packet_rebuild.specs.Repairs.{is_hidden}
use Rattle.packet_rebuild.proofs.encoder.hidden_layer.Given as goal

abbrev pub invariant-loop-layer : goal.invariant-loop-layer
invariant-loop-layer g l = (p : Packets) → open_group (kept_set l.receiver) l.group ≡ Some p
    → find (is_hidden p) (range_with_len 0 l.layer) ≡ None
