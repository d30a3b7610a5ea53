use Rattle.std.proofs.Common.{◌≡◌, map, take}
use Rattle.packet_frame.specs.Planned.{halved}
use Rattle.packet_frame.proofs.planned.halves.Given as goal

abbrev pub invariant-loop-layer : goal.invariant-loop-layer
invariant-loop-layer l = l.halves.items ≡ map halved (take l.layer-index l.layers)
