use Rattle.std.proofs.Common.{◌≡◌, ℕ, ◌<◌, ◌≤◌, vec_capacity}
use Rattle.stripe_plan.specs.Layers.{count_of}
use Rattle.packet_group.specs.OpenGroup.{layers_of}
use Rattle.packet_group.specs.Written.{HasLayer}
use Rattle.packet_group.specs.inside.Learning.{IsWrittenOn}
use Rattle.packet_group.proofs.write.write_shown.Given as goal

abbrev pub invariant-loop-layer : goal.invariant-loop-layer
invariant-loop-layer g l = record {
  room : vec_capacity l.initial.message ≤ vec_capacity l.message;
  on : IsWrittenOn g.F.Field.coding (layers_of l.packets) l.progress l.initial.message.items l.message.items;
  shown : (i : ℕ) → i < l.layer → count_of (layers_of l.packets) i ≡ l.progress.met
      → HasLayer g.F.Field.coding (layers_of l.packets) l.progress l.message.items i;
}
