use Rattle.std.proofs.Common.{◌≡◌, ◌≤◌, ◌+◌, ◌-◌, ◌*◌, None, length}
use Rattle.stripe_plan.specs.Layers.{needs_of}
use Rattle.pet_receive.specs.Arrivals.{kept_set}
use Rattle.packet_rebuild.specs.MadeRange.{IsMadeRange}
use Rattle.packet_rebuild.specs.Repairs.{unlike_in}
use Rattle.packet_rebuild.proofs.unlike.find_unlike.Given as goal

abbrev pub invariant-loop-first : goal.invariant-loop-first
invariant-loop-first g l = record {
  within : l.first ≤ l.encoder.header.table.packets;
  none : unlike_in g.F.Field.coding (kept_set l.receiver) l.encoder 0 l.first ≡ None;
  made : IsMadeRange g.F.Field.coding l.encoder l.made;
  cost : l.steps ≤ l.initial.steps + l.first * length (needs_of l.encoder.header.table.layers);
}

abbrev pub decreases-loop-first : goal.decreases-loop-first
decreases-loop-first g l = l.packets - l.first
