use Rattle.std.proofs.Common.{◌≡◌, None}
use Rattle.pet_receive.specs.Arrivals.{kept_set}
use Rattle.packet_rebuild.specs.Repairs.{unlike_in}
use Rattle.packet_rebuild.proofs.unlike.unlike_among.Given as goal

abbrev pub invariant-loop-p : goal.invariant-loop-p
invariant-loop-p g l = unlike_in g.F.Field.coding (kept_set l.receiver) l.encoder l.first l.p ≡ None
