use Rattle.std.proofs.Common.{◌≡◌, length, All}
use Rattle.packet_verdicts.specs.KeptSet.{empty_set}
use Rattle.pet_receive.specs.Arrivals.{kept_set}
use Rattle.pet_world.proofs.receivers.empty_receivers.Given as goal

abbrev pub invariant-loop-index : goal.invariant-loop-index
invariant-loop-index g l = record {
  many : length l.all.items ≡ l.index;
  empty : All (λ r. kept_set r ≡ empty_set l.session l.limit) l.all.items;
}
