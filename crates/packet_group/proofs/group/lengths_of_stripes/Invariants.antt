use Rattle.std.proofs.Common.{◌≡◌, ◌++◌, map}
use Rattle.stripe_plan.specs.Walk.{stripes_left}
use Rattle.packet_group.specs.OpenGroup.{stripe_lengths}
use Rattle.packet_group.proofs.group.lengths_of_stripes.Given as goal

abbrev pub invariant-loop-length : goal.invariant-loop-length
invariant-loop-length l = record {
  can : goal.iterator-loop-length.can_next l.length-iterator;
  ends : goal.iterator-loop-length.is_finite l.length-iterator;
  lengths : l.lengths.items ++ map (λ s. s.1) (stripes_left l.length-iterator) ≡ stripe_lengths l.table.layers;
}
