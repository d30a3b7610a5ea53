use Rattle.std.proofs.Common.{◌≡◌, ◌≤◌, ◌-◌, ◌++◌, length}
use Rattle.command_sample.specs.Arrivals.{arriving}
use Rattle.command_sample.proofs.order.arrival_order.Given as goal

abbrev pub invariant-loop-place : goal.invariant-loop-place
invariant-loop-place l = record {
  order : l.order.items ++ arriving l.place (100 - l.place) ≡ arriving 0 100;
  room : length l.order.items ≤ l.place;
}
