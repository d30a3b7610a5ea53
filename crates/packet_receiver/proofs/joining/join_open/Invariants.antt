use Rattle.std.proofs.Common.{◌≤◌}
use Rattle.packet_receiver.specs.inside.Joining.{IsFilledTo}
use Rattle.packet_receiver.proofs.joining.join_open.Given as goal

abbrev pub invariant-loop-number : goal.invariant-loop-number
invariant-loop-number g l = record {
  few : l.number ≤ l.theirs.header.table.packets;
  filled : IsFilledTo g.F.Field.is_element g.F.Field.coding l.initial.mine l.theirs l.number l.initial.steps l.mine
      l.steps;
}
