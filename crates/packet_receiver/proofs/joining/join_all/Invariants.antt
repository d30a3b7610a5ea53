use Rattle.std.proofs.Common.{ℕ, ◌≤◌, List, All}
use Rattle.packet_receiver.specs.Arrivals.{GroupState}
use Rattle.packet_receiver.specs.inside.Joining.{CanJoin, JoinsAll}
use Rattle.packet_receiver.proofs.joining.join_all.Given as goal

abbrev pub invariant-loop-group : goal.invariant-loop-group
invariant-loop-group g l = record {
  points : All
      (λ (e : ℕ × GroupState g.row.F-Elem.Denot). e.1.packets.header.table.packets ≤ g.F.Field.COUNT) l.group-iterator;
  ready : CanJoin g.F.Field.is_element g.F.Field.coding l.groups.entries l.group-iterator;
  joined : (after : List (ℕ × GroupState g.row.F-Elem.Denot)) (more : ℕ)
      → JoinsAll g.F.Field.is_element g.F.Field.coding l.groups.entries l.steps l.group-iterator after more
      → JoinsAll g.F.Field.is_element g.F.Field.coding l.initial.groups.entries l.initial.steps l.others.entries after
      more;
}
