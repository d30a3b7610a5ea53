use Rattle.std.specs.Prelude.{nat_lt}
use Rattle.std.proofs.Common.{◌≡◌, ℕ, List, filter}
use Rattle.packet_set.specs.Packets.{count_in}
use Rattle.packet_receiver.specs.Arrivals.{GroupState}
use Rattle.packet_receiver.specs.inside.Joining.{OpensAll}
use Rattle.packet_receiver.proofs.joining.open_each.Given as goal

abbrev pub invariant-loop-group : goal.invariant-loop-group
invariant-loop-group g l = record {
  opened : (after : List (ℕ × GroupState g.row.F-Elem.Denot))
      → OpensAll g.F.Field.is_element g.F.Field.coding l.groups.entries l.group-iterator after
      → OpensAll g.F.Field.is_element g.F.Field.coding l.initial.groups.entries l.others.entries after;
  same : filter (λ (e : ℕ × GroupState g.row.F-Elem.Denot). nat_lt 0 (count_in e.1.packets)) l.groups.entries
      ≡ filter (λ (e : ℕ × GroupState g.row.F-Elem.Denot). nat_lt 0 (count_in e.1.packets)) l.initial.groups.entries;
}
