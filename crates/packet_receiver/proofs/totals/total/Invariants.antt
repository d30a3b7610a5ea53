use Rattle.std.proofs.Common.{◌≡◌, ◌+◌, sum_by}
use Rattle.std.specs.Map.{values_of}
use Rattle.packet_receiver.specs.inside.Counted.{counted}
use Rattle.packet_receiver.proofs.totals.total.Given as goal

abbrev pub invariant-loop-open : goal.invariant-loop-open
invariant-loop-open g l =
    l.total + sum_by (λ s. counted l.what (g.G.HasPackets.kept s)) l.open-iterator
    ≡ sum_by (λ s. counted l.what (g.G.HasPackets.kept s)) (values_of l.groups.entries)
