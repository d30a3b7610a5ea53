use Rattle.std.proofs.Common.{◌≡◌, ◌+◌, ◌≤◌, All, sum_by}
use Rattle.packet_verdicts.specs.KeptSet.{cost_in}
use Rattle.packet_verdicts.specs.Union.{first_past}
use Rattle.packet_receiver.specs.inside.Joining.{packets_by, new_of}
use Rattle.packet_receiver.proofs.checks.cost_with.Given as goal

abbrev pub invariant-loop-group : goal.invariant-loop-group
invariant-loop-group g l =
    let kept = g.G.HasPackets.kept in
    let new = new_of (packets_by kept l.groups.entries) in
    record {
      two : All (λ e. (kept e.1).word ≡ 2) l.group-iterator;
      room : l.total ≤ l.limit;
      full : first_past l.limit l.total (new (packets_by kept l.group-iterator))
          ≡ first_past l.limit l.cost (new (packets_by kept l.others.entries));
      sum : l.total + sum_by (λ e. cost_in e.1) (new (packets_by kept l.group-iterator))
          ≡ l.cost + sum_by (λ e. cost_in e.1) (new (packets_by kept l.others.entries));
    }
