use Rattle.std.proofs.Common.{◌≡◌}
use Rattle.packet_receiver.specs.inside.Joining.{packets_by, clash_from}
use Rattle.packet_receiver.proofs.checks.find_clash.Given as goal

abbrev pub invariant-loop-group : goal.invariant-loop-group
invariant-loop-group g l =
    let kept = g.G.HasPackets.kept in
    let es = packets_by kept l.groups.entries in
    clash_from l.told es (packets_by kept l.group-iterator) ≡ clash_from l.told es (packets_by kept l.others.entries)
