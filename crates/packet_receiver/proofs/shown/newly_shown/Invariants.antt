use Rattle.std.specs.List.{flat_map}
use Rattle.std.proofs.Common.{◌≡◌, ◌++◌}
use Rattle.packet_receiver.specs.inside.Joining.{packets_by, shown_by, shown_at}
use Rattle.packet_receiver.proofs.shown.newly_shown.Given as goal

abbrev pub invariant-loop-group : goal.invariant-loop-group
invariant-loop-group g l =
    let kept = g.G.HasPackets.kept in
    let es = packets_by kept l.groups.entries in
    l.shown.items ++ flat_map (shown_at es) (packets_by kept l.group-iterator)
    ≡ shown_by es (packets_by kept l.others.entries)
