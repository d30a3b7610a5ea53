use Rattle.std.specs.Prelude.{option_map}
use Rattle.std.proofs.Common.{Some, nat_cmp, sym, ap, ◌∙◌}
use Rattle.std.specs.BTreeMap.{is_at}
use Rattle.packet_set.specs.Packets.{Packets}
use Rattle.packet_verdicts.specs.laws.EntryLaws.{lookup_values}
use Rattle.packet_receiver.proofs.checks.packets_in.Goals as goal

pub returns-in-Some : goal.returns-in-Some
returns-in-Some g c =
    let value = g.G.HasPackets.kept in
    ap (λ (p : Packets). Some p) c.packets.ensures ∙ ap (option_map value) c.in-Some.ensures.value
    ∙ sym (lookup_values value (is_at (nat_cmp c.args.group)) c.args.groups.now.entries)

pub returns-in-None : goal.returns-in-None
returns-in-None g c =
    let value = g.G.HasPackets.kept in
    ap (option_map value) c.in-None.ensures.value
    ∙ sym (lookup_values value (is_at (nat_cmp c.args.group)) c.args.groups.now.entries)
