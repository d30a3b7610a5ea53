use Rattle.std.specs.Prelude.{option_and_then}
use Rattle.std.proofs.Common.{sym, ap, ◌∙◌}
use Rattle.packet_set.specs.Packets.{Packets}
use Rattle.packet_receiver.specs.Tags.{tag_at}
use Rattle.packet_receiver.proofs.Received.{opened_seen, closed_seen}
use Rattle.packet_receiver.proofs.receiver.PacketReceiver.tag.Goals as goal

pub returns-in-Some : goal.returns-in-Some
returns-in-Some g c =
    c.tag.ensures
    ∙ ap (option_and_then (λ (p : Packets). tag_at p c.args.number))
    (sym (opened_seen c.self.view_is c.args.group c.in-Some.open.now c.in-Some.ensures.value))

pub returns-in-None : goal.returns-in-None
returns-in-None g c =
    ap (option_and_then (λ (p : Packets). tag_at p c.args.number))
    (sym (closed_seen c.self.view_is c.args.group c.in-None.ensures.value))
