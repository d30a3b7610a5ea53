use Rattle.std.proofs.Common.{◌∙◌}
use Rattle.packet_verdicts.specs.GroupLayers.{shown_in}
use Rattle.packet_receiver.proofs.Fields.{receiver_of}
use Rattle.packet_receiver.proofs.Sums.{sum_seen, shown_fits}
use Rattle.packet_receiver.proofs.receiver.PacketReceiver.shown.Goals as goal

pub total-requires : goal.total-requires
total-requires g c = shown_fits (receiver_of c.self.inside) c.self.invariant.set

pub returns : goal.returns
returns g c = c.total.ensures ∙ sum_seen shown_in c.self.view_is
