use Rattle.std.proofs.Common.{◌∙◌}
use Rattle.packet_set.specs.Packets.{count_in}
use Rattle.packet_receiver.proofs.Fields.{receiver_of}
use Rattle.packet_receiver.proofs.Sums.{sum_seen, kept_fits}
use Rattle.packet_receiver.proofs.receiver.PacketReceiver.kept.Goals as goal

pub total-requires : goal.total-requires
total-requires g c = kept_fits (receiver_of c.self.inside) c.self.invariant.set

pub returns : goal.returns
returns g c = c.total.ensures ∙ sum_seen count_in c.self.view_is
