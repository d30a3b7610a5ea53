use Rattle.packet_set.proofs.Stored.{are_packets}
use Rattle.packet_set.proofs.set.PacketSet.counts.Goals as goal

pub returns-clause-bounds : goal.returns-clause-bounds
returns-clause-bounds c = are_packets c.self.inside c.args.self.now c.self.view_is c.self.invariant
