use Rattle.pet_receive.specs.Arrivals.{kept_set}
use Rattle.packet_rebuild.specs.laws.RebuiltLaws.{closed_of}
use Rattle.packet_rebuild.proofs.LeastLayer.{not_open}
use Rattle.packet_rebuild.proofs.encoder.encoder_of.Goals as goal

pub returns-in-None-clause-refused : goal.returns-in-None-clause-refused
returns-in-None-clause-refused g c =
    λ _.
    not_open (kept_set c.args.receiver.now) c.args.group
    (closed_of (kept_set c.args.receiver.now) c.args.group c.in-None.ensures.header)
