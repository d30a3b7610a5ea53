use Rattle.std.proofs.Common.{sym}
use Rattle.pet_receive.specs.Arrivals.{kept_set}
use Rattle.packet_rebuild.proofs.LeastLayer.{none_told}
use Rattle.packet_rebuild.proofs.encoder.open_header.Goals as goal

pub returns-in-None-clause-header : goal.returns-in-None-clause-header
returns-in-None-clause-header g c =
    sym (none_told (kept_set c.args.receiver.now) c.args.group (sym c.in-None.ensures.value))
