use Rattle.std.proofs.Common.{rules}
use Rattle.packet_verdicts.specs.Group.{number_in}
use Rattle.packet_verdicts.proofs.datagram.named_number.Goals as goal

pub returns : goal.returns
unfolding number_in
returns c = search rules
