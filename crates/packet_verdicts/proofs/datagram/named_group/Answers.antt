use Rattle.std.proofs.Common.{rules}
use Rattle.packet_verdicts.specs.Group.{group_in}
use Rattle.packet_verdicts.proofs.datagram.named_group.Goals as goal

pub returns : goal.returns
unfolding group_in
returns c = search rules
