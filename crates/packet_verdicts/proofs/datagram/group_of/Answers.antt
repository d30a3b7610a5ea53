use Rattle.packet_frame.specs.declared.format.TheConstants.{FORMAT}
use Rattle.packet_frame.specs.laws.Laws.{reads_heads_in}
use Rattle.packet_verdicts.proofs.datagram.group_of.Goals as goal

pub named_group-requires : goal.named_group-requires
named_group-requires c = reads_heads_in FORMAT c.args.datagram.now c.requires
