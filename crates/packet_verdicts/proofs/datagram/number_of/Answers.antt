use Rattle.packet_frame.specs.declared.format.TheConstants.{FORMAT}
use Rattle.packet_frame.specs.laws.Laws.{reads_heads_in}
use Rattle.packet_verdicts.proofs.datagram.number_of.Goals as goal

pub named_number-requires : goal.named_number-requires
named_number-requires c = reads_heads_in FORMAT c.args.datagram.now c.requires
