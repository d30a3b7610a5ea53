use Rattle.std.proofs.Common.{arith}
use Rattle.std.proofs.lemmas.Grind.{common_steps}
use Rattle.packet_frame.proofs.write.end_planned.Goals as goal

-- a mistake in the body is refused here, without a search for an answer to offer
pub returns : goal.returns
returns c = grind (arith, common_steps)
