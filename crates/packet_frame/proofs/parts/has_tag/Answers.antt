use Rattle.std.proofs.Common.{rules}
use Rattle.packet_frame.proofs.parts.has_tag.Goals as goal

-- a mistake in the body is refused here, without a search for an answer to offer
pub returns : goal.returns
returns c = search rules
