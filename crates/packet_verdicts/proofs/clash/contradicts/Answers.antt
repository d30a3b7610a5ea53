use Rattle.std.proofs.Common.{rules}
use Rattle.packet_verdicts.proofs.clash.contradicts.Goals as goal

-- a mistake in the body is refused here, without a search for an answer to offer
pub returns-else-is_other_count : goal.returns-else-is_other_count
returns-else-is_other_count c = search rules
