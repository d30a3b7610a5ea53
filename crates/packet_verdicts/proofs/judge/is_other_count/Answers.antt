use Rattle.std.proofs.Common.{rules}
use Rattle.packet_verdicts.proofs.judge.is_other_count.Goals as goal

-- a mistake in the body is refused here, without a search for an answer to offer
pub returns-in-Some : goal.returns-in-Some
returns-in-Some c = search rules
