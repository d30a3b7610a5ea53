use Rattle.std.proofs.Common.{rules}
use Rattle.packet_set.proofs.set.told.Goals as goal

-- a mistake in the body is refused here, without a search for an answer to offer
pub returns-then-eq : goal.returns-then-eq
returns-then-eq c = search rules
