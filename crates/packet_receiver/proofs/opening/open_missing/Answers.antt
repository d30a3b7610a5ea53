use Rattle.std.proofs.Common.{rules}
use Rattle.packet_receiver.proofs.opening.open_missing.Goals as goal

-- a mistake in the body is refused here, without a search for an answer to offer
pub returns-then-contains_key-clause-err : goal.returns-then-contains_key-clause-err
returns-then-contains_key-clause-err g c = search rules
