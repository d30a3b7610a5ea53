use Rattle.std.proofs.Common.{rules}
use Rattle.stream_session.proofs.pass.hasher_of.Goals as goal

-- a mistake in the body is refused here, without a search for an answer to offer
pub returns : goal.returns
returns c = search rules
