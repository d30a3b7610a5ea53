use Rattle.std.proofs.Common.{rules}
use Rattle.stream_session.specs.Marks.{mark_of}
use Rattle.stream_session.proofs.mark.GroupMark.of.Goals as goal

-- a mistake in the body is refused here, without a search for an answer to offer
pub returns : goal.returns
unfolding mark_of
returns c = search rules
