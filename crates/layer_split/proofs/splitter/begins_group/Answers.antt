use Rattle.std.proofs.Common.{rules}
use Rattle.layer_split.proofs.splitter.begins_group.Goals as goal

-- a mistake in the body is refused here, without a search for an answer to offer
pub returns-then-code-eq184 : goal.returns-then-code-eq184
returns-then-code-eq184 c = search rules
