use Rattle.std.proofs.Common.{arith}
use Rattle.std.proofs.lemmas.Grind.{common_steps}
use Rattle.layer_split.proofs.places.Places.take.Goals as goal

-- a mistake in the body is refused here, without a search for an answer to offer
pub returns-in-B-clause-counted : goal.returns-in-B-clause-counted
returns-in-B-clause-counted c = grind (arith, common_steps)
