use Rattle.priority_file.proofs.PriorityFound.{none_at}
use Rattle.priority_file.proofs.priority.layers_at.Goals as goal

pub returns-in-None : goal.returns-in-None
returns-in-None c = none_at c.args.layers.now _ _ c.at.ensures c.in-None.is
