use Rattle.store_journal.specs.laws.MendingLaws.{close_leaves}
use Rattle.store_journal.proofs.mending.close.Goals as goal

pub returns-else-value-eq0-clause-images : goal.returns-else-value-eq0-clause-images
returns-else-value-eq0-clause-images g c = close_leaves _ _ _ _ c.write_through.ensures.images
