use Rattle.store_journal.specs.laws.OpeningLaws.{begin_leaves_sets, short_ok}
use Rattle.store_journal.proofs.opening.open_synced.Goals as goal

pub returns-in_err-begin-clause-images : goal.returns-in_err-begin-clause-images
returns-in_err-begin-clause-images g c = begin_leaves_sets _ _ _ _ _ _ c.if-size-le13.true c.requires.size
    c.begin.ensures.images

pub returns-in_ok-begin-clause-images : goal.returns-in_ok-begin-clause-images
returns-in_ok-begin-clause-images g c = begin_leaves_sets _ _ _ _ _ _ c.if-size-le13.true c.requires.size
    c.begin.ensures.images

pub returns-in_ok-begin-clause-read : goal.returns-in_ok-begin-clause-read
returns-in_ok-begin-clause-read g c = short_ok _ _ _ _ _ c.if-size-le13.true c.requires.size
