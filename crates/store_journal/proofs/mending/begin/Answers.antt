use Rattle.outside_disk.specs.laws.DiskLaws.{ok_then}
use Rattle.store_journal.specs.laws.MendingLaws.{begin_leaves, begin_is, empty_long}
use Rattle.store_journal.proofs.mending.begin.Goals as goal

pub returns-clause-images : goal.returns-clause-images
returns-clause-images g c = begin_leaves _ _ _ (empty_long _ _ c.told-session c.empty_text.ensures)
    c.write_through.ensures.images

pub returns-clause-begun : goal.returns-clause-begun
returns-clause-begun g c = ok_then _ _ (begin_is _ _ _ _ c.told-session c.empty_text.ensures) _
    c.write_through.ensures.written
