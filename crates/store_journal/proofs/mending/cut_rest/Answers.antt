use Rattle.outside_disk.specs.laws.DiskLaws.{ok_then}
use Rattle.store_journal.specs.laws.MendingLaws.{cut_leaves, cut_are}
use Rattle.store_journal.proofs.mending.cut_rest.Goals as goal

pub returns-then-more-clause-images : goal.returns-then-more-clause-images
returns-then-more-clause-images g c = cut_leaves _ _ _ _ c.if-more.true c.cut_through.ensures.images

pub returns-then-more-clause-cut : goal.returns-then-more-clause-cut
returns-then-more-clause-cut g c = ok_then _ _ (cut_are _ _ _ _ c.if-more.true) _ c.cut_through.ensures.cut
