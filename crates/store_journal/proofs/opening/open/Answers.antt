use Rattle.store_journal.specs.laws.OpeningLaws.{settled_leaves, open_leaves, ok_opens, err_stays, on_stood, keeps_on}
use Rattle.store_journal.proofs.opening.open.Goals as goal

pub returns-in_err-size-clause-images : goal.returns-in_err-size-clause-images
returns-in_err-size-clause-images g c = settled_leaves _ _ _ _ _ c.settle.ensures.same

pub returns-clause-images : goal.returns-clause-images
returns-clause-images g c = open_leaves _ _ _ _ _ _ (g.met.D.Disk.sound c.args.disk.now) c.settle.ensures.same
    c.in_ok-size.ensures.synced c.open_synced.ensures.images

pub returns-clause-open : goal.returns-clause-open
returns-clause-open g c = ok_opens _ _ _ _ _ _ _ _ c.settle.ensures.same c.in_ok-size.ensures.synced
    c.open_synced.ensures.open

pub returns-clause-refused : goal.returns-clause-refused
returns-clause-refused g c = err_stays _ _ _ _ _ _ c.settle.ensures.same c.open_synced.ensures.refused

pub returns-clause-read : goal.returns-clause-read
returns-clause-read g c = on_stood _ _ _ _ _ _ _ c.settle.ensures.same c.open_synced.ensures.read

pub returns-clause-unchanged : goal.returns-clause-unchanged
returns-clause-unchanged g c = keeps_on _ _ _ _ c.settle.ensures.same c.open_synced.ensures.unchanged
