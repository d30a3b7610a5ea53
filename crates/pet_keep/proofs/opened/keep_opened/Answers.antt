use Rattle.pet_base.specs.Lent.{seen}
use Rattle.outside_routes.specs.Way.{way_of}
use Rattle.pet_receive.specs.Arrivals.{kept_set}
use Rattle.pet_keep.specs.Journaled.{disk_now, uncounted}
use Rattle.pet_keep.proofs.Openings.{kept_on, nothing_kept, refused}
use Rattle.pet_keep.proofs.opened.keep_opened.Goals as goal

pub returns-in_default-clause-keeps : goal.returns-in_default-clause-keeps
returns-in_default-clause-keeps g c =
    nothing_kept (way_of c.args.from) c.args.session c.args.store.now (uncounted (seen c.args.outside.now))
    (disk_now g.D.Disk c.args.disk)

pub returns-in_default-new-clause-keeps : goal.returns-in_default-new-clause-keeps
returns-in_default-new-clause-keeps g c =
    nothing_kept (way_of c.args.from) c.args.session c.args.store.now (uncounted (seen c.args.outside.now))
    (disk_now g.D.Disk c.args.disk)

pub returns-in-Ok-start-clause-keeps : goal.returns-in-Ok-start-clause-keeps
returns-in-Ok-start-clause-keeps g c =
    let keeper = c.in-Ok-start.keeper in
    let end = c.keep_to_end-end in
    kept_on g.D.Disk (way_of c.args.from) c.args.session c.args.store.now (uncounted (seen c.args.outside.now))
    (uncounted (seen end.new.outside)) (kept_set keeper.receiver) c.args.disk keeper.disk end.new.keeper.disk
    c.stop.result end.result c.stop.ensures (g.met.D.Disk.sound c.args.disk) c.in-Ok-start.ensures.starts
    c.in-Ok-start.ensures.later_ok end.ensures.ends end.ensures.images end.ensures.link end.ensures.few
    end.ensures.later end.ensures.out end.ensures.disk_later

pub returns-clause-keeps : goal.returns-clause-keeps
returns-clause-keeps g c =
    let why = c.in-Err.ensures in
    refused (way_of c.args.from) c.args.session c.args.store.now (uncounted (seen c.args.outside.now))
    (disk_now g.D.Disk c.args.disk) (disk_now g.D.Disk c.in-Err.disk) c.in-Err.fault c.end_of_fault.result
    c.end_of_fault.ensures why.images why.refused why.unchanged why.cause why.later
