use Rattle.std.proofs.Common.{refl}
use Rattle.std.proofs.lemmas.Result.{IfOk-weaker, IfErr-weaker}
use Rattle.outside_routes.specs.Sending.{routes}
use Rattle.outside_routes.specs.Way.{way_of}
use Rattle.pet_receive.specs.Arrivals.{kept_set}
use Rattle.pet_repair.specs.Repairs.{Repairs}
use Rattle.pet_repair.specs.inside.Groups.{end_of_failed}
use Rattle.pet_receive.specs.ShownBytes.{groups_told}
use Rattle.pet_repair.proofs.LinkKept.{kept_link, kept_unopened, kept_repaired}
use Rattle.pet_repair.proofs.RepairEnds.{repair_end_is, not_opened, repaired_all, repair_stopped, state_read}
use Rattle.pet_repair.proofs.repairing.repair_store.Goals as goal

pub returns-in_err-open_route-clause-stop : goal.returns-in_err-open_route-clause-stop
returns-in_err-open_route-clause-stop g c =
    let old = routes g.P.Place g.K.Link c.args.place.now c.args.link.now in
    let mid = routes g.P.Place g.K.Link c.read_store_file.new.place c.args.link.now in
    let now = routes g.P.Place g.K.Link c.open_route.new.place c.open_route.new.link in
    let r = c.in_ok-receiver.ensures in
    let h = state_read c.args.store.now old.place c.in_ok-receiver.receiver r.order r.sound r.read in
    let failed = c.in_err-open_route.field-0.0 in
    repair_end_is (Repairs c.args.store.now (way_of c.args.to) old now) c.from_residual-in_err-open_route.result
    (end_of_failed failed) c.from_residual-in_err-open_route.ensures.1
    (not_opened c.args.store.now (way_of c.args.to) old mid h c.read_store_file.ensures.others.files refl
    c.read_store_file.ensures.later failed now c.in_err-open_route.ensures.unopened c.open_route.ensures.others
    c.in_err-open_route.ensures.cause)

pub returns-clause-done : goal.returns-clause-done
returns-clause-done g c =
    let old = routes g.P.Place g.K.Link c.args.place.now c.args.link.now in
    let mid = routes g.P.Place g.K.Link c.read_store_file.new.place c.args.link.now in
    let opened = routes g.P.Place g.K.Link c.open_route.new.place c.open_route.new.link in
    let now = routes g.P.Place g.K.Link c.repair_groups.new.place c.repair_groups.new.link in
    let r = c.in_ok-receiver.ensures in
    let h = state_read c.args.store.now old.place c.in_ok-receiver.receiver r.order r.sound r.read in
    IfOk-weaker c.repair_groups.result _ _
    (λ n sends. repaired_all c.args.store.now (way_of c.args.to) old mid h c.read_store_file.ensures.others.files refl
    c.read_store_file.ensures.later opened now c.in_ok-open_route.ensures.opened c.open_route.ensures.others
    c.repair_groups.ensures.told.others n sends) c.repair_groups.ensures.done

pub returns-clause-stop : goal.returns-clause-stop
returns-clause-stop g c =
    let old = routes g.P.Place g.K.Link c.args.place.now c.args.link.now in
    let mid = routes g.P.Place g.K.Link c.read_store_file.new.place c.args.link.now in
    let opened = routes g.P.Place g.K.Link c.open_route.new.place c.open_route.new.link in
    let now = routes g.P.Place g.K.Link c.repair_groups.new.place c.repair_groups.new.link in
    let r = c.in_ok-receiver.ensures in
    let h = state_read c.args.store.now old.place c.in_ok-receiver.receiver r.order r.sound r.read in
    IfErr-weaker c.repair_groups.result _ _
    (λ e stops. repair_stopped c.args.store.now (way_of c.args.to) old mid h
    c.read_store_file.ensures.others.files refl c.read_store_file.ensures.later opened now
    c.in_ok-open_route.ensures.opened c.open_route.ensures.others c.repair_groups.ensures.told.others e stops)
    c.repair_groups.ensures.stop

pub returns-in_err-field-clause-kept : goal.returns-in_err-field-clause-kept
returns-in_err-field-clause-kept g c = kept_link (way_of c.args.to) (g.K.Link.seen c.args.link.now)

pub returns-in_err-receiver-clause-kept : goal.returns-in_err-receiver-clause-kept
returns-in_err-receiver-clause-kept g c = kept_link (way_of c.args.to) (g.K.Link.seen c.args.link.now)

pub returns-in_err-open_route-clause-kept : goal.returns-in_err-open_route-clause-kept
returns-in_err-open_route-clause-kept g c =
    kept_unopened (way_of c.args.to) (routes g.P.Place g.K.Link c.read_store_file.new.place c.args.link.now)
    (routes g.P.Place g.K.Link c.open_route.new.place c.open_route.new.link) c.in_err-open_route.ensures.unopened
    c.open_route.ensures.others

pub returns-clause-kept : goal.returns-clause-kept
returns-clause-kept g c =
    let r = c.in_ok-receiver.receiver in
    kept_repaired (way_of c.args.to) r (groups_told (kept_set r))
    (routes g.P.Place g.K.Link c.read_store_file.new.place c.args.link.now)
    (routes g.P.Place g.K.Link c.open_route.new.place c.open_route.new.link)
    (routes g.P.Place g.K.Link c.repair_groups.new.place c.repair_groups.new.link) c.repair_groups.result
    c.in_ok-open_route.ensures.opened c.open_route.ensures.others c.repair_groups.ensures.told.others
    c.repair_groups.ensures.done c.repair_groups.ensures.stop
