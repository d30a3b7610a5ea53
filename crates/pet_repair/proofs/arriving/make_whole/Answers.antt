use Rattle.std.proofs.Common.{[], refl, sym, inl, ◌∙◌}
use Rattle.outside_routes.specs.Sending.{routes}
use Rattle.outside_routes.specs.Way.{way_of}
use Rattle.outside_routes.specs.laws.SendingLaws.{sends_nothing, part_nothing}
use Rattle.outside_routes.specs.declared.fault.RouteStop.TheVariants as stop
use Rattle.pet_repair.specs.declared.arriving.RelayStop.TheVariants.{Route}
use Rattle.pet_repair.specs.inside.Arrivals.{StopsLike}
use Rattle.pet_repair.proofs.ArrivalMade.{err_is}
use Rattle.pet_repair.proofs.arriving.make_whole.Goals as goal

pub returns-in_err-number-clause-stopped : goal.returns-in_err-number-clause-stopped
returns-in_err-number-clause-stopped g c =
    let way = way_of c.args.to in
    let r = routes g.P.Place g.K.Link c.args.place.now c.args.link.now in
    err_is (StopsLike way c.args.receiver.now c.args.encoder.now c.args.group r r) c.from_residual.result
    (Route stop.NoMemory) c.from_residual.ensures.1 (tt, inl (part_nothing way [] r r refl refl))

pub returns-in-Some-clause-stopped : goal.returns-in-Some-clause-stopped
returns-in-Some-clause-stopped g c =
    let r = routes g.P.Place g.K.Link c.args.place.now c.args.link.now in
    (refl, sym c.in_ok-number.ensures.least ∙ c.in-Some.is, sends_nothing (way_of c.args.to) r r refl refl)
