use Rattle.std.proofs.Common.{[], false, refl}
use Rattle.pet_base.specs.Lent.{seen}
use Rattle.pet_base.specs.OutsideSeen.{OutsideSeen, outside_seen}
use Rattle.outside_routes.specs.Way.{way_of}
use Rattle.outside_routes.specs.RouteFaults.{stop_of_route}
use Rattle.outside_routes.specs.Sending.{routes}
use Rattle.packet_reading.specs.Begun.{Begins}
use Rattle.pet_repair.specs.Relays.{EndsRelay}
use Rattle.pet_repair.specs.declared.arriving.RelayStop.TheVariants.{Route}
use Rattle.pet_repair.specs.inside.RelayEnds.{OnlyBegins, end_of_relay}
use Rattle.pet_repair.specs.inside.Arrivals.{StandsIn}
use Rattle.pet_repair.proofs.ArrivalMade.{err_is}
use Rattle.pet_repair.proofs.BetweenKept.{between_sending, between_unopened}
use Rattle.pet_repair.proofs.RelayBegun.{stops_opening, stops_relaying, relays_with, input_opened, open_opened}
use Rattle.pet_repair.proofs.RelayBegun.{out_of, relaying_output, route_output}
use Rattle.pet_repair.proofs.relaying.relay_begun.Goals as goal

pub returns-in_err-open_route-clause-stopped : goal.returns-in_err-open_route-clause-stopped
returns-in_err-open_route-clause-stopped g c =
    let from = way_of c.args.from in
    let to = way_of c.args.to in
    let mid = seen c.args.outside.now in
    let o = c.args.outside.now in
    let opened = routes g.P.Place g.K.Link c.open_route.new.place c.open_route.new.link in
    let new = outside_seen g.P.Place g.K.Link g.S.Sink c.open_route.new.place c.open_route.new.link o.out.now o.steps.now in
    let failed = c.in_err-open_route.field-0.0 in
    err_is (λ s. (before : OutsideSeen) → Begins from before mid → OnlyBegins from before mid
    → EndsRelay from c.args.session to before new (end_of_relay s)) c.from_residual.result (Route (stop_of_route failed))
    c.from_residual.ensures.1
    (λ before begins only. stops_opening from c.args.session to before mid only begins opened new
    c.open_route.ensures.others refl refl refl c.in_err-open_route.ensures.unopened failed
    c.in_err-open_route.ensures.cause)

pub relay_all-requires-clause-input : goal.relay_all-requires-clause-input
relay_all-requires-clause-input g c =
    input_opened (way_of c.args.from) (routes g.P.Place g.K.Link c.args.outside.now.place.now c.args.outside.now.link.now)
    (routes g.P.Place g.K.Link c.open_route.new.place c.open_route.new.link) c.open_route.ensures.others
    c.requires.input

pub relay_all-requires-clause-open : goal.relay_all-requires-clause-open
relay_all-requires-clause-open g c =
    open_opened (way_of c.args.to) (routes g.P.Place g.K.Link c.args.outside.now.place.now c.args.outside.now.link.now)
    (routes g.P.Place g.K.Link c.open_route.new.place c.open_route.new.link) c.in_ok-open_route.ensures.opened

pub returns-in_err-read-clause-stopped : goal.returns-in_err-read-clause-stopped
returns-in_err-read-clause-stopped g c =
    let from = way_of c.args.from in
    let to = way_of c.args.to in
    let mid = seen c.args.outside.now in
    let o = c.args.outside.now in
    let opened = routes g.P.Place g.K.Link c.open_route.new.place c.open_route.new.link in
    let new = outside_seen g.P.Place g.K.Link g.S.Sink c.relay_all.new.place c.relay_all.new.link o.out.now
    c.relay_all.new.steps in
    let s = c.in_err-read.field-0.0 in
    let stands : StandsIn c.new-receiver.result [] = record { held = c.new-receiver.ensures.order; sound = c.new-receiver.ensures.sound } in
    err_is (λ s. (before : OutsideSeen) → Begins from before mid → OnlyBegins from before mid
    → EndsRelay from c.args.session to before new (end_of_relay s)) c.from_residual-in_err-read.result s
    c.from_residual-in_err-read.ensures.1
    (λ before begins only. stops_relaying from c.args.session to before mid only begins opened new
    c.open_route.ensures.others refl c.in_ok-open_route.ensures.opened c.relay_all.ensures.keeps c.new-receiver.result
    c.new-receiver.ensures.empty stands s c.in_err-read.ensures.stopped)

pub returns-clause-done : goal.returns-clause-done
returns-clause-done g c before begins only =
    let from = way_of c.args.from in
    let to = way_of c.args.to in
    let mid = seen c.args.outside.now in
    let o = c.args.outside.now in
    let opened = routes g.P.Place g.K.Link c.open_route.new.place c.open_route.new.link in
    let new = outside_seen g.P.Place g.K.Link g.S.Sink c.relay_all.new.place c.relay_all.new.link o.out.now
    c.relay_all.new.steps in
    let stands : StandsIn c.new-receiver.result [] = record { held = c.new-receiver.ensures.order; sound = c.new-receiver.ensures.sound } in
    let told = c.relaying_of.ensures in
    relays_with from c.args.session to before mid only begins opened new c.open_route.ensures.others refl
    c.in_ok-open_route.ensures.opened c.relay_all.ensures.keeps c.new-receiver.result c.new-receiver.ensures.empty
    stands c.in_ok-read.read c.relay_all.new.receiver c.relaying_of.result c.in_ok-read.ensures.done told.read
    told.sent told.complete

pub returns-in_err-open_route-clause-out : goal.returns-in_err-open_route-clause-out
returns-in_err-open_route-clause-out g c =
    let o = c.args.outside.now in
    let new = outside_seen g.P.Place g.K.Link g.S.Sink c.open_route.new.place c.open_route.new.link o.out.now o.steps.now in
    let why = c.in_err-open_route.field-0.0 in
    out_of c.from_residual.result (Route (stop_of_route why)) false (seen o) new c.from_residual.ensures.1
    (route_output why) refl

pub returns-in_err-read-clause-out : goal.returns-in_err-read-clause-out
returns-in_err-read-clause-out g c =
    let o = c.args.outside.now in
    let opened = routes g.P.Place g.K.Link c.open_route.new.place c.open_route.new.link in
    let new = outside_seen g.P.Place g.K.Link g.S.Sink c.relay_all.new.place c.relay_all.new.link o.out.now
    c.relay_all.new.steps in
    let why = c.in_err-read.field-0.0 in
    out_of c.from_residual-in_err-read.result why false (seen o) new c.from_residual-in_err-read.ensures.1
    (relaying_output (way_of c.args.from) (way_of c.args.to) c.new-receiver.result opened
    (routes g.P.Place g.K.Link c.relay_all.new.place c.relay_all.new.link) why c.in_err-read.ensures.stopped) refl

pub returns-in_err-open_route-clause-kept : goal.returns-in_err-open_route-clause-kept
returns-in_err-open_route-clause-kept g c =
    let o = c.args.outside.now in
    between_unopened (way_of c.args.from) (way_of c.args.to) (routes g.P.Place g.K.Link o.place.now o.link.now)
    (routes g.P.Place g.K.Link c.open_route.new.place c.open_route.new.link) c.in_err-open_route.ensures.unopened
    c.open_route.ensures.others

pub returns-in_err-read-clause-kept : goal.returns-in_err-read-clause-kept
returns-in_err-read-clause-kept g c =
    let o = c.args.outside.now in
    between_sending (way_of c.args.from) (way_of c.args.to) (routes g.P.Place g.K.Link o.place.now o.link.now)
    (routes g.P.Place g.K.Link c.open_route.new.place c.open_route.new.link) (g.K.Link.seen c.relay_all.new.link)
    c.in_ok-open_route.ensures.opened c.open_route.ensures.others c.relay_all.ensures.kept

pub returns-clause-kept : goal.returns-clause-kept
returns-clause-kept g c =
    let o = c.args.outside.now in
    between_sending (way_of c.args.from) (way_of c.args.to) (routes g.P.Place g.K.Link o.place.now o.link.now)
    (routes g.P.Place g.K.Link c.open_route.new.place c.open_route.new.link) (g.K.Link.seen c.relay_all.new.link)
    c.in_ok-open_route.ensures.opened c.open_route.ensures.others c.relay_all.ensures.kept
