use Rattle.std.proofs.Common.{◌<◌, [], ◌∷◌, refl, sym, ap, ◌∙◌, arith}
use Rattle.std.proofs.lemmas.List.Elements.{All-from_get_or}
use Rattle.std.proofs.lemmas.Result.{on_ok_weaker, IfErr-weaker}
use Rattle.outside_routes.specs.Sending.{routes}
use Rattle.outside_routes.specs.Way.{way_of}
use Rattle.outside_routes.specs.declared.fault.RouteStop.TheVariants as stop
use Rattle.outside_routes.specs.laws.SendingLaws.{part_nothing, grows_open}
use Rattle.packet_met.specs.laws.KeptDatagram.{kept_frame}
use Rattle.packet_verdicts.specs.Group.{group_in}
use Rattle.packet_verdicts.specs.Verdicts.{is_kept}
use Rattle.pet_receive.specs.Arrivals.{kept_set}
use Rattle.pet_repair.specs.Arrival.{kept_itself}
use Rattle.pet_repair.specs.declared.arriving.RelayStop.TheVariants.{Route}
use Rattle.pet_repair.specs.inside.Arrivals.{StopsArrival}
use Rattle.pet_repair.proofs.AgainSent.{keeps_one}
use Rattle.pet_repair.proofs.ArrivalMade.{err_is, part_itself, part_alone, arrival_none, arrival_alone, arrival_more}
use Rattle.pet_repair.proofs.ArrivalMade.{arrival_stops, other_verdict}
use Rattle.pet_repair.proofs.arriving.relay_one.Goals as goal

pub returns-in_err-shown-clause-stopped : goal.returns-in_err-shown-clause-stopped
returns-in_err-shown-clause-stopped g c =
    let way = way_of c.args.to in
    let d = c.args.datagram.now in
    let r = routes g.P.Place g.K.Link c.args.place.now c.args.link.now in
    let bytes = All-from_get_or (λ b. b < 256) d 0 (λ i lt. omega (arith, (c.type_inv.datagram i).fits)) in
    err_is (StopsArrival way c.args.receiver.now d r r) c.from_residual.result (Route stop.NoMemory)
    c.from_residual.ensures.1 (
      tt,
      part_itself way c.args.receiver.now d bytes r r
          (part_nothing way (kept_itself (kept_set c.args.receiver.now) d) r r refl refl),
    )

pub returns-in_err-put_datagram-in-Kept-clause-stopped : goal.returns-in_err-put_datagram-in-Kept-clause-stopped
returns-in_err-put_datagram-in-Kept-clause-stopped g c =
    let way = way_of c.args.to in
    let d = c.args.datagram.now in
    let old = routes g.P.Place g.K.Link c.args.place.now c.args.link.now in
    let new = routes g.P.Place g.K.Link c.put_datagram.new.place c.put_datagram.new.link in
    let bytes = All-from_get_or (λ b. b < 256) d 0 (λ i lt. omega (arith, (c.type_inv.datagram i).fits)) in
    let s = c.in_err-put_datagram-in-Kept.field-0.0 in
    err_is (StopsArrival way c.args.receiver.now d old new) c.from_residual-in_err-put_datagram-in-Kept.result (Route s)
    c.from_residual-in_err-put_datagram-in-Kept.ensures.1 (
      c.in_err-put_datagram-in-Kept.ensures.cause,
      part_alone way c.args.receiver.now d bytes c.in-Kept.shown c.requires.sound
          (sym c.in-Kept.is ∙ c.in_ok-shown.ensures.verdict) old new c.in_err-put_datagram-in-Kept.ensures.part,
    )

pub returns-then-shown-eq0-clause-done : goal.returns-then-shown-eq0-clause-done
returns-then-shown-eq0-clause-done g c =
    let d = c.args.datagram.now in
    let bytes = All-from_get_or (λ b. b < 256) d 0 (λ i lt. omega (arith, (c.type_inv.datagram i).fits)) in
    let stands = keeps_one c.args.receiver.now c.accept.new.self d (c.in_ok-shown.ensures.order (ap is_kept c.in-Kept.is))
    c.accept.ensures.sound in
    arrival_alone (way_of c.args.to) c.args.receiver.now d bytes c.in-Kept.shown c.requires.sound
    (sym c.in-Kept.is ∙ c.in_ok-shown.ensures.verdict) c.accept.new.self
    (routes g.P.Place g.K.Link c.args.place.now c.args.link.now)
    (routes g.P.Place g.K.Link c.put_datagram.new.place c.put_datagram.new.link) c.if-shown-eq0.true
    c.in_ok-shown.ensures.kept stands c.in_ok-put_datagram-in-Kept.ensures.sends

pub group_of-group-requires : goal.group_of-group-requires
group_of-group-requires g c =
    kept_frame (kept_set c.args.receiver.now) c.args.datagram.now
    (sym (ap is_kept c.in_ok-shown.ensures.verdict) ∙ ap is_kept c.in-Kept.is)

pub complete-requires-clause-open : goal.complete-requires-clause-open
complete-requires-clause-open g c =
    grows_open (way_of c.args.to) (routes g.P.Place g.K.Link c.args.place.now c.args.link.now)
    (routes g.P.Place g.K.Link c.put_datagram.new.place c.put_datagram.new.link) c.put_datagram.ensures.others
    c.requires.open

pub returns-else-shown-eq0-clause-done : goal.returns-else-shown-eq0-clause-done
unfolding group_in
returns-else-shown-eq0-clause-done g c =
    let d = c.args.datagram.now in
    let bytes = All-from_get_or (λ b. b < 256) d 0 (λ i lt. omega (arith, (c.type_inv.datagram i).fits)) in
    let stands = keeps_one c.args.receiver.now c.accept.new.self d (c.in_ok-shown.ensures.order (ap is_kept c.in-Kept.is))
    c.accept.ensures.sound in
    on_ok_weaker c.complete.result
    (λ done. arrival_more (way_of c.args.to) c.args.receiver.now d bytes c.in-Kept.shown c.requires.sound
    (sym c.in-Kept.is ∙ c.in_ok-shown.ensures.verdict) c.if-shown-eq0.false c.accept.new.self
    c.in_ok-shown.ensures.kept stands c.group_of-group.result c.group_of-group.ensures
    (routes g.P.Place g.K.Link c.args.place.now c.args.link.now)
    (routes g.P.Place g.K.Link c.put_datagram.new.place c.put_datagram.new.link)
    (routes g.P.Place g.K.Link c.complete.new.place c.complete.new.link) c.put_datagram.ensures.others
    c.in_ok-put_datagram-in-Kept.ensures.sends c.complete.new.receiver done) c.complete.ensures.done

pub returns-else-shown-eq0-clause-stopped : goal.returns-else-shown-eq0-clause-stopped
unfolding group_in
returns-else-shown-eq0-clause-stopped g c =
    let d = c.args.datagram.now in
    let bytes = All-from_get_or (λ b. b < 256) d 0 (λ i lt. omega (arith, (c.type_inv.datagram i).fits)) in
    let stands = keeps_one c.args.receiver.now c.accept.new.self d (c.in_ok-shown.ensures.order (ap is_kept c.in-Kept.is))
    c.accept.ensures.sound in
    IfErr-weaker c.complete.result _ _
    (λ s stops. arrival_stops (way_of c.args.to) c.args.receiver.now d bytes c.in-Kept.shown c.requires.sound
    (sym c.in-Kept.is ∙ c.in_ok-shown.ensures.verdict) c.if-shown-eq0.false c.accept.new.self
    c.in_ok-shown.ensures.kept stands c.group_of-group.result c.group_of-group.ensures
    (routes g.P.Place g.K.Link c.args.place.now c.args.link.now)
    (routes g.P.Place g.K.Link c.put_datagram.new.place c.put_datagram.new.link)
    (routes g.P.Place g.K.Link c.complete.new.place c.complete.new.link) c.put_datagram.ensures.others
    c.in_ok-put_datagram-in-Kept.ensures.sends s stops) c.complete.ensures.stopped

pub returns-in_default-clause-done : goal.returns-in_default-clause-done
returns-in_default-clause-done g c =
    let d = c.args.datagram.now in
    let bytes = All-from_get_or (λ b. b < 256) d 0 (λ i lt. omega (arith, (c.type_inv.datagram i).fits)) in
    let out = other_verdict c.in_ok-shown.field-0 c.in_default.not-Kept in
    arrival_none (way_of c.args.to) c.args.receiver.now d bytes c.accept.new.self
    (routes g.P.Place g.K.Link c.args.place.now c.args.link.now) (sym (ap is_kept c.in_ok-shown.ensures.verdict) ∙ out)
    (c.in_ok-shown.ensures.unchanged out).0 c.in_ok-shown.ensures.kept
