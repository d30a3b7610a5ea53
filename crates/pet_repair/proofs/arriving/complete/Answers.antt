use Rattle.std.proofs.Common.{◌<◌, [], refl, sym, subst, inl}
use Rattle.std.proofs.lemmas.Result.{on_ok_weaker, IfErr-weaker}
use Rattle.outside_routes.specs.Sending.{routes}
use Rattle.outside_routes.specs.Way.{way_of}
use Rattle.outside_routes.specs.laws.SendingLaws.{part_nothing}
use Rattle.field_elements.specs.Gf16.{gf16_coding}
use Rattle.pet_repair.specs.inside.Arrivals.{StopsCompletion}
use Rattle.pet_repair.specs.laws.RepairLaws.{opened_for}
use Rattle.pet_repair.proofs.ArrivalMade.{completion_shown, completion_hidden, stops_shown}
use Rattle.pet_repair.proofs.arriving.complete.Goals as goal

pub make_whole-requires-clause-opened : goal.make_whole-requires-clause-opened
make_whole-requires-clause-opened g c =
    opened_for (λ a. a < 65536) gf16_coding c.args.receiver.now c.args.group c.in-Ok.encoder c.requires.sound
    c.in-Ok.ensures.encoder

pub returns-in-Ok-clause-done : goal.returns-in-Ok-clause-done
returns-in-Ok-clause-done g c =
    on_ok_weaker c.make_whole.result
    (λ done. completion_shown (way_of c.args.to) c.args.receiver.now c.args.group c.in-Ok.encoder
    c.make_whole.new.receiver (routes g.P.Place g.K.Link c.args.place.now c.args.link.now)
    (routes g.P.Place g.K.Link c.make_whole.new.place c.make_whole.new.link)
    c.in-Ok.ensures.ok c.in-Ok.ensures.encoder done) c.make_whole.ensures.done

pub returns-in-Ok-clause-stopped : goal.returns-in-Ok-clause-stopped
returns-in-Ok-clause-stopped g c =
    IfErr-weaker c.make_whole.result _ _
    (λ s stops. stops_shown (way_of c.args.to) c.args.receiver.now c.args.group c.in-Ok.encoder
    (routes g.P.Place g.K.Link c.args.place.now c.args.link.now)
    (routes g.P.Place g.K.Link c.make_whole.new.place c.make_whole.new.link) s
    c.in-Ok.ensures.ok c.in-Ok.ensures.encoder stops) c.make_whole.ensures.stopped

pub returns-in-Err-clause-done : goal.returns-in-Err-clause-done
returns-in-Err-clause-done g c =
    on_ok_weaker c.not_whole.result
    (λ other. completion_hidden (way_of c.args.to) c.args.receiver.now c.args.group c.in-Err.fault
    (routes g.P.Place g.K.Link c.args.place.now c.args.link.now) (c.in-Err.ensures.refused other))
    c.not_whole.ensures.other

pub returns-in-Err-clause-stopped : goal.returns-in-Err-clause-stopped
returns-in-Err-clause-stopped g c =
    let way = way_of c.args.to in
    let r = routes g.P.Place g.K.Link c.args.place.now c.args.link.now in
    IfErr-weaker c.not_whole.result _ _
    (λ e is. subst (StopsCompletion way c.args.receiver.now c.args.group r r) (sym is)
    (tt, inl (part_nothing way [] r r refl refl))) c.not_whole.ensures.memory
