use Rattle.std.proofs.Common.{◌<◌, [], refl, sym, subst, inl}
use Rattle.std.proofs.lemmas.Result.{IfOk-weaker, IfErr-weaker}
use Rattle.outside_routes.specs.Sending.{routes}
use Rattle.outside_routes.specs.Way.{way_of}
use Rattle.outside_routes.specs.laws.SendingLaws.{part_nothing}
use Rattle.field_elements.specs.Gf16.{gf16_coding}
use Rattle.pet_repair.specs.inside.Groups.{StopsAtGroup}
use Rattle.pet_repair.specs.laws.RepairLaws.{opened_for}
use Rattle.pet_repair.proofs.SentGroups.{sends_whole, sends_none, stops_whole}
use Rattle.pet_repair.proofs.repairing.repair_group.Goals as goal

pub send_whole-requires-clause-opened : goal.send_whole-requires-clause-opened
send_whole-requires-clause-opened g c =
    opened_for (λ a. a < 65536) gf16_coding c.args.receiver.now c.args.group c.in-Ok.encoder c.requires.sound
    c.in-Ok.ensures.encoder

pub returns-in-Ok-clause-done : goal.returns-in-Ok-clause-done
returns-in-Ok-clause-done g c =
    IfOk-weaker c.send_whole.result _ _
    (λ n done. sends_whole (way_of c.args.to) c.args.receiver.now c.args.group c.in-Ok.encoder n
    (routes g.P.Place g.K.Link c.args.place.now c.args.link.now)
    (routes g.P.Place g.K.Link c.send_whole.new.place c.send_whole.new.link)
    c.in-Ok.ensures.ok c.in-Ok.ensures.encoder done) c.send_whole.ensures.done

pub returns-in-Ok-clause-stop : goal.returns-in-Ok-clause-stop
returns-in-Ok-clause-stop g c =
    IfErr-weaker c.send_whole.result _ _
    (λ e stops. stops_whole (way_of c.args.to) c.args.receiver.now c.args.group c.in-Ok.encoder
    (routes g.P.Place g.K.Link c.args.place.now c.args.link.now)
    (routes g.P.Place g.K.Link c.send_whole.new.place c.send_whole.new.link) e
    c.in-Ok.ensures.ok c.in-Ok.ensures.encoder stops) c.send_whole.ensures.stop

pub returns-in-Err-clause-done : goal.returns-in-Err-clause-done
returns-in-Err-clause-done g c =
    IfOk-weaker c.nothing_of.result _ _
    (λ n none. sends_none (way_of c.args.to) c.args.receiver.now c.args.group n c.in-Err.fault
    (routes g.P.Place g.K.Link c.args.place.now c.args.link.now) none.0 none.1
    (c.in-Err.ensures.refused none.2)) c.nothing_of.ensures.none

pub returns-in-Err-clause-stop : goal.returns-in-Err-clause-stop
returns-in-Err-clause-stop g c =
    let way = way_of c.args.to in
    let r = routes g.P.Place g.K.Link c.args.place.now c.args.link.now in
    IfErr-weaker c.nothing_of.result _ _
    (λ e is. subst (StopsAtGroup way c.args.receiver.now c.args.group r r) (sym is)
    (inl (part_nothing way [] r r refl refl))) c.nothing_of.ensures.memory
