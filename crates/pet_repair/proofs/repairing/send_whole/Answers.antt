use Rattle.std.proofs.Common.{[], refl, sym, inl, ◌∙◌}
use Rattle.outside_routes.specs.Sending.{routes}
use Rattle.outside_routes.specs.Way.{way_of}
use Rattle.outside_routes.specs.laws.SendingLaws.{sends_nothing, part_nothing}
use Rattle.pet_repair.specs.declared.repair.RepairEnd.TheVariants as end
use Rattle.pet_repair.specs.inside.Groups.{StopsEncoded}
use Rattle.pet_repair.proofs.RepairEnds.{repair_end_is}
use Rattle.pet_repair.proofs.repairing.send_whole.Goals as goal

pub returns-in_err-number-clause-stop : goal.returns-in_err-number-clause-stop
returns-in_err-number-clause-stop g c =
    let way = way_of c.args.to in
    let r = routes g.P.Place g.K.Link c.args.place.now c.args.link.now in
    repair_end_is (StopsEncoded way c.args.receiver.now c.args.encoder.now c.args.group r r) c.from_residual.result
    end.NoMemory c.from_residual.ensures.1 (inl (part_nothing way [] r r refl refl))

pub returns-in-Some-clause-stop : goal.returns-in-Some-clause-stop
returns-in-Some-clause-stop g c =
    let r = routes g.P.Place g.K.Link c.args.place.now c.args.link.now in
    (refl, sym c.in_ok-number.ensures.least ∙ c.in-Some.is, sends_nothing (way_of c.args.to) r r refl refl)
