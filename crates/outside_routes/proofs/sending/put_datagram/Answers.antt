use Rattle.std.proofs.Common.{[], ◌∷◌, refl, rules}
use Rattle.pet_base.specs.laws.Through.{on_any_err}
use Rattle.outside_routes.specs.Sending.{routes}
use Rattle.outside_routes.specs.Way.{way_of}
use Rattle.outside_routes.specs.laws.SendingLaws.{part_nothing}
use Rattle.outside_routes.proofs.sending.put_datagram.Goals as goal

pub returns-in_err-write_entry-clause-part : goal.returns-in_err-write_entry-clause-part
returns-in_err-write_entry-clause-part g c =
    let r = routes g.P.Place g.K.Link c.args.place.now c.args.link.now in
    on_any_err c.from_residual.result (part_nothing (way_of c.args.to) (c.args.datagram.now ∷ []) r r refl refl)

-- a mistake in the body is refused here, without a search for an answer to offer
pub returns-clause-sends : goal.returns-clause-sends
returns-clause-sends g c = search rules
