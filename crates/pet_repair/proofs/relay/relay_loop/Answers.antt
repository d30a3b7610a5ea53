use Rattle.outside_routes.specs.Way.{way_of}
use Rattle.pet_repair.specs.SentTo.{way_at}
use Rattle.pet_repair.specs.laws.SessionRelayed.{completes_relay}
use Rattle.pet_repair.proofs.RelayBegun.{relays_at}
use Rattle.pet_repair.proofs.relay.relay_loop.Goals as goal

pub returns-clause-relays : goal.returns-clause-relays
returns-clause-relays g c =
    relays_at (way_of c.route_at-from.result) (way_at c.args.from_udp c.args.from.now) (way_of c.route_at-to.result)
    (way_at c.args.to_udp c.args.to.now) c.args.session _ _ c.relay_between.result c.route_at-from.ensures
    c.route_at-to.ensures c.relay_between.ensures.relays

pub returns-clause-completes : goal.returns-clause-completes
returns-clause-completes g c =
    completes_relay (way_at c.args.from_udp c.args.from.now) c.args.session (way_at c.args.to_udp c.args.to.now) _ _
    c.relay_between.result
    (relays_at (way_of c.route_at-from.result) (way_at c.args.from_udp c.args.from.now) (way_of c.route_at-to.result)
    (way_at c.args.to_udp c.args.to.now) c.args.session _ _ c.relay_between.result c.route_at-from.ensures
    c.route_at-to.ensures c.relay_between.ensures.relays)
