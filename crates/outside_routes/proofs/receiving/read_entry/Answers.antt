use Rattle.outside_routes.specs.laws.ComingLaws.{entry_answers}
use Rattle.outside_routes.proofs.receiving.read_entry.Goals as goal

pub returns-clause-datagram : goal.returns-clause-datagram
returns-clause-datagram g c =
    entry_answers c.next_entry.result c.next_entry.new.into (g.P.Place.seen c.args.place.now).rest
    (g.P.Place.seen c.next_entry.new.place).rest c.next_entry.ensures.entry
