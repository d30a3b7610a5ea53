use Rattle.packet_receiver.proofs.joining.take_in.Goals as goal

pub join_all-requires-clause-ready : goal.join_all-requires-clause-ready
join_all-requires-clause-ready g c = c.requires.ready c.open_all.new.groups.entries c.in_ok-open_all.ensures.opened

pub returns-clause-shown : goal.returns-clause-shown
returns-clause-shown g c = c.in_ok-shown.ensures

pub returns-clause-joined : goal.returns-clause-joined
returns-clause-joined g c = (c.open_all.new.groups.entries, c.in_ok-open_all.ensures.opened, c.join_all.ensures.joined)

-- a mistake in the body is refused here, without a search for an answer to offer
pub returns-clause-err : goal.returns-clause-err
returns-clause-err g c = tt
