use Rattle.command_send.proofs.FirstPass.{as_many, plan_tables}
use Rattle.command_send.proofs.SessionRead.{session_read}
use Rattle.session_source.specs.laws.SourceLaws.{source_few}
use Rattle.command_send.proofs.session.read_first.Goals as goal

pub returns-clause-read : goal.returns-clause-read
returns-clause-read g c =
    session_read c.args.format (g.P.Place.seen c.args.place.now) c.args.stream.now c.args.priority.now
    c.in_ok-found.found.source c.in_ok-found.found.marks.items c.in_ok-found.ensures.source

pub invariant_of-result-clause-as_many : goal.invariant_of-result-clause-as_many
invariant_of-result-clause-as_many g c =
    as_many c.args.format (g.P.Place.seen c.args.place.now).files c.args.stream.now c.args.priority.now
    c.in_ok-found.found.source c.in_ok-found.found.marks.items c.in_ok-found.ensures.source.0
    c.in_ok-found.ensures.source.1

pub invariant_of-result-clause-few : goal.invariant_of-result-clause-few
invariant_of-result-clause-few g c =
    source_few (g.P.Place.seen c.args.place.now).files c.args.stream.now c.args.priority.now
    c.in_ok-found.found.source c.in_ok-found.ensures.source.0

pub invariant_of-result-clause-planned : goal.invariant_of-result-clause-planned
invariant_of-result-clause-planned g c =
    plan_tables c.args.format c.requires (g.P.Place.seen c.args.place.now).files c.args.stream.now
    c.args.priority.now c.in_ok-found.found.source c.in_ok-found.ensures.source.0
