-- The session of what is held.
use Rattle.session_source.proofs.whole.HeldPassStreamReader.end.Goals as goal

pub returns-clause-answer : goal.returns-clause-answer
returns-clause-answer c priority file stream held =
    let plan = c.in_ok-plan.ensures.plan priority file stream held.passed in
    (plan.accepted, record { plan = plan; bytes = held.bytes })
