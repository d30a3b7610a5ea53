use Rattle.command_plan.specs.laws.CheckLaws.{checks_session}
use Rattle.command_plan.proofs.checking.check.Goals as goal

pub returns-in-Ok-clause-completes : goal.returns-in-Ok-clause-completes
returns-in-Ok-clause-completes g c =
    checks_session c.args.stream.now c.args.priority.now c.args.plan.now _ _ _ c.in-Ok.ensures.groups

pub returns-in-Err-clause-completes : goal.returns-in-Err-clause-completes
returns-in-Err-clause-completes g c =
    checks_session c.args.stream.now c.args.priority.now c.args.plan.now _ _ _ c.in-Err.ensures.cause
