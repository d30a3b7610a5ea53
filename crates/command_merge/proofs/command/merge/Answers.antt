use Rattle.command_merge.specs.laws.SessionMerged.{completes_merge}
use Rattle.command_merge.proofs.command.merge.Goals as goal

pub returns-in-Ok-clause-completes : goal.returns-in-Ok-clause-completes
returns-in-Ok-clause-completes g c =
    completes_merge c.args.first.now c.args.second.now c.args.out.now _ _ _ c.in-Ok.ensures.done

pub returns-in-Err-clause-completes : goal.returns-in-Err-clause-completes
returns-in-Err-clause-completes g c =
    completes_merge c.args.first.now c.args.second.now c.args.out.now _ _ c.in-Err.end c.in-Err.ensures.cause
