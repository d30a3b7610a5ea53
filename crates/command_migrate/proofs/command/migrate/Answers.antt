use Rattle.command_migrate.specs.laws.SessionMigrated.{completes_migrate}
use Rattle.command_migrate.proofs.command.migrate.Goals as goal

pub returns-in-Ok-clause-completes : goal.returns-in-Ok-clause-completes
returns-in-Ok-clause-completes g c = completes_migrate c.args.store.now c.args.out.now _ _ _ c.in-Ok.ensures.done

pub returns-in-Err-clause-completes : goal.returns-in-Err-clause-completes
returns-in-Err-clause-completes g c =
    completes_migrate c.args.store.now c.args.out.now _ _ c.in-Err.end c.in-Err.ensures.cause
