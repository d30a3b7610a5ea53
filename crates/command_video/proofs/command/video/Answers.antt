use Rattle.command_video.specs.laws.SessionVideo.{completes_video}
use Rattle.command_video.proofs.command.video.Goals as goal

pub returns-in-Ok-clause-completes : goal.returns-in-Ok-clause-completes
returns-in-Ok-clause-completes g c = completes_video c.args.store.now c.args.out.now _ _ _ c.in-Ok.ensures.done

pub returns-in-Err-clause-completes : goal.returns-in-Err-clause-completes
returns-in-Err-clause-completes g c =
    completes_video c.args.store.now c.args.out.now _ _ c.in-Err.end c.in-Err.ensures.cause
