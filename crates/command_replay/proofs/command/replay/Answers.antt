use Rattle.command_replay.specs.laws.ReplayLaws.{replays_session}
use Rattle.command_replay.proofs.command.replay.Goals as goal

pub returns-in-Ok-clause-completes : goal.returns-in-Ok-clause-completes
returns-in-Ok-clause-completes g c =
    let is = c.in-Ok.ensures.text in
    replays_session c.args.stream.now c.args.priority.now c.args.script.now _ _ _ (is.files, is.events, is.read, is.is)

pub returns-in-Err-clause-completes : goal.returns-in-Err-clause-completes
returns-in-Err-clause-completes g c =
    replays_session c.args.stream.now c.args.priority.now c.args.script.now _ _ _ c.in-Err.ensures.cause
