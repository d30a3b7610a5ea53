use Rattle.std.proofs.Common.{rules}
use Rattle.command_receive.proofs.command.stopped.Goals as goal

pub returns-in-Link : goal.returns-in-Link
returns-in-Link c = search rules
