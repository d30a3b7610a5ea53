use Rattle.std.proofs.Common.{rules}
use Rattle.text_status.proofs.status.Status.code.Goals as goal

pub returns-in-LinkFault : goal.returns-in-LinkFault
returns-in-LinkFault c = search rules
