use Rattle.std.proofs.Common.{rules}
use Rattle.outside_routes.proofs.sending.open_route.Goals as goal

pub returns-in-Ok-aim-clause-opened : goal.returns-in-Ok-aim-clause-opened
returns-in-Ok-aim-clause-opened g c = search rules
