use Rattle.std.proofs.Common.{rules}
use Rattle.outside_routes.proofs.address.is_number_from.Goals as goal

pub returns-in-Some : goal.returns-in-Some
returns-in-Some c = search rules
