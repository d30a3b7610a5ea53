use Rattle.std.proofs.Common.{rules}
use Rattle.outside_routes.proofs.receiving.receive.Goals as goal

pub returns-in-Datagram-clause-datagram : goal.returns-in-Datagram-clause-datagram
returns-in-Datagram-clause-datagram g c = search rules

pub returns-in-Quiet-clause-cause : goal.returns-in-Quiet-clause-cause
returns-in-Quiet-clause-cause g c = search rules
