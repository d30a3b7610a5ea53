use Rattle.std.proofs.Common.{rules}
use Rattle.outside_routes.specs.Way.{way_at}
use Rattle.pet_byte.specs.laws.BytesLaws.{completes_bytes}
use Rattle.pet_byte.proofs.breceive.breceive_loop.Goals as goal

pub returns-clause-receives : goal.returns-clause-receives
returns-clause-receives g c = search rules

pub returns-clause-completes : goal.returns-clause-completes
returns-clause-completes g c =
    completes_bytes (way_at c.args.from_udp c.args.from.now) c.args.session c.args.layers.now _ _ c.breceive.result
    (returns-clause-receives g c)
