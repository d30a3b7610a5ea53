use Rattle.std.proofs.Common.{◌-◌, length, refl}
use Rattle.outside_routes.proofs.Colons.{cut_found}
use Rattle.outside_routes.proofs.address.cut.Goals as goal

pub returns-then-bytes-at-eq58 : goal.returns-then-bytes-at-eq58
returns-then-bytes-at-eq58 c =
    cut_found c.args.bytes.now c.loop-back.back
    (length c.args.bytes.now - 1 - c.loop-back.back) refl c.loop-back-test.true c.if-bytes-at-eq58.true
    c.loop-back.invariant
