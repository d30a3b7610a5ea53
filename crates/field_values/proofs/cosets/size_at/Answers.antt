use Rattle.std.proofs.Common.{◌^◌, ◌≤◌, arith}
use Rattle.std.proofs.Math.Pow.{pow_mono}
use Rattle.field_values.proofs.cosets.size_at.Goals as goal

pub returns-clause-bounds : goal.returns-clause-bounds
returns-clause-bounds c =
    let few : 2 ^ c.args.level ≤ 2 ^ 12 = pow_mono {i = c.args.level} {j = 12} c.requires in
    omega (arith, few)
