use Rattle.std.proofs.Common.{arith}
use Rattle.field_transform.proofs.element.inverse_at.Goals as goal

pub returns-clause-element : goal.returns-clause-element
returns-clause-element g c =
    rw c.inverse_of.ensures (g.met.F.Subspaces.subspaces.constants.inverse_is c.args.level (omega (arith, c.requires)))
