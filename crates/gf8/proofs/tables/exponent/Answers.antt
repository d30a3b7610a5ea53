use Rattle.std.proofs.Common.{ap, ◌∙◌, arith}
use Rattle.gf8.specs.inside.Powers.{power_of_x}
use Rattle.gf8.proofs.Powers.{exponent_is}
use Rattle.gf8.proofs.tables.exponent.Goals as goal

pub returns-clause-below : goal.returns-clause-below
returns-clause-below c =
    omega (arith, c.from.ensures, c.entry.ensures, (exponent_is c.args.a c.requires (omega arith)).0)

pub returns-clause-is : goal.returns-clause-is
returns-clause-is c =
    ap power_of_x (c.from.ensures ∙ c.entry.ensures) ∙ (exponent_is c.args.a c.requires (omega arith)).1
