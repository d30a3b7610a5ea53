use Rattle.std.proofs.Common.{rules}
use Rattle.gf8.specs.laws.Gf8Laws.{gf8_modulus}
use Rattle.field_elements.specs.laws.ResidueLaws.{multiplies}
use Rattle.gf8.proofs.plain.Gf8PlainField.mul.Goals as goal

pub returns-clause-product : goal.returns-clause-product
returns-clause-product g c =
    multiplies gf8_modulus c.from.ensures c.from-2.ensures c.requires.first c.requires.second c.multiply_modulo.ensures

pub returns-clause-cost : goal.returns-clause-cost
returns-clause-cost g c = search rules
