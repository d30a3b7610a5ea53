use Rattle.std.proofs.Common.{rules}
use Rattle.field_elements.specs.laws.Gf16Laws.{gf16_modulus}
use Rattle.field_elements.specs.laws.ResidueLaws.{multiplies}
use Rattle.field_elements.proofs.gf16.Gf16PlainField.mul.Goals as goal

pub returns-clause-product : goal.returns-clause-product
returns-clause-product g c =
    multiplies gf16_modulus c.from.ensures c.from-2.ensures c.requires.first c.requires.second c.multiply_modulo.ensures

pub returns-clause-cost : goal.returns-clause-cost
returns-clause-cost g c = search rules
