use Rattle.std.proofs.Common.{rules}
use Rattle.test_own_field.specs.laws.OwnLaws.{own_modulus}
use Rattle.field_elements.specs.laws.ResidueLaws.{multiplies}
use Rattle.test_own_field.proofs.own_field.OwnFieldField.mul.Goals as goal

pub returns-clause-product : goal.returns-clause-product
returns-clause-product g c =
    multiplies own_modulus c.from.ensures c.from-2.ensures c.requires.first c.requires.second c.multiply_modulo.ensures

pub returns-clause-cost : goal.returns-clause-cost
returns-clause-cost g c = search rules
