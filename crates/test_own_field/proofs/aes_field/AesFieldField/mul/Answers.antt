use Rattle.std.proofs.Common.{rules}
use Rattle.test_own_field.specs.laws.AesLaws.{aes_modulus}
use Rattle.field_elements.specs.laws.ResidueLaws.{is_times}
use Rattle.test_own_field.proofs.aes_field.AesFieldField.mul.Goals as goal

pub returns-clause-product : goal.returns-clause-product
returns-clause-product g c =
    is_times 8 0x11B aes_modulus.some aes_modulus.degree c.args.a c.args.b c.multiply_modulo.result c.requires.first
    c.requires.second (rw (c.from.ensures, c.from-2.ensures) at c.multiply_modulo.ensures)

pub returns-clause-cost : goal.returns-clause-cost
returns-clause-cost g c = search rules
