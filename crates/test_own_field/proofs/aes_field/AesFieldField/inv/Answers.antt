use Rattle.std.proofs.Common.{sym}
use Rattle.test_own_field.specs.laws.AesLaws.{aes_modulus, aes_irreducible}
use Rattle.field_elements.specs.laws.ResidueLaws.{is_times}
use Rattle.test_own_field.proofs.aes_field.AesFieldField.inv.Goals as goal

pub invert_modulo-requires-clause-irreducible : goal.invert_modulo-requires-clause-irreducible
invert_modulo-requires-clause-irreducible g c = aes_irreducible

pub returns-clause-inverse : goal.returns-clause-inverse
returns-clause-inverse g c =
    sym (is_times 8 0x11B aes_modulus.some aes_modulus.degree c.args.a c.invert_modulo.result 1 c.requires.element
    c.invert_modulo.ensures.below (rw c.from.ensures at c.invert_modulo.ensures.inverse))
