use Rattle.test_own_field.specs.laws.OwnLaws.{own_modulus, own_irreducible}
use Rattle.field_elements.specs.laws.ResidueLaws.{inverts}
use Rattle.test_own_field.proofs.own_field.OwnFieldField.inv.Goals as goal

pub invert_modulo-requires-clause-irreducible : goal.invert_modulo-requires-clause-irreducible
invert_modulo-requires-clause-irreducible g c = own_irreducible

pub returns-clause-inverse : goal.returns-clause-inverse
returns-clause-inverse g c =
    inverts own_modulus c.from.ensures c.requires.element c.invert_modulo.ensures.below c.invert_modulo.ensures.inverse
