use Rattle.gf8.specs.laws.Gf8Laws.{gf8_modulus, gf8_irreducible}
use Rattle.field_elements.specs.laws.ResidueLaws.{inverts}
use Rattle.gf8.proofs.plain.Gf8PlainField.inv.Goals as goal

pub invert_modulo-requires-clause-irreducible : goal.invert_modulo-requires-clause-irreducible
invert_modulo-requires-clause-irreducible g c = gf8_irreducible

pub returns-clause-inverse : goal.returns-clause-inverse
returns-clause-inverse g c =
    inverts gf8_modulus c.from.ensures c.requires.element c.invert_modulo.ensures.below c.invert_modulo.ensures.inverse
