use Rattle.field_elements.specs.laws.Gf16Laws.{gf16_modulus, gf16_irreducible}
use Rattle.field_elements.specs.laws.ResidueLaws.{inverts}
use Rattle.field_elements.proofs.gf16.Gf16PlainField.inv.Goals as goal

pub invert_modulo-requires-clause-irreducible : goal.invert_modulo-requires-clause-irreducible
invert_modulo-requires-clause-irreducible g c = gf16_irreducible

pub returns-clause-inverse : goal.returns-clause-inverse
returns-clause-inverse g c =
    inverts gf16_modulus c.from.ensures c.requires.element c.invert_modulo.ensures.below c.invert_modulo.ensures.inverse
