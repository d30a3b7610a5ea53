use Rattle.std.proofs.Common.{refl}
use Rattle.pet_field.proofs.Order.{logarithm}
use Rattle.pet_field.proofs.tables.Gf16Tables.meaning.Goals as goal

pub returns-clause-powers : goal.returns-clause-powers
returns-clause-powers c = logarithm 65535 refl
