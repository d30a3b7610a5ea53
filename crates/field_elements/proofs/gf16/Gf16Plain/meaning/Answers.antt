use Rattle.field_elements.specs.laws.Gf16Laws.{gf16_is_binary}
use Rattle.field_elements.proofs.gf16.Gf16Plain.meaning.Goals as goal

pub returns-clause-field : goal.returns-clause-field
returns-clause-field c = gf16_is_binary
