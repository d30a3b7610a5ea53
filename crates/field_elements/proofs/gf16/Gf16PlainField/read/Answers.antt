use Rattle.std.proofs.Common.{rules}
use Rattle.field_elements.proofs.gf16.Gf16PlainField.read.Goals as goal

pub returns-clause-value : goal.returns-clause-value
returns-clause-value c = search rules
