use Rattle.std.proofs.Common.{rules}
use Rattle.field_elements.proofs.gf16.Gf16PlainField.point.Goals as goal

pub returns : goal.returns
returns c = search rules
