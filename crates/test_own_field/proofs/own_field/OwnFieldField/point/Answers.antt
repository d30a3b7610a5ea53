use Rattle.std.proofs.Common.{rules}
use Rattle.test_own_field.proofs.own_field.OwnFieldField.point.Goals as goal

pub returns : goal.returns
returns c = search rules
