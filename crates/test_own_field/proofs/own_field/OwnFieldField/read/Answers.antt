use Rattle.std.proofs.Common.{rules}
use Rattle.test_own_field.proofs.own_field.OwnFieldField.read.Goals as goal

pub returns-clause-value : goal.returns-clause-value
returns-clause-value c = search rules
