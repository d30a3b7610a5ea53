use Rattle.std.proofs.Common.{rules}
use Rattle.test_own_field.proofs.aes_field.AesFieldField.point.Goals as goal

pub returns : goal.returns
returns c = search rules
