use Rattle.test_own_field.specs.laws.AesLaws.{aes_is_binary}
use Rattle.test_own_field.proofs.aes_field.AesField.meaning.Goals as goal

pub returns-clause-field : goal.returns-clause-field
returns-clause-field c = aes_is_binary
