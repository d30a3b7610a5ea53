use Rattle.test_own_field.specs.laws.OwnLaws.{own_is_binary}
use Rattle.test_own_field.proofs.own_field.OwnField.meaning.Goals as goal

pub returns-clause-field : goal.returns-clause-field
returns-clause-field c = own_is_binary
