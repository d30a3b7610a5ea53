use Rattle.std.proofs.Common.{arith}
use borrow.Author.Tests.{ltb-true, ltb-false}
use Rattle.pet_text.proofs.OtherWords.{none_of_few, none_of_many}
use Rattle.pet_text.proofs.words.read_command.Goals.{in_default-via-then-words-lt3}
use Rattle.pet_text.proofs.words.read_command.Goals.{in_default-via-else-words-lt3+else-words-lt4+else-words-lt5+else-words-lt6}
use Rattle.pet_text.proofs.words.read_command.Goals as goal

pub returns-in_default : goal.returns-in_default
returns-in_default c =
    elim c.in_default.branch [
      | in_default-via-then-words-lt3 w ↦ none_of_few c.args.words.now (omega (arith, ltb-true, ltb-false))
      | in_default-via-else-words-lt3+else-words-lt4+else-words-lt5+else-words-lt6 w ↦
          none_of_many c.args.words.now (omega (arith, ltb-true, ltb-false))
    ]
