use Rattle.std.proofs.Common.{arith, sym}
use borrow.Author.Tests.{ltb-true, ltb-false}
use Rattle.pet_text.proofs.OtherWords.{not_keep_of_few, not_keep_of_many}
use Rattle.pet_text.proofs.keep_words.keep_form.Goals.{in_default-via-then-words-lt4}
use Rattle.pet_text.proofs.keep_words.keep_form.Goals.{in_default-via-else-words-lt4+else-words-lt5}
use Rattle.pet_text.proofs.keep_words.keep_form.Goals as goal

pub returns-in_default : goal.returns-in_default
returns-in_default c =
    elim c.in_default.branch [
      | in_default-via-then-words-lt4 w ↦ sym (not_keep_of_few c.args.words.now (omega (arith, ltb-true, ltb-false)))
      | in_default-via-else-words-lt4+else-words-lt5 w ↦ sym
          (not_keep_of_many c.args.words.now (omega (arith, ltb-true, ltb-false)))
    ]
