use Rattle.pet_text.specs.KeepWords.{keep_words_of}
use Rattle.pet_text.specs.Words.{texts_of}
use Rattle.pet_keep.specs.laws.KeepCompleted.{completes_keep}
use Rattle.pet_keep.proofs.command.keep.Goals as goal

pub returns-clause-completes : goal.returns-clause-completes
returns-clause-completes g c =
    completes_keep (keep_words_of (texts_of c.args.words.now)) _ _ _ _ c.keep_counted.result.0
    c.keep_counted.ensures.does
