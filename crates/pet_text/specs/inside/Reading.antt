-- What was read of words, by the command that they have the form of. This project's own.
use Rattle.std.specs.Prelude.{◌≡◌, ◌≢◌, Option, None, Some, Result, Ok, Err}
use Rattle.pet_text.specs.declared.words.Command.{Command}
use Rattle.pet_text.specs.declared.words.WordsFault.{WordsFault}
use Rattle.pet_text.specs.declared.words.WordsFault.TheVariants.{Usage, NoMemory}

-- the command; or there is none; or there is one, and no memory was found for its names
abbrev pub Reads : Result Command WordsFault → Option Command → Type 0
Reads (Ok command) of_words = of_words ≡ Some command
Reads (Err Usage) of_words = of_words ≡ None
Reads (Err NoMemory) of_words = of_words ≢ None
