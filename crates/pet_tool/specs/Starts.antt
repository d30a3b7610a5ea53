-- What the program does of its words, over the machine's files and network and over a writer. This project's own.
use Rattle.std.specs.Prelude.{◌≡◌, ◌⊎◌, ℕ, List, Option}
use Rattle.pet_base.specs.OutsideSeen.{OutsideSeen}
use Rattle.pet_ends.specs.Untold.{at_start}
use Rattle.pet_text.specs.Told.{FindsNoMemoryBy}
use Rattle.pet_text.specs.Words.{command_of}
use Rattle.text_status.specs.Statuses.{fault_text}
use Rattle.text_status.specs.declared.status.Status.{Status}
use Rattle.text_status.specs.declared.status.Status.TheVariants.{NoMemory}
use Rattle.pet_tool.specs.Commands.{Does, Completes}

-- The command of the words was run, and the writer holds what was printed of it.
pub record Starts (words : List (List ℕ)) (old new : Option (List ℕ)) (status : Status) : Type 0 where
  pub after : OutsideSeen
  pub held : after.written ≡ new
  pub does : Does (command_of words) (at_start old) after status
  pub completes : Completes (command_of words) (at_start old) after status

-- No memory was found for the words: the line of that was printed, or a front of it.
abbrev pub FindsNoMemory : Option (List ℕ) → Option (List ℕ) → Status → Type 0
FindsNoMemory old new status = FindsNoMemoryBy fault_text NoMemory old new status

-- some words were run, as the machine gave them, or no memory was found for them
abbrev pub StartsWords : Option (List ℕ) → Option (List ℕ) → Status → Type 0
StartsWords old new status =
    ((words : List (List ℕ)) × Starts words old new status) ⊎ FindsNoMemory old new status
