-- What the program `pet-keep` does of its words, over the machine's files and network and over a writer. This project's
-- own.
use Rattle.std.specs.Prelude.{ℕ, ◌≡◌, ◌⊎◌, List, [], ◌∷◌, Option}
use Rattle.outside_disk.specs.Disk.{Untold}
use Rattle.pet_base.specs.OutsideSeen.{OutsideSeen}
use Rattle.pet_ends.specs.Untold.{at_start}
use Rattle.pet_text.specs.Told.{FindsNoMemoryBy}
use Rattle.pet_text.specs.KeepWords.{keep_words_of}
use Rattle.pet_keep.specs.Journaled.{DiskNow}
use Rattle.pet_keep.specs.Runs.{DoesKeep}
use Rattle.pet_keep.specs.Statuses.{fault_text}
use Rattle.pet_keep.specs.declared.status.KeepStatus.{KeepStatus}
use Rattle.pet_keep.specs.declared.status.KeepStatus.TheVariants.{NoMemory}

-- the third word, or the empty text
abbrev pub journal_word : List (List ℕ) → List ℕ
journal_word (from ∷ session ∷ journal ∷ more) = journal
journal_word _ = []

-- A disk of which nothing is told but how often it failed.
abbrev pub untold_disk : ℕ → DiskNow
untold_disk faults = record { seen = Untold; faults = faults }

-- The words were run, and the writer holds what was printed of it.
pub record StartsKeep (words : List (List ℕ)) (old new : Option (List ℕ)) (status : KeepStatus) : Type 0 where
  pub after : OutsideSeen
  pub faults : ℕ
  pub held : after.written ≡ new
  pub does : DoesKeep (keep_words_of words) (at_start old) after (untold_disk 0) (untold_disk faults) status

-- No memory was found for the words: the line of that was printed, or a front of it.
abbrev pub FindsNoMemory : Option (List ℕ) → Option (List ℕ) → KeepStatus → Type 0
FindsNoMemory old new status = FindsNoMemoryBy fault_text NoMemory old new status

-- some words were run, as the machine gave them, or no memory was found for them
abbrev pub StartsWords : Option (List ℕ) → Option (List ℕ) → KeepStatus → Type 0
StartsWords old new status =
    ((words : List (List ℕ)) × StartsKeep words old new status) ⊎ FindsNoMemory old new status
