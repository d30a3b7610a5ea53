-- How a run tells of its end, whichever statuses it has: its line is printed, and then that of its status. This project's own.
use Rattle.std.specs.Prelude.{◌≡◌, ◌≢◌, ◌⊎◌, ℕ, List, [], Option, take}
use Rattle.std.specs.Io.KnownBytes.{append_known}
use Rattle.pet_base.specs.Causes.{one_more}
use Rattle.pet_base.specs.OutsideSeen.{OutsideSeen}
use Rattle.outside_files.specs.Printed.{Printed, PrintedFront, PrintsLine}

-- nothing but printing was done
pub record OnlyTells (before after : OutsideSeen) : Type 0 where
  pub place : after.place ≡ before.place
  pub link : after.link ≡ before.link
  pub steps : after.steps ≡ before.steps

-- the whole line was printed, and the status is that of the end
pub record PrintedWhole {S : Type 0} (line : List ℕ) (of_end : S) (before after : OutsideSeen) (status : S) : Type 0 where
  pub ended : status ≡ of_end
  pub printed : Printed line before after
  pub faults : after.out_faults ≡ before.out_faults

-- there was a line, a front of it was printed, and the status tells of a fault of the output
pub record PrintedShortBy {S : Type 0} (out_fault : S) (line : List ℕ) (before after : OutsideSeen)
    (status : S) : Type 0 where
  pub ended : status ≡ out_fault
  pub some : line ≢ []
  pub front : PrintedFront line before after
  pub faults : after.out_faults ≡ one_more before.out_faults

-- the line of the end, and then that of the status
pub record TellsBy {S : Type 0} (fault_text : S → List ℕ) (out_fault : S) (text : List ℕ) (of_end : S) (before after : OutsideSeen)
    (status : S) : Type 0 where
  pub lined : OutsideSeen
  pub only : OnlyTells before lined
  pub line : PrintedWhole text of_end before lined status ⊎ PrintedShortBy out_fault text before lined status
  pub fault : PrintsLine (fault_text status) lined after

-- No memory was found for the words: the line of that was printed, or a front of it.
pub record FindsNoMemoryBy {S : Type 0} (fault_text : S → List ℕ) (no_memory : S) (old new : Option (List ℕ))
    (status : S) : Type 0 where
  pub ended : status ≡ no_memory
  pub count : ℕ
  pub printed : new ≡ append_known old (take count (fault_text no_memory))
