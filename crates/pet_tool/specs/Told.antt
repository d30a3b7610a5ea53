-- How a run tells of its end, by the statuses of `pet`. This project's own.
use Rattle.std.specs.Prelude.{ℕ, List}
use Rattle.pet_base.specs.OutsideSeen.{OutsideSeen}
use Rattle.pet_text.specs.Told.{PrintedShortBy, TellsBy}
use Rattle.text_status.specs.declared.status.Status.{Status}
use Rattle.text_status.specs.declared.status.Status.TheVariants.{OutFault}
use Rattle.text_status.specs.Statuses.{fault_text}

-- there was a line, a front of it was printed, and the status is OutFault
abbrev pub PrintedShort : List ℕ → OutsideSeen → OutsideSeen → Status → Type 0
PrintedShort line before after status = PrintedShortBy OutFault line before after status

-- the line of the end, and then that of the status
abbrev pub Tells : List ℕ → Status → OutsideSeen → OutsideSeen → Status → Type 0
Tells text of_end before after status = TellsBy fault_text OutFault text of_end before after status
