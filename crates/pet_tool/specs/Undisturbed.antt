-- A run that nothing disturbs, and how it ends. This project's own.
use Rattle.std.specs.Prelude.{◌≡◌, ◌≢◌, ℕ, List, ◌++◌}
use Rattle.pet_base.specs.Seen.{Blame}
use Rattle.pet_base.specs.LinkSeen.{LinkSeen}
use Rattle.pet_base.specs.OutsideSeen.{OutsideSeen}
use Rattle.outside_files.specs.Printed.{Printed}
use Rattle.outside_files.specs.Uses.{IsWell}
use Rattle.text_status.specs.declared.status.Status.{Status}
use Rattle.text_status.specs.declared.status.Status.TheVariants.{NoMemory}
use Rattle.text_status.specs.Statuses.{fault_text}

-- memory was found, and neither the place, at one of these files, nor the output had a fault
pub record IsUndisturbed (uses : List Blame) (before after : OutsideSeen) (status : Status) : Type 0 where
  pub memory : status ≢ NoMemory
  pub well : IsWell uses before after

-- and the link had no such fault
pub record IsUndisturbedOn (failed : LinkSeen → LinkSeen → Type 0) (uses : List Blame) (before after : OutsideSeen)
    (status : Status) : Type 0 where
  pub calm : IsUndisturbed uses before after status
  pub link : failed before.link after.link → ⊥

-- the run ended with this status, and printed these lines and then that of the status
pub record EndsWith (status : Status) (lines : List ℕ) (before after : OutsideSeen) (told : Status) : Type 0 where
  pub ended : told ≡ status
  pub printed : Printed (lines ++ fault_text status) before after
