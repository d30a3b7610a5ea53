-- Which answers tell that a call of the outside failed, and what a whole call then leaves. This project's own.
use Rattle.std.specs.Prelude.{Bool, true, false}
use Rattle.pet_base.specs.declared.faults.Stop.{Stop}
use Rattle.pet_base.specs.declared.faults.Stop.TheVariants.{NoMemory, Failed}
use Rattle.pet_base.specs.Seen.{PlaceStops}
use Rattle.pet_base.specs.LinkSeen.{LinkStops}
use Rattle.pet_base.specs.OutsideSeen.{OutsideSeen}

-- of a place
abbrev pub has_failed : Stop → Bool
has_failed NoMemory = false
has_failed Failed = true

-- The first failure of the place or of the link ends it: none failed, or one call of the one that is told did, and
-- behind it none
-- of that object was made.
pub record EndsAtOnce (of_place of_link : Bool) (before after : OutsideSeen) : Type 0 where
  pub place : PlaceStops of_place before.place after.place
  pub link : LinkStops of_link before.link after.link
