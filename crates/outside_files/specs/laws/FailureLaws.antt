-- Laws of calls that end at the first failure, for the proofs of callers.
use Rattle.std.proofs.Common.{◌≡◌, Bool, true, false, ap, ◌∙◌}
use Rattle.std.specs.Prelude.{Result, Ok, Err, IfErr, OnOk}
use Rattle.pet_base.specs.Causes.{one_more, stops}
use Rattle.pet_base.specs.Seen.{Seen, PlaceStops}

-- what came behind calls of which none failed
pub stops_since : (failed : Bool) (old mid new : Seen) → mid.faults ≡ old.faults → PlaceStops failed mid new
    → PlaceStops failed old new
stops_since false old mid new calm once = once ∙ calm
stops_since true old mid new calm once = (once.0 ∙ ap one_more calm, once.1)

-- at an error, and where there is none
pub stops_err : {T E : Type 0} (tells : E → Bool) (result : Result T E) (old new : Seen)
    → PlaceStops (stops tells result) old new → IfErr result (λ e. PlaceStops (tells e) old new)
stops_err tells (Ok x) old new once = tt
stops_err tells (Err e) old new once = once

pub stops_ok : {T E : Type 0} (tells : E → Bool) (result : Result T E) (old new : Seen)
    → PlaceStops (stops tells result) old new → OnOk result (new.faults ≡ old.faults)
stops_ok tells (Ok x) old new once = once
stops_ok tells (Err e) old new once = tt

-- a whole answer, by its error
pub stops_is : {T E : Type 0} (tells : E → Bool) (result : Result T E) (old new : Seen) → new.faults ≡ old.faults
    → IfErr result (λ e. PlaceStops (tells e) old new) → PlaceStops (stops tells result) old new
stops_is tells (Ok x) old new calm once = calm
stops_is tells (Err e) old new calm once = once
