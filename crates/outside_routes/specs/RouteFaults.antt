-- Which cause each failure has on a way. This project's own.
use Rattle.std.specs.Prelude.{◌≡◌, Bool, true, false, Option, None, Some}
use Rattle.pet_base.specs.Causes.{Blames}
use Rattle.pet_base.specs.declared.faults.Stop.{Stop}
use Rattle.pet_base.specs.declared.faults.Stop.TheVariants as place
use Rattle.pet_base.specs.declared.place.Side.TheVariants.{Read}
use Rattle.pet_base.specs.declared.link.LinkSide.TheVariants.{Bound, Aimed}
use Rattle.pet_base.specs.Seen.{Seen, HadFault}
use Rattle.pet_base.specs.LinkSeen.{LinkSeen, HadFault as HadLinkFault}
use Rattle.outside_routes.specs.Way.{Way, OnFile, OnLink}
use Rattle.outside_routes.specs.declared.fault.RouteFailed.{RouteFailed}
use Rattle.outside_routes.specs.declared.fault.RouteFailed.TheVariants as failed
use Rattle.outside_routes.specs.declared.fault.RouteStop.{RouteStop}
use Rattle.outside_routes.specs.declared.fault.RouteStop.TheVariants as stop

-- a failure is one of the place or of the link, each by its cause
abbrev pub IsFailure : Type 0 → Type 0 → RouteFailed → Type 0
IsFailure of_place of_link failed.Place = of_place
IsFailure of_place of_link failed.Link = of_link

-- of which object it is
abbrev pub of_place : RouteFailed → Bool
of_place failed.Place = true
of_place failed.Link = false

abbrev pub of_link : RouteFailed → Bool
of_link failed.Place = false
of_link failed.Link = true

-- when each stop comes: want of memory at any time, the others where a call of that object failed
abbrev pub IsStop : Type 0 → Type 0 → Type 0 → RouteStop → Type 0
IsStop of_place of_link of_out stop.NoMemory = Unit {0}
IsStop of_place of_link of_out stop.Place = of_place
IsStop of_place of_link of_out stop.Link = of_link
IsStop of_place of_link of_out stop.Out = of_out

abbrev pub stop_of_a_place : RouteStop → Bool
stop_of_a_place stop.NoMemory = false
stop_of_a_place stop.Place = true
stop_of_a_place stop.Link = false
stop_of_a_place stop.Out = false

abbrev pub stop_of_a_link : RouteStop → Bool
stop_of_a_link stop.NoMemory = false
stop_of_a_link stop.Place = false
stop_of_a_link stop.Link = true
stop_of_a_link stop.Out = false

-- whether a status tells of a failed call of this object, where this is the call that it tells of, if it tells of any
abbrev pub tells_of : (RouteStop → Bool) → Option RouteStop → Bool
tells_of of_object None = false
tells_of of_object (Some failed) = of_object failed

-- the stop that a place's is, and that a failure is
abbrev pub stop_of_place : Stop → RouteStop
stop_of_place place.NoMemory = stop.NoMemory
stop_of_place place.Failed = stop.Place

abbrev pub stop_of_route : RouteFailed → RouteStop
stop_of_route failed.Place = stop.Place
stop_of_route failed.Link = stop.Link

-- the place had a fault at its input, where it is told at which; nothing is read of a place where the link receives
abbrev pub InputFailed : Way → Seen → Seen → Type 0
InputFailed (OnFile name) old new = HadFault old new (Blames Read old.source)
InputFailed (OnLink address) old new = ⊥

-- the link had a fault at the address that it receives at, where it is told at which
abbrev pub ReceivingFailed : Way → LinkSeen → LinkSeen → Type 0
ReceivingFailed (OnFile name) old new = ⊥
ReceivingFailed (OnLink address) old new = HadLinkFault old new (Blames Bound old.bound)

-- the link had a fault at this address, at which it receives; of a file no link has one
abbrev pub BoundFailed : Way → LinkSeen → LinkSeen → Type 0
BoundFailed (OnFile name) old new = ⊥
BoundFailed (OnLink address) old new = HadLinkFault old new (λ b. b ≡ (Bound, address))

-- or at this address, to which it sends
abbrev pub AimedFailed : Way → LinkSeen → LinkSeen → Type 0
AimedFailed (OnFile name) old new = ⊥
AimedFailed (OnLink address) old new = HadLinkFault old new (λ b. b ≡ (Aimed, address))
