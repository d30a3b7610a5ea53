-- What stands in the receiver and in the journal while datagrams are handed to a keeper. This project's own. No list of
-- datagrams is stored.
use Rattle.std.specs.Prelude.{ℕ, ◌≡◌, ◌≢◌, ◌<◌, ◌≤◌, Bool, List, [], length, Option, IfSome}
use Rattle.outside_disk.specs.Disk.{DiskSeen, IfTold}
use Rattle.outside_routes.specs.Coming.{HaveCome, HaveComeUntil}
use Rattle.outside_routes.specs.Way.{Way}
use Rattle.packet_reading.specs.declared.reading.Totals.{Totals}
use Rattle.packet_verdicts.specs.KeptSet.{KeptSet, kept_in_all}
use Rattle.pet_receive.specs.ShownBytes.{IsComplete, shown_in_all}
use Rattle.packet_verdicts.specs.Verdicts.{after_all}
use Rattle.pet_base.specs.LinkSeen.{LinkSeen}
use Rattle.pet_base.specs.Seen.{Seen}
use Rattle.pet_base.specs.declared.limits.TheConstants.{MAX_DATAGRAMS}
use Rattle.store_keeper.specs.Journal.{StandsFor}
use Rattle.store_keeper.specs.Keeper.{EachNow}
use Rattle.store_journal.specs.declared.fault.KeepFault.{KeepFault}
use Rattle.store_journal.specs.declared.fault.KeepFault.TheVariants as keep
use Rattle.store_journal.specs.declared.fault.StartFault.{StartFault}
use Rattle.store_journal.specs.declared.fault.StartFault.TheVariants as start
use Rattle.outside_routes.specs.declared.fault.RouteFailed.{RouteFailed}
use Rattle.outside_routes.specs.declared.fault.RouteFailed.TheVariants as failed
use Rattle.outside_routes.specs.declared.fault.RouteStop.{RouteStop}
use Rattle.outside_routes.specs.declared.fault.RouteStop.TheVariants as route
use Rattle.pet_base.specs.declared.faults.Stop.{Stop}
use Rattle.pet_base.specs.declared.faults.Stop.TheVariants as place
use Rattle.pet_keep.specs.Journaled.{AreFirst}
use Rattle.pet_keep.specs.Statuses.{failures_of, status_of}
use Rattle.pet_keep.specs.declared.end.KeepEnd.{KeepEnd}
use Rattle.pet_keep.specs.declared.end.KeepEnd.TheVariants as end
use Rattle.pet_keep.specs.declared.stop.KeepStop.{KeepStop}
use Rattle.pet_keep.specs.declared.stop.KeepStop.TheVariants as stop

-- the stop that each failure is, and the end that it makes
abbrev pub of_route : RouteStop → KeepStop
of_route route.NoMemory = stop.NoMemory
of_route route.Place = stop.Place
of_route route.Link = stop.Link
of_route route.Out = stop.Out

abbrev pub of_failed : RouteFailed → KeepStop
of_failed failed.Place = stop.Place
of_failed failed.Link = stop.Link

abbrev pub of_stop : Stop → KeepStop
of_stop place.NoMemory = stop.NoMemory
of_stop place.Failed = stop.Place

abbrev pub of_fault : KeepFault → KeepStop
of_fault keep.Stopped = stop.Disk
of_fault keep.NoMemory = stop.NoMemory
of_fault keep.DiskFault = stop.Disk

abbrev pub end_of : KeepStop → KeepEnd
end_of stop.NoMemory = end.NoMemory
end_of stop.Place = end.PlaceFault
end_of stop.Link = end.LinkFault
end_of stop.Out = end.OutFault
end_of stop.Disk = end.DiskFault

-- when each stop comes: want of memory at any time, the others where a call of that object failed
abbrev pub IsKeepStop : Type 0 → Type 0 → Type 0 → Type 0 → KeepStop → Type 0
IsKeepStop of_place of_link of_out of_disk stop.NoMemory = Unit {0}
IsKeepStop of_place of_link of_out of_disk stop.Place = of_place
IsKeepStop of_place of_link of_out of_disk stop.Link = of_link
IsKeepStop of_place of_link of_out of_disk stop.Out = of_out
IsKeepStop of_place of_link of_out of_disk stop.Disk = of_disk

-- a stop tells of the failure that its end's status tells of
abbrev pub of_a_place : KeepStop → Bool
of_a_place s = (failures_of (status_of (end_of s))).0

abbrev pub of_a_link : KeepStop → Bool
of_a_link s = (failures_of (status_of (end_of s))).1

abbrev pub of_an_output : KeepStop → Bool
of_an_output s = (failures_of (status_of (end_of s))).2

-- whatever a crash leaves now stands for the set
abbrev pub AllStand : KeptSet → DiskSeen → Type 0
AllStand set disk = IfTold disk (EachNow (StandsFor set))

-- the text stands for the set with the first of these datagrams handed to it
abbrev pub StandsAfterFirst : KeptSet → Option (List (List ℕ)) → List ℕ → Type 0
StandsAfterFirst set all text =
    (read : List (List ℕ)) × AreFirst read all × StandsFor (after_all set read) text

-- so many datagrams have come, of those that were to come first, which lead from the one set to the other
pub record CameTo (first : KeptSet) (n : ℕ) (all left : Option (List (List ℕ))) (now : KeptSet) : Type 0 where
  pub read : List (List ℕ)
  pub many : length read ≡ n
  pub rest : HaveCome read all left
  pub kept : now ≡ after_all first read

-- the same, where none is left to come or 16,777,216 have come
pub record CameAll (first : KeptSet) (n : ℕ) (all left : Option (List (List ℕ))) (now : KeptSet) : Type 0 where
  pub so_far : CameTo first n all left now
  pub few : n ≤ MAX_DATAGRAMS
  pub ended : n < MAX_DATAGRAMS → IfSome left (λ more. more ≡ [])

-- where FROM failed, the receiver has all that has come, and so has what a crash leaves
pub record CameUntil (first : KeptSet) (from : Way) (place_old : Seen) (link_old : LinkSeen) (place_new : Seen)
    (link_new : LinkSeen) (now : KeptSet) (disk : DiskSeen) : Type 0 where
  pub read : List (List ℕ)
  pub few : length read ≤ MAX_DATAGRAMS
  pub come : HaveComeUntil from read place_old link_old place_new link_new
  pub kept : now ≡ after_all first read
  pub stands : AllStand now disk

abbrev pub StopsKeeping : KeptSet → Way → Seen → LinkSeen → Seen → LinkSeen → KeptSet → DiskSeen → KeepStop → Type 0
StopsKeeping first from place_old link_old place_new link_new now disk stop.NoMemory = Unit {0}
StopsKeeping first from place_old link_old place_new link_new now disk stop.Place =
    CameUntil first from place_old link_old place_new link_new now disk
StopsKeeping first from place_old link_old place_new link_new now disk stop.Link =
    CameUntil first from place_old link_old place_new link_new now disk
StopsKeeping first from place_old link_old place_new link_new now disk stop.Out = Unit {0}
StopsKeeping first from place_old link_old place_new link_new now disk stop.Disk = Unit {0}

-- the end of a reading of so many datagrams, by what is kept then
abbrev pub HasTotals : KeptSet → ℕ → Totals → Type 0
HasTotals set n totals =
    (totals.read ≡ n) × (totals.kept ≡ kept_in_all set) × (totals.shown ≡ shown_in_all set)

abbrev pub IsEndOf : KeptSet → ℕ → KeepEnd → Type 0
IsEndOf set n (end.Done totals) = (n ≢ MAX_DATAGRAMS) × IsComplete set × HasTotals set n totals
IsEndOf set n (end.Incomplete totals) = (n ≢ MAX_DATAGRAMS) × (IsComplete set → ⊥) × HasTotals set n totals
IsEndOf set n (end.TurnsSpent totals) = (n ≡ MAX_DATAGRAMS) × HasTotals set n totals
IsEndOf set n end.Usage = ⊥
IsEndOf set n end.NoMemory = ⊥
IsEndOf set n end.PlaceFault = ⊥
IsEndOf set n end.LinkFault = ⊥
IsEndOf set n end.OutFault = ⊥
IsEndOf set n end.OtherSession = ⊥
IsEndOf set n end.DiskFault = ⊥
IsEndOf set n (end.BadJournal at) = ⊥

-- the end of a run whose journal is not opened
abbrev pub end_of_start : StartFault → KeepEnd
end_of_start (start.BadJournal at) = end.BadJournal at
end_of_start (start.OtherSession named) = end.OtherSession
end_of_start start.DiskFault = end.DiskFault
end_of_start start.NoMemory = end.NoMemory
