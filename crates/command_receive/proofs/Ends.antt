-- What each end tells, by what was read or by where the command stopped.
use Rattle.std.proofs.Common.{◌≡◌, ◌≢◌, ◌<◌, Bool, true, false, List, ℕ, length, refl, sym, ap, ◌∙◌, arith, inr}
use Rattle.std.proofs.Common.{subst}
use Rattle.pet_base.specs.declared.limits.TheConstants.{MAX_DATAGRAMS}
use Rattle.pet_base.specs.LinkSeen.{LinkSeen}
use Rattle.pet_base.specs.OutsideSeen.{OutsideSeen}
use Rattle.outside_routes.specs.Way.{Way}
use Rattle.command_receive.specs.declared.command.ReceiveEnd.{ReceiveEnd}
use Rattle.command_receive.specs.declared.command.ReceiveEnd.TheVariants.{Done, NoMemory, PlaceFault, LinkFault}
use Rattle.command_receive.specs.declared.command.ReceiveEnd.TheVariants.{OutFault, Incomplete, TurnsSpent}
use Rattle.command_receive.specs.declared.reading.Reading.{Reading}
use Rattle.packet_reading.specs.declared.reading.Totals.{Totals}
use Rattle.outside_routes.specs.RouteFaults.{stop_of_a_place, stop_of_a_link}
use Rattle.packet_reading.specs.Begun.{stop_of_an_output}
use Rattle.outside_routes.specs.declared.fault.RouteStop.{RouteStop}
use Rattle.outside_routes.specs.declared.fault.RouteStop.TheVariants as stop
use Rattle.command_receive.specs.Failures.{failures_of, end_of_place, end_of_link, end_of_output}
use Rattle.command_receive.specs.inside.Numbers.{IsReadingOf, IsEndOf, end_of}
use Rattle.command_receive.specs.Opened.{IsBoundTo, PrintedPort}
use Rattle.command_receive.specs.Receives.{AreTotals, IsBoundAtEnd, Reads, EndsReceive}

false_true : {P : Type 0} (b : Bool) → b ≡ false → b ≡ true → P
false_true b p q = cc

module _ (from : Way) (session layers store : List ℕ) (before after : OutsideSeen)
    (r : Reads from session layers store before after) (reading : Reading) (is : IsReadingOf session r.read reading)
    (port : PrintedPort from before after) where
  told : (totals : Totals) → totals ≡ reading.totals → AreTotals session r.read totals
  told totals same = subst (AreTotals session r.read) (sym same) is.totals

  below : (totals : Totals) → totals ≡ reading.totals → totals.read ≢ MAX_DATAGRAMS → length r.read < MAX_DATAGRAMS
  below totals same apart = let many = (told totals same).many in omega (arith, r.few, many, apart)

  -- the end, after all was read
  pub ends_read : (end : ReceiveEnd) → IsEndOf reading end → EndsReceive from session layers store before after end
  ends_read (Done totals) ends =
      (r, below totals ends.0 ends.1, is.complete.0 ends.2, told totals ends.0, port)
  ends_read (Incomplete totals) ends = (
    r,
    below totals ends.0 ends.1,
    λ all. false_true reading.complete ends.2 (is.complete.1 all),
    told totals ends.0,
    port,
  )
  ends_read (TurnsSpent totals) ends =
      (r, sym (told totals ends.0).many ∙ ends.1, told totals ends.0, port)
  ends_read NoMemory ends = absurd ends
  ends_read PlaceFault ends = absurd ends
  ends_read LinkFault ends = absurd ends
  ends_read OutFault ends = absurd ends

pub bound_at_any : (from : Way) (old new : LinkSeen) (end : ReceiveEnd) → IsBoundTo from old new
    → IsBoundAtEnd from old new end
bound_at_any from old new (Done totals) bound = bound
bound_at_any from old new (Incomplete totals) bound = bound
bound_at_any from old new (TurnsSpent totals) bound = bound
bound_at_any from old new OutFault bound = bound
bound_at_any from old new PlaceFault bound = bound
bound_at_any from old new NoMemory bound = inr bound
bound_at_any from old new LinkFault bound = inr bound

-- an end tells of the failure that stopped the command, and one with numbers of none
alike : (s : RouteStop) → (stop_of_a_place s, stop_of_a_link s, stop_of_an_output s) ≡ failures_of (end_of s)
alike stop.NoMemory = refl
alike stop.Place = refl
alike stop.Link = refl
alike stop.Out = refl

pub place_alike : (s : RouteStop) → stop_of_a_place s ≡ end_of_place (end_of s)
place_alike s = ap (λ (failures : Bool × Bool × Bool). failures.0) (alike s)

pub link_alike : (s : RouteStop) → stop_of_a_link s ≡ end_of_link (end_of s)
link_alike s = ap (λ (failures : Bool × Bool × Bool). failures.1) (alike s)

pub output_alike : (s : RouteStop) → stop_of_an_output s ≡ end_of_output (end_of s)
output_alike s = ap (λ (failures : Bool × Bool × Bool). failures.2) (alike s)

pub calm_at : (reading : Reading) (end : ReceiveEnd) → IsEndOf reading end
    → (end_of_place end ≡ false) × (end_of_link end ≡ false) × (end_of_output end ≡ false)
calm_at reading (Done totals) is = (refl, refl, refl)
calm_at reading (Incomplete totals) is = (refl, refl, refl)
calm_at reading (TurnsSpent totals) is = (refl, refl, refl)
calm_at reading NoMemory is = absurd is
calm_at reading PlaceFault is = absurd is
calm_at reading LinkFault is = absurd is
calm_at reading OutFault is = absurd is
