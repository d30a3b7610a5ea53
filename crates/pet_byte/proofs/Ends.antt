-- What each end tells, by what was read or by where the command stopped.
use Rattle.std.proofs.Common.{◌≡◌, ◌≢◌, ◌<◌, Bool, true, false, List, ℕ, length, refl, sym, ◌∙◌, arith, inr, subst}
use Rattle.pet_base.specs.declared.limits.TheConstants.{MAX_DATAGRAMS}
use Rattle.pet_base.specs.LinkSeen.{LinkSeen}
use Rattle.pet_base.specs.OutsideSeen.{OutsideSeen}
use Rattle.outside_routes.specs.Way.{Way}
use Rattle.outside_routes.specs.RouteFaults.{tells_of}
use Rattle.outside_routes.specs.declared.fault.RouteStop.{RouteStop}
use Rattle.outside_routes.specs.declared.fault.RouteStop.TheVariants as stop
use Rattle.packet_frame.specs.declared.format.TheConstants.{BYTE_FORMAT}
use Rattle.packet_verdicts.specs.KeptSet.{KeptSet}
use Rattle.packet_reading.specs.Begun.{IsBoundWhereStopped}
use Rattle.packet_reading.specs.Layers.{AreTotalsIn, IsReadingOf}
use Rattle.packet_reading.specs.Opened.{IsBoundTo, PrintedPort}
use Rattle.packet_reading.specs.declared.reading.Totals.{Totals}
use Rattle.pet_byte.specs.Failures.{failure_of, byte_of_place, byte_of_link, byte_of_output}
use Rattle.pet_byte.specs.ReceivesBytes.{IsBoundAtByteEnd, ReadsBytes, StopsReadingBytes, EndsBytes}
use Rattle.pet_byte.specs.declared.breceive.ByteEnd.{ByteEnd}
use Rattle.pet_byte.specs.declared.breceive.ByteEnd.TheVariants.{Done, NoMemory, PlaceFault, LinkFault}
use Rattle.pet_byte.specs.declared.breceive.ByteEnd.TheVariants.{OutFault, Incomplete, TurnsSpent}
use Rattle.pet_byte.specs.inside.Ends.{IsByteEndOf, byte_end_of}

false_true : {P : Type 0} (b : Bool) → b ≡ false → b ≡ true → P
false_true b p q = cc

module _ (from : Way) (session layers : List ℕ) (before after : OutsideSeen)
    (r : ReadsBytes from session layers before after) (kept : KeptSet) (totals : Totals) (complete : Bool)
    (is : IsReadingOf BYTE_FORMAT session r.read kept totals complete) (port : PrintedPort from before after) where
  told : (t : Totals) → t ≡ totals → AreTotalsIn BYTE_FORMAT session r.read t
  told t same = subst (AreTotalsIn BYTE_FORMAT session r.read) (sym same) is.totals

  below : totals.read ≢ MAX_DATAGRAMS → length r.read < MAX_DATAGRAMS
  below apart = let many = is.totals.many in omega (arith, r.few, many, apart)

  -- the end, after all was read
  pub ends_read : (end : ByteEnd) → IsByteEndOf totals complete end → EndsBytes from session layers before after end
  ends_read (Done n k s) ends = (
    r,
    below ends.1,
    is.complete.0 ends.2,
    told (record { read = n; kept = k; shown = s }) ends.0,
    port,
  )
  ends_read (Incomplete n k s) ends = (
    r,
    below ends.1,
    λ all. false_true complete ends.2 (is.complete.1 all),
    told (record { read = n; kept = k; shown = s }) ends.0,
    port,
  )
  ends_read (TurnsSpent n k s) ends =
      (r, sym is.totals.many ∙ ends.1, told (record { read = n; kept = k; shown = s }) ends.0, port)
  ends_read NoMemory ends = absurd ends
  ends_read PlaceFault ends = absurd ends
  ends_read LinkFault ends = absurd ends
  ends_read OutFault ends = absurd ends

-- the end of a command that stopped
pub ends_stopped : (stop : RouteStop) (from : Way) (session layers : List ℕ) (before after : OutsideSeen)
    → StopsReadingBytes from session layers before after stop → EndsBytes from session layers before after (byte_end_of stop)
ends_stopped stop.NoMemory from session layers before after stops = stops
ends_stopped stop.Place from session layers before after stops = stops
ends_stopped stop.Link from session layers before after stops = stops
ends_stopped stop.Out from session layers before after stops = stops

pub bound_at_any : (from : Way) (old new : LinkSeen) (end : ByteEnd) → IsBoundTo from old new
    → IsBoundAtByteEnd from old new end
bound_at_any from old new (Done n k s) bound = bound
bound_at_any from old new (Incomplete n k s) bound = bound
bound_at_any from old new (TurnsSpent n k s) bound = bound
bound_at_any from old new OutFault bound = bound
bound_at_any from old new PlaceFault bound = bound
bound_at_any from old new NoMemory bound = inr bound
bound_at_any from old new LinkFault bound = inr bound

pub bound_at_stop : (from : Way) (old new : LinkSeen) (stop : RouteStop) → IsBoundWhereStopped from old new stop
    → IsBoundAtByteEnd from old new (byte_end_of stop)
bound_at_stop from old new stop.NoMemory bound = bound
bound_at_stop from old new stop.Place bound = bound
bound_at_stop from old new stop.Link bound = bound
bound_at_stop from old new stop.Out bound = bound

-- an end tells of the failure that stopped the command, and one with numbers of none
pub alike : (of_object : RouteStop → Bool) → of_object stop.NoMemory ≡ false → (s : RouteStop)
    → of_object s ≡ tells_of of_object (failure_of (byte_end_of s))
alike of_object none stop.NoMemory = none
alike of_object none stop.Place = refl
alike of_object none stop.Link = refl
alike of_object none stop.Out = refl

pub calm_at : (totals : Totals) (complete : Bool) (end : ByteEnd) → IsByteEndOf totals complete end
    → (byte_of_place end ≡ false) × (byte_of_link end ≡ false) × (byte_of_output end ≡ false)
calm_at totals complete (Done n k s) is = (refl, refl, refl)
calm_at totals complete (Incomplete n k s) is = (refl, refl, refl)
calm_at totals complete (TurnsSpent n k s) is = (refl, refl, refl)
calm_at totals complete NoMemory is = absurd is
calm_at totals complete PlaceFault is = absurd is
calm_at totals complete LinkFault is = absurd is
calm_at totals complete OutFault is = absurd is
