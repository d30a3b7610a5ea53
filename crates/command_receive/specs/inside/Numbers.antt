-- What a reading comes to, and the end that it makes. This project's own.
use Rattle.std.specs.Prelude.{◌≡◌, ◌≢◌, ◌↔◌, IsTrue, ℕ, List, true, false}
use Rattle.pet_base.specs.declared.limits.TheConstants.{MAX_DATAGRAMS}
use Rattle.pet_receive.specs.ShownBytes.{IsComplete}
use Rattle.packet_met.specs.Kept.{kept_of}
use Rattle.command_receive.specs.declared.command.ReceiveEnd.{ReceiveEnd}
use Rattle.command_receive.specs.declared.command.ReceiveEnd.TheVariants.{Done, NoMemory, PlaceFault, LinkFault}
use Rattle.command_receive.specs.declared.command.ReceiveEnd.TheVariants.{OutFault, Incomplete, TurnsSpent}
use Rattle.command_receive.specs.declared.reading.Reading.{Reading}
use Rattle.command_receive.specs.Receives.{AreTotals}
use Rattle.outside_routes.specs.declared.fault.RouteStop.{RouteStop}
use Rattle.outside_routes.specs.declared.fault.RouteStop.TheVariants as stop

-- the numbers are those of the datagrams that were read, and it is told whether every layer is shown
pub record IsReadingOf (session : List ℕ) (read : List (List ℕ)) (reading : Reading) : Type 0 where
  pub totals : AreTotals session read reading.totals
  pub complete : IsTrue reading.complete ↔ IsComplete (kept_of session read)

-- the end that it makes
abbrev pub IsEndOf : Reading → ReceiveEnd → Type 0
IsEndOf reading (Done totals) =
    (totals ≡ reading.totals) × (totals.read ≢ MAX_DATAGRAMS) × (reading.complete ≡ true)
IsEndOf reading (Incomplete totals) =
    (totals ≡ reading.totals) × (totals.read ≢ MAX_DATAGRAMS) × (reading.complete ≡ false)
IsEndOf reading (TurnsSpent totals) = (totals ≡ reading.totals) × (totals.read ≡ MAX_DATAGRAMS)
IsEndOf reading NoMemory = ⊥
IsEndOf reading PlaceFault = ⊥
IsEndOf reading LinkFault = ⊥
IsEndOf reading OutFault = ⊥

-- the end of a command that stops early
abbrev pub end_of : RouteStop → ReceiveEnd
end_of stop.NoMemory = NoMemory
end_of stop.Place = PlaceFault
end_of stop.Link = LinkFault
end_of stop.Out = OutFault
