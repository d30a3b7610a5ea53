-- The end that a reading makes. This project's own.
use Rattle.std.specs.Prelude.{◌≡◌, ◌≢◌, Bool, true, false}
use Rattle.pet_base.specs.declared.limits.TheConstants.{MAX_DATAGRAMS}
use Rattle.outside_routes.specs.declared.fault.RouteStop.{RouteStop}
use Rattle.outside_routes.specs.declared.fault.RouteStop.TheVariants as stop
use Rattle.packet_reading.specs.declared.reading.Totals.{Totals}
use Rattle.pet_byte.specs.declared.breceive.ByteEnd.{ByteEnd}
use Rattle.pet_byte.specs.declared.breceive.ByteEnd.TheVariants.{Done, NoMemory, PlaceFault, LinkFault}
use Rattle.pet_byte.specs.declared.breceive.ByteEnd.TheVariants.{OutFault, Incomplete, TurnsSpent}

-- the end with these numbers, where every layer is shown or not
abbrev pub IsByteEndOf : Totals → Bool → ByteEnd → Type 0
IsByteEndOf totals complete (Done read kept shown) =
    (record { read = read; kept = kept; shown = shown } ≡ totals) × (totals.read ≢ MAX_DATAGRAMS) × (complete ≡ true)
IsByteEndOf totals complete (Incomplete read kept shown) =
    (record { read = read; kept = kept; shown = shown } ≡ totals) × (totals.read ≢ MAX_DATAGRAMS) × (complete ≡ false)
IsByteEndOf totals complete (TurnsSpent read kept shown) =
    (record { read = read; kept = kept; shown = shown } ≡ totals) × (totals.read ≡ MAX_DATAGRAMS)
IsByteEndOf totals complete NoMemory = ⊥
IsByteEndOf totals complete PlaceFault = ⊥
IsByteEndOf totals complete LinkFault = ⊥
IsByteEndOf totals complete OutFault = ⊥

-- the end of a command that stops early
abbrev pub byte_end_of : RouteStop → ByteEnd
byte_end_of stop.NoMemory = NoMemory
byte_end_of stop.Place = PlaceFault
byte_end_of stop.Link = LinkFault
byte_end_of stop.Out = OutFault
