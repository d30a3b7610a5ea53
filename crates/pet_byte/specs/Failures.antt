-- Which ends of `breceive` tell of a failure of the place, which of one of the link, and which of one of the output. This
-- project's own.
use Rattle.std.specs.Prelude.{Bool, Option, None, Some}
use Rattle.outside_routes.specs.RouteFaults.{tells_of, stop_of_a_place, stop_of_a_link}
use Rattle.outside_routes.specs.declared.fault.RouteStop.{RouteStop}
use Rattle.outside_routes.specs.declared.fault.RouteStop.TheVariants as stop
use Rattle.packet_reading.specs.Begun.{stop_of_an_output}
use Rattle.pet_byte.specs.declared.breceive.ByteEnd.{ByteEnd}
use Rattle.pet_byte.specs.declared.breceive.ByteEnd.TheVariants.{Done, NoMemory, PlaceFault, LinkFault}
use Rattle.pet_byte.specs.declared.breceive.ByteEnd.TheVariants.{OutFault, Incomplete, TurnsSpent}

-- the failed call that an end tells of, if it tells of any
abbrev pub failure_of : ByteEnd → Option RouteStop
failure_of (Done read kept shown) = None
failure_of NoMemory = None
failure_of PlaceFault = Some stop.Place
failure_of LinkFault = Some stop.Link
failure_of OutFault = Some stop.Out
failure_of (Incomplete read kept shown) = None
failure_of (TurnsSpent read kept shown) = None

abbrev pub byte_of_place : ByteEnd → Bool
byte_of_place end = tells_of stop_of_a_place (failure_of end)

abbrev pub byte_of_link : ByteEnd → Bool
byte_of_link end = tells_of stop_of_a_link (failure_of end)

abbrev pub byte_of_output : ByteEnd → Bool
byte_of_output end = tells_of stop_of_an_output (failure_of end)
