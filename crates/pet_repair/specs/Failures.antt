-- Which ends of `repair` and `relay` tell of a failure of the place, which of one of the link, and which of one of the
-- output. This project's own.
use Rattle.std.specs.Prelude.{Bool, Option, None, Some}
use Rattle.outside_routes.specs.RouteFaults.{tells_of, stop_of_a_place, stop_of_a_link}
use Rattle.outside_routes.specs.declared.fault.RouteStop.{RouteStop}
use Rattle.outside_routes.specs.declared.fault.RouteStop.TheVariants as stop
use Rattle.packet_reading.specs.Begun.{stop_of_an_output}
use Rattle.pet_repair.specs.declared.repair.RepairEnd.{RepairEnd}
use Rattle.pet_repair.specs.declared.repair.RepairEnd.TheVariants as repair
use Rattle.pet_repair.specs.declared.relay.RelayEnd.{RelayEnd}
use Rattle.pet_repair.specs.declared.relay.RelayEnd.TheVariants as relay

-- the failed call that an end of `repair` tells of, if it tells of any
abbrev pub failure_of_repair : RepairEnd → Option RouteStop
failure_of_repair (repair.Done groups datagrams) = None
failure_of_repair repair.NoMemory = None
failure_of_repair repair.PlaceFault = Some stop.Place
failure_of_repair repair.LinkFault = Some stop.Link
failure_of_repair (repair.BadStore at kind) = None
failure_of_repair (repair.Unlike group number) = None

abbrev pub repair_of_place : RepairEnd → Bool
repair_of_place end = tells_of stop_of_a_place (failure_of_repair end)

abbrev pub repair_of_link : RepairEnd → Bool
repair_of_link end = tells_of stop_of_a_link (failure_of_repair end)

-- and one of `relay`
abbrev pub failure_of : RelayEnd → Option RouteStop
failure_of (relay.Done read sent) = None
failure_of relay.NoMemory = None
failure_of relay.PlaceFault = Some stop.Place
failure_of relay.LinkFault = Some stop.Link
failure_of relay.OutFault = Some stop.Out
failure_of (relay.Incomplete read sent) = None
failure_of (relay.TurnsSpent read sent) = None
failure_of (relay.Unlike group number) = None

abbrev pub relay_end_of_place : RelayEnd → Bool
relay_end_of_place end = tells_of stop_of_a_place (failure_of end)

abbrev pub relay_end_of_link : RelayEnd → Bool
relay_end_of_link end = tells_of stop_of_a_link (failure_of end)

abbrev pub relay_end_of_output : RelayEnd → Bool
relay_end_of_output end = tells_of stop_of_an_output (failure_of end)
