-- Which answers of `send` tell of a failure of the place, and which of one of the link. This project's own.
use Rattle.std.specs.Prelude.{Bool, true, false}
use Rattle.outside_routes.specs.RouteFaults.{stop_of_a_place, stop_of_a_link}
use Rattle.session_source.specs.Sources.{has_failed}
use Rattle.command_send.specs.declared.fault.SendFault.{SendFault}
use Rattle.command_send.specs.declared.fault.SendFault.TheVariants.{Stopped, Source, Changed}
use Rattle.command_send.specs.declared.command.SendEnd.{SendEnd}
use Rattle.command_send.specs.declared.command.SendEnd.TheVariants as end

abbrev pub fault_of_place : SendFault → Bool
fault_of_place (Stopped stop) = stop_of_a_place stop
fault_of_place (Source fault) = has_failed fault
fault_of_place (Changed change) = false

abbrev pub fault_of_link : SendFault → Bool
fault_of_link (Stopped stop) = stop_of_a_link stop
fault_of_link (Source fault) = false
fault_of_link (Changed change) = false

-- of an end the one and the other
abbrev pub failures_of : SendEnd → Bool × Bool
failures_of (end.Done sent) = (false, false)
failures_of end.NoMemory = (false, false)
failures_of end.PlaceFault = (true, false)
failures_of end.LinkFault = (false, true)
failures_of (end.BadPriority fault) = (false, false)
failures_of (end.BadStream scan) = (false, false)
failures_of (end.BadPlan fault) = (false, false)
failures_of (end.Changed change) = (false, false)

abbrev pub end_of_place : SendEnd → Bool
end_of_place end = (failures_of end).0

abbrev pub end_of_link : SendEnd → Bool
end_of_link end = (failures_of end).1
