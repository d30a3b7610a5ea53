-- Which ends of `receive` tell of a failure of the place, which of one of the link, and which of one of the output. This
-- project's own.
use Rattle.std.specs.Prelude.{Bool, true, false}
use Rattle.command_receive.specs.declared.command.ReceiveEnd.{ReceiveEnd}
use Rattle.command_receive.specs.declared.command.ReceiveEnd.TheVariants.{Done, NoMemory, PlaceFault, LinkFault}
use Rattle.command_receive.specs.declared.command.ReceiveEnd.TheVariants.{OutFault, Incomplete, TurnsSpent}

abbrev pub failures_of : ReceiveEnd → Bool × Bool × Bool
failures_of (Done totals) = (false, false, false)
failures_of NoMemory = (false, false, false)
failures_of PlaceFault = (true, false, false)
failures_of LinkFault = (false, true, false)
failures_of OutFault = (false, false, true)
failures_of (Incomplete totals) = (false, false, false)
failures_of (TurnsSpent totals) = (false, false, false)

abbrev pub end_of_place : ReceiveEnd → Bool
end_of_place end = (failures_of end).0

abbrev pub end_of_link : ReceiveEnd → Bool
end_of_link end = (failures_of end).1

abbrev pub end_of_output : ReceiveEnd → Bool
end_of_output end = (failures_of end).2
