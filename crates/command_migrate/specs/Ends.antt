-- The end of the command by what a step of it answered. This project's own.
use Rattle.std.specs.Prelude.{Bool, true, false}
use Rattle.pet_base.specs.declared.faults.Stop.{Stop}
use Rattle.pet_base.specs.declared.faults.Stop.TheVariants as stop
use Rattle.store_packets.specs.declared.fault.MigrateFault.{MigrateFault}
use Rattle.store_packets.specs.declared.fault.MigrateFault.TheVariants as fault
use Rattle.command_migrate.specs.declared.command.MigrateEnd.{MigrateEnd}
use Rattle.command_migrate.specs.declared.command.MigrateEnd.TheVariants.{Done, NoMemory, PlaceFault, AlreadyNew}
use Rattle.command_migrate.specs.declared.command.MigrateEnd.TheVariants.{BadStore, TooWide, Full}

-- of a file that was not read
abbrev pub stop_end : Stop → MigrateEnd
stop_end stop.NoMemory = NoMemory
stop_end stop.Failed = PlaceFault

-- of bytes that come to no store
abbrev pub fault_end : MigrateFault → MigrateEnd
fault_end fault.AlreadyNew = AlreadyNew
fault_end (fault.At at kind) = BadStore at kind
fault_end (fault.TooWide group) = TooWide group
fault_end (fault.Full group) = Full group
fault_end fault.NoMemory = NoMemory

-- which ends tell of a failure of the place
abbrev pub has_failed : MigrateEnd → Bool
has_failed (Done packets) = false
has_failed NoMemory = false
has_failed PlaceFault = true
has_failed AlreadyNew = false
has_failed (BadStore at kind) = false
has_failed (TooWide group) = false
has_failed (Full group) = false
