-- The end of the command by what a step of it answered. This project's own.
use Rattle.std.specs.Prelude.{Bool, true, false}
use Rattle.pet_base.specs.declared.faults.Stop.{Stop}
use Rattle.pet_base.specs.declared.faults.Stop.TheVariants as stop
use Rattle.packet_verdicts.specs.declared.union.Absorb.{Absorb}
use Rattle.packet_verdicts.specs.declared.union.Absorb.TheVariants as absorb
use Rattle.store_merge.specs.declared.read_files.StoreStop.{StoreStop}
use Rattle.store_merge.specs.declared.read_files.StoreStop.TheVariants as unread
use Rattle.command_merge.specs.declared.files.Which.{Which}
use Rattle.command_merge.specs.declared.files.Which.TheVariants.{First, Second}
use Rattle.command_merge.specs.declared.command.MergeEnd.{MergeEnd}
use Rattle.command_merge.specs.declared.command.MergeEnd.TheVariants.{Done, NoMemory, PlaceFault, BadFirst, BadSecond}
use Rattle.command_merge.specs.declared.command.MergeEnd.TheVariants.{OtherSession, Clash, Full}

-- of two stores that cannot be joined
abbrev pub absorb_end : Absorb → MergeEnd
absorb_end absorb.OtherSession = OtherSession
absorb_end (absorb.Clash group number) = Clash group number
absorb_end (absorb.Full group) = Full group
absorb_end absorb.NoMemory = NoMemory

-- of a file that was not written
abbrev pub stop_end : Stop → MergeEnd
stop_end stop.NoMemory = NoMemory
stop_end stop.Failed = PlaceFault

-- of a store that was not read, the first or the second
abbrev pub store_end : Which → StoreStop → MergeEnd
store_end First (unread.At at kind) = BadFirst at kind
store_end Second (unread.At at kind) = BadSecond at kind
store_end First unread.NoMemory = NoMemory
store_end First unread.Failed = PlaceFault
store_end Second unread.NoMemory = NoMemory
store_end Second unread.Failed = PlaceFault

-- which ends tell of a failure of the place
abbrev pub has_failed : MergeEnd → Bool
has_failed (Done packets) = false
has_failed NoMemory = false
has_failed PlaceFault = true
has_failed (BadFirst at kind) = false
has_failed (BadSecond at kind) = false
has_failed OtherSession = false
has_failed (Clash group number) = false
has_failed (Full group) = false
