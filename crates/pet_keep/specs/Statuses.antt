-- The statuses of `keep`, their numbers and lines, and those of each end. This project's own.
use Rattle.std.specs.Prelude.{ℕ, Bool, true, false, List, [], ◌++◌, codes, decimal}
use Rattle.packet_reading.specs.declared.reading.Totals.{Totals}
use Rattle.pet_text.specs.Lines.{receive_text}
use Rattle.pet_keep.specs.declared.end.KeepEnd.{KeepEnd}
use Rattle.pet_keep.specs.declared.end.KeepEnd.TheVariants as end
use Rattle.pet_keep.specs.declared.status.KeepStatus.{KeepStatus}
use Rattle.pet_keep.specs.declared.status.KeepStatus.TheVariants.{Done, Usage, NoMemory, PlaceFault, LinkFault}
use Rattle.pet_keep.specs.declared.status.KeepStatus.TheVariants.{OutFault, OtherSession, Incomplete, TurnsSpent}
use Rattle.pet_keep.specs.declared.status.KeepStatus.TheVariants.{DiskFault, BadJournal}

abbrev pub code_of : KeepStatus → ℕ
code_of Done = 0
code_of Usage = 1
code_of NoMemory = 2
code_of PlaceFault = 3
code_of LinkFault = 4
code_of OutFault = 5
code_of OtherSession = 10
code_of Incomplete = 12
code_of TurnsSpent = 13
code_of DiskFault = 22
code_of (BadJournal at) = 23

-- the line that tells of a status; a run that is done has none, and after a fault of the output nothing is printed
abbrev pub fault_text : KeepStatus → List ℕ
fault_text Done = []
fault_text Usage = codes "fault usage\n"
fault_text NoMemory = codes "fault memory\n"
fault_text PlaceFault = codes "fault place\n"
fault_text LinkFault = codes "fault link\n"
fault_text OutFault = []
fault_text OtherSession = codes "fault session\n"
fault_text Incomplete = codes "fault incomplete\n"
fault_text TurnsSpent = codes "fault turns\n"
fault_text DiskFault = codes "fault disk\n"
fault_text (BadJournal at) = codes "fault journal " ++ decimal at ++ codes "\n"

abbrev pub status_of : KeepEnd → KeepStatus
status_of end.Usage = Usage
status_of (end.Done totals) = Done
status_of end.NoMemory = NoMemory
status_of end.PlaceFault = PlaceFault
status_of end.LinkFault = LinkFault
status_of end.OutFault = OutFault
status_of end.OtherSession = OtherSession
status_of (end.Incomplete totals) = Incomplete
status_of (end.TurnsSpent totals) = TurnsSpent
status_of end.DiskFault = DiskFault
status_of (end.BadJournal at) = BadJournal at

-- how many datagrams were read, how many packets are kept, and how many layers are shown
abbrev pub totals_text : Totals → List ℕ
totals_text totals = receive_text totals.read totals.kept totals.shown

-- the line of an end with numbers; the line of the port is none of an end
abbrev pub line_of : KeepEnd → List ℕ
line_of end.Usage = []
line_of (end.Done totals) = totals_text totals
line_of end.NoMemory = []
line_of end.PlaceFault = []
line_of end.LinkFault = []
line_of end.OutFault = []
line_of end.OtherSession = []
line_of (end.Incomplete totals) = totals_text totals
line_of (end.TurnsSpent totals) = totals_text totals
line_of end.DiskFault = []
line_of (end.BadJournal at) = []

-- which failures a status tells of: one of the place, one of the link, one of the output
abbrev pub failures_of : KeepStatus → Bool × Bool × Bool
failures_of Done = (false, false, false)
failures_of Usage = (false, false, false)
failures_of NoMemory = (false, false, false)
failures_of PlaceFault = (true, false, false)
failures_of LinkFault = (false, true, false)
failures_of OutFault = (false, false, true)
failures_of OtherSession = (false, false, false)
failures_of Incomplete = (false, false, false)
failures_of TurnsSpent = (false, false, false)
failures_of DiskFault = (false, false, false)
failures_of (BadJournal at) = (false, false, false)
