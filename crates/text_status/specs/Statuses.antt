-- The statuses, their numbers and their lines. This project's own.
use Rattle.std.specs.Prelude.{ℕ, List, [], ◌++◌, codes, decimal}
use Rattle.pet_base.specs.declared.limits.TheConstants.{MAX_STREAM}
use Rattle.mpeg_scan.specs.declared.refusal.Scan.{Scan}
use Rattle.mpeg_scan.specs.declared.refusal.Scan.TheVariants as scan
use Rattle.mpeg_system.specs.declared.refusal.System.{System}
use Rattle.mpeg_system.specs.declared.refusal.System.TheVariants as system
use Rattle.priority_file.specs.declared.fault.PriorityFault.{PriorityFault}
use Rattle.priority_file.specs.declared.fault.PriorityFault.TheVariants as priority
use Rattle.store_text.specs.declared.fault.StoreKind.{StoreKind}
use Rattle.store_text.specs.declared.fault.StoreKind.TheVariants as store
use Rattle.text_status.specs.declared.status.PlanKind.{PlanKind}
use Rattle.text_status.specs.declared.status.PlanKind.TheVariants as plan
use Rattle.text_status.specs.declared.status.Status.{Status}
use Rattle.text_status.specs.declared.status.Status.TheVariants.{Done, Usage, NoMemory, PlaceFault, LinkFault, OutFault}
use Rattle.text_status.specs.declared.status.Status.TheVariants.{BadStream, BadPriority, BadPlan, BadStore, OtherSession}
use Rattle.text_status.specs.declared.status.Status.TheVariants.{Clash, Incomplete, TurnsSpent, BadTable, NotLeast}
use Rattle.text_status.specs.declared.status.Status.TheVariants.{Changed, Full, BadSystem, AlreadyNew, TooWide, BadScript}
use Rattle.text_status.specs.declared.status.Status.TheVariants.{Unlike}

abbrev pub code_of : Status → ℕ
code_of Done = 0
code_of Usage = 1
code_of NoMemory = 2
code_of PlaceFault = 3
code_of LinkFault = 4
code_of OutFault = 5
code_of (BadStream fault) = 6
code_of (BadPriority fault) = 7
code_of (BadPlan kind number) = 8
code_of (BadStore which at kind) = 9
code_of OtherSession = 10
code_of (Clash group number) = 11
code_of Incomplete = 12
code_of TurnsSpent = 13
code_of (BadTable group) = 15
code_of (NotLeast group) = 16
code_of (Changed group first second) = 17
code_of (Full group) = 19
code_of (BadSystem fault) = 24
code_of AlreadyNew = 18
code_of (TooWide group) = 20
code_of (BadScript line) = 14
code_of (Unlike group number) = 21

-- the kind of a stream's refusal, its offset, and for a picture's type the type; want of memory is a status of its own
abbrev pub scan_text : Scan → List ℕ
scan_text scan.Empty = codes "Empty 0"
scan_text (scan.NoHead at) = codes "NoHead " ++ decimal at
scan_text (scan.System at) = codes "System " ++ decimal at
scan_text (scan.PictureType at kind) = codes "PictureType " ++ decimal at ++ codes " " ++ decimal kind
scan_text (scan.ShortPicture at) = codes "ShortPicture " ++ decimal at
scan_text scan.TooLong = codes "TooLong " ++ decimal MAX_STREAM
scan_text scan.NoMemory = codes "NoMemory 0"

-- the kind of a system stream's refusal, its offset, and for a code that begins no unit the code
abbrev pub system_text : System → List ℕ
system_text (system.NoStart at) = codes "NoStart " ++ decimal at
system_text (system.NotUnit at code) = codes "NotUnit " ++ decimal at ++ codes " " ++ decimal code
system_text (system.Pack at) = codes "Pack " ++ decimal at
system_text (system.Cut at) = codes "Cut " ++ decimal at
system_text (system.Header at) = codes "Header " ++ decimal at
system_text system.NoVideo = codes "NoVideo 0"
system_text system.TooLong = codes "TooLong " ++ decimal MAX_STREAM
system_text system.NoMemory = codes "NoMemory 0"

-- the kind of a priority file's refusal
abbrev pub priority_text : PriorityFault → List ℕ
priority_text priority.Long = codes "Long"
priority_text priority.Text = codes "Text"
priority_text priority.UnknownKey = codes "UnknownKey"
priority_text priority.MissingKey = codes "MissingKey"
priority_text priority.WrongType = codes "WrongType"
priority_text priority.PacketsRange = codes "PacketsRange"
priority_text priority.NeedRange = codes "NeedRange"
priority_text priority.Name = codes "Name"
priority_text priority.KindTwice = codes "KindTwice"
priority_text priority.KindMissing = codes "KindMissing"
priority_text priority.HeadNotFirst = codes "HeadNotFirst"
priority_text priority.TooManyLayers = codes "TooManyLayers"
priority_text priority.NoMemory = codes "NoMemory"

-- the kind of a plan's refusal
abbrev pub plan_kind_text : PlanKind → List ℕ
plan_kind_text plan.ManyPackets = codes "ManyPackets"
plan_kind_text plan.GroupTooLong = codes "GroupTooLong"
plan_kind_text plan.TooManyGroups = codes "TooManyGroups"
plan_kind_text plan.ByteLong = codes "ByteLong"
plan_kind_text plan.TooWide = codes "TooWide"
plan_kind_text plan.TooLarge = codes "TooLarge"
plan_kind_text plan.PlanLong = codes "PlanLong"
plan_kind_text plan.Text = codes "Text"
plan_kind_text plan.Lines = codes "Lines"

-- the kind of a store's refusal
abbrev pub store_kind_text : StoreKind → List ℕ
store_kind_text store.Cut = codes "Cut"
store_kind_text store.Magic = codes "Magic"
store_kind_text store.Frame = codes "Frame"
store_kind_text store.Session = codes "Session"
store_kind_text store.Order = codes "Order"
store_kind_text store.Clash = codes "Clash"
store_kind_text store.Full = codes "Full"
store_kind_text store.Rest = codes "Rest"
store_kind_text store.Tag = codes "Tag"

-- the line that tells of a status; a command that is done has none, and after a fault of the output nothing is printed
abbrev pub fault_text : Status → List ℕ
fault_text Done = []
fault_text Usage = codes "fault usage\n"
fault_text NoMemory = codes "fault memory\n"
fault_text PlaceFault = codes "fault place\n"
fault_text LinkFault = codes "fault link\n"
fault_text OutFault = []
fault_text (BadStream fault) = codes "fault stream " ++ scan_text fault ++ codes "\n"
fault_text (BadPriority fault) = codes "fault priority " ++ priority_text fault ++ codes "\n"
fault_text (BadPlan kind number) =
    codes "fault plan " ++ plan_kind_text kind ++ codes " " ++ decimal number ++ codes "\n"
fault_text (BadStore which at kind) =
    codes "fault store " ++ decimal which ++ codes " " ++ store_kind_text kind ++ codes " " ++ decimal at ++ codes "\n"
fault_text OtherSession = codes "fault session\n"
fault_text (Clash group number) = codes "fault clash " ++ decimal group ++ codes " " ++ decimal number ++ codes "\n"
fault_text Incomplete = codes "fault incomplete\n"
fault_text TurnsSpent = codes "fault turns\n"
fault_text (BadTable group) = codes "fault table " ++ decimal group ++ codes "\n"
fault_text (NotLeast group) = codes "fault least " ++ decimal group ++ codes "\n"
fault_text (Changed group first second) = codes "fault changed " ++ decimal group ++ codes "\n"
fault_text (Full group) = codes "fault full " ++ decimal group ++ codes "\n"
fault_text (BadSystem fault) = codes "fault system " ++ system_text fault ++ codes "\n"
fault_text AlreadyNew = codes "fault version\n"
fault_text (TooWide group) = codes "fault wide " ++ decimal group ++ codes "\n"
fault_text (BadScript line) = codes "fault script " ++ decimal line ++ codes "\n"
fault_text (Unlike group number) = codes "fault unlike " ++ decimal group ++ codes " " ++ decimal number ++ codes "\n"
