-- The status of a stream that has no session, and which statuses tell of a failure. This project's own.
use Rattle.std.specs.Prelude.{Bool, true, false}
use Rattle.pet_base.specs.declared.limits.TheConstants.{MAX_GROUPS}
use Rattle.stream_session.specs.declared.fault.SessionFault.{SessionFault}
use Rattle.stream_session.specs.declared.fault.SessionFault.TheVariants as session
use Rattle.text_status.specs.declared.status.PlanKind.TheVariants as kind
use Rattle.text_status.specs.declared.status.Status.{Status}
use Rattle.text_status.specs.declared.status.Status.TheVariants.{Done, Usage, NoMemory, PlaceFault, LinkFault, OutFault}
use Rattle.text_status.specs.declared.status.Status.TheVariants.{BadStream, BadPriority, BadPlan, BadStore}
use Rattle.text_status.specs.declared.status.Status.TheVariants.{OtherSession, Clash, Incomplete, TurnsSpent, BadTable}
use Rattle.text_status.specs.declared.status.Status.TheVariants.{NotLeast, Changed, Full, BadSystem, AlreadyNew}
use Rattle.text_status.specs.declared.status.Status.TheVariants.{TooWide, BadScript, Unlike}

-- of a session's refusal
abbrev pub status_of_session : SessionFault → Status
status_of_session (session.ManyPackets packets) = BadPlan kind.ManyPackets packets
status_of_session (session.GroupTooLong group) = BadPlan kind.GroupTooLong group
status_of_session session.TooManyGroups = BadPlan kind.TooManyGroups MAX_GROUPS
status_of_session (session.ByteLong group) = BadPlan kind.ByteLong group
status_of_session (session.TooWide group) = BadPlan kind.TooWide group
status_of_session (session.TooLarge group) = BadPlan kind.TooLarge group
status_of_session session.NoMemory = NoMemory

-- which failures a status tells of: one of the place, and one of the link
abbrev pub failures_of : Status → Bool × Bool
failures_of Done = (false, false)
failures_of Usage = (false, false)
failures_of NoMemory = (false, false)
failures_of PlaceFault = (true, false)
failures_of LinkFault = (false, true)
failures_of OutFault = (false, false)
failures_of (BadStream fault) = (false, false)
failures_of (BadPriority fault) = (false, false)
failures_of (BadPlan kind number) = (false, false)
failures_of (BadStore which at kind) = (false, false)
failures_of OtherSession = (false, false)
failures_of (Clash group number) = (false, false)
failures_of Incomplete = (false, false)
failures_of TurnsSpent = (false, false)
failures_of (BadTable group) = (false, false)
failures_of (NotLeast group) = (false, false)
failures_of (Changed group first second) = (false, false)
failures_of (Full group) = (false, false)
failures_of (BadSystem fault) = (false, false)
failures_of AlreadyNew = (false, false)
failures_of (BadScript line) = (false, false)
failures_of (TooWide group) = (false, false)
failures_of (Unlike group number) = (false, false)

abbrev pub of_place : Status → Bool
of_place status = (failures_of status).0

abbrev pub of_link : Status → Bool
of_link status = (failures_of status).1
