-- What the parts of `send` do: the files are opened again, and the groups of the stream are sent. This project's own.
use Rattle.std.specs.Prelude.{◌≡◌, ◌⊎◌, ℕ, ◌≤◌, List, [], ◌∷◌, true, None, Some, option_map}
use Rattle.pet_base.specs.Seen.{Seen, Blame, Names, HadFault, bytes_at, with_file}
use Rattle.stream_session.specs.declared.mark.GroupMark.{GroupMark}
use Rattle.session_source.specs.declared.source.Source.{Source}
use Rattle.session_source.specs.declared.source.SourceFault.{SourceFault}
use Rattle.session_source.specs.declared.source.SourceFault.TheVariants as source
use Rattle.session_source.specs.Sources.{IsSourceFaultIn}
use Rattle.field_elements.specs.Field.{Coding}
use Rattle.packet_frame.specs.declared.format.Format.{Format}
use Rattle.pet_base.specs.declared.limits.TheConstants.{MAX_SESSION}
use Rattle.outside_files.specs.Inputs.{IsFile}
use Rattle.outside_files.specs.Uses.{reading, writing}
use Rattle.outside_files.specs.Wrote.{Wrote}
use Rattle.outside_routes.specs.RouteFaults.{IsStop, AimedFailed}
use Rattle.outside_routes.specs.Sending.{Routes}
use Rattle.outside_routes.specs.Way.{Way, OnFile, OnLink}
use Rattle.outside_routes.specs.declared.fault.RouteStop.{RouteStop}
use Rattle.outside_routes.specs.declared.fault.RouteStop.TheVariants as stop
use Rattle.command_send.specs.declared.command.SendEnd.{SendEnd}
use Rattle.command_send.specs.declared.command.SendEnd.TheVariants.{NoMemory, PlaceFault, LinkFault, BadPriority}
use Rattle.command_send.specs.declared.command.SendEnd.TheVariants.{BadStream, BadPlan, Changed}
use Rattle.command_send.specs.declared.fault.SendFault.{SendFault}
use Rattle.command_send.specs.declared.fault.SendFault.TheVariants as fault
use Rattle.command_send.specs.Sending.{IsLeastChange, IsFirstPass}
use Rattle.command_send.specs.inside.Job.{Job}
use Rattle.command_send.specs.Sends.{packets_file_in, IsAimedAt, LinkSentAll, LinkSentFirst, HasSentBefore, MayBlameIn}
use Rattle.command_send.specs.Sends.{SendsNothing, StreamChanged}
use Rattle.stream_session.specs.Sessions.{HasSessionIn}

-- The session of the two files in a format, and what the first reading found of it.
pub record IsReadFrom (t : Format) (old : Seen) (stream priority : List ℕ) (source : Source) (marks : List GroupMark)
    : Type 0 where
  pub session : HasSessionIn t old stream priority
  pub first : IsFirstPass t session.priority_bytes session.stream_bytes source marks

-- the file is an empty output, or the link sends to the address
pub record IsEmptied (to : List ℕ) (old new : Routes) : Type 0 where
  pub files : new.place.files ≡ option_map (with_file to []) old.place.files
  pub target : Names old.place.files new.place.target to
  pub has_output : new.place.has_output ≡ true
  pub link : new.link ≡ old.link

pub record IsReady (address : List ℕ) (old new : Routes) : Type 0 where
  pub files : new.place.files ≡ old.place.files
  pub sent : new.link.sent ≡ old.link.sent
  pub aimed : IsAimedAt address old.link new.link
  pub later : old.link.faults ≤ new.link.faults

abbrev pub IsWayOpen : Way → Routes → Routes → Type 0
IsWayOpen (OnFile to) old new = IsEmptied to old new
IsWayOpen (OnLink address) old new = IsReady address old new

-- the stream is the input, from its front, and the way is open
pub record IsReopened (stream : List ℕ) (way : Way) (old new : Routes) : Type 0 where
  pub rest : new.place.rest ≡ bytes_at old.place.files stream
  pub source : Names old.place.files new.place.source stream
  pub has_input : new.place.has_input ≡ true
  pub way_open : IsWayOpen way old new

-- or that failed: the files are as before, or the file TO is empty, and nothing was sent
abbrev pub IsLeftEmpty : Way → Routes → Routes → Type 0
IsLeftEmpty (OnFile to) old new =
    (new.place.files ≡ old.place.files) ⊎ (new.place.files ≡ option_map (with_file to []) old.place.files)
IsLeftEmpty (OnLink address) old new = (new.place.files ≡ old.place.files) × (new.link.sent ≡ old.link.sent)

-- a fault then was at the stream, or at the file TO
abbrev pub IsOfReopened : List ℕ → Way → Blame → Type 0
IsOfReopened stream (OnFile to) b = (b ≡ reading stream) ⊎ (b ≡ writing to)
IsOfReopened stream (OnLink address) b = b ≡ reading stream

-- all packets of the session are sent, where the stream is that of the first pass
abbrev pub SessionSentOn : {E : Type 0} → Way → Job E → List ℕ → Routes → Routes → Type 0
SessionSentOn (OnFile to) job stream old new =
    (p b : List ℕ) → IsFirstPass job.format p b job.source job.marks → IsFile old.place.files stream b
    → Wrote (packets_file_in job.format job.coding to p b ∷ []) None old.place new.place
SessionSentOn (OnLink address) job stream old new =
    ((p b : List ℕ) → IsFirstPass job.format p b job.source job.marks → IsFile old.place.files stream b
    → LinkSentAll job.format job.coding address p b old.place.files old.link new.link)
    × (new.place.files ≡ old.place.files)

abbrev pub SessionSent : {E : Type 0} → Job E → List ℕ → Routes → Routes → Type 0
SessionSent job stream old new = SessionSentOn job.way job stream old new

-- or a front of them
abbrev pub SessionLeftOn : {E : Type 0} → Way → Job E → List ℕ → Routes → Routes → Type 0
SessionLeftOn (OnFile to) job stream old new =
    (p b : List ℕ) → IsFirstPass job.format p b job.source job.marks → IsFile old.place.files stream b
    → Wrote [] None old.place new.place ⊎ Wrote [] (Some (packets_file_in job.format job.coding to p b)) old.place new.place
SessionLeftOn (OnLink address) job stream old new =
    ((p b : List ℕ) → IsFirstPass job.format p b job.source job.marks → IsFile old.place.files stream b
    → (new.link.sent ≡ old.link.sent) ⊎ LinkSentFirst job.format job.coding address p b old.place.files old.link new.link)
    × (new.place.files ≡ old.place.files)

abbrev pub SessionLeft : {E : Type 0} → Job E → List ℕ → Routes → Routes → Type 0
SessionLeft job stream old new = SessionLeftOn job.way job stream old new

-- When the sending stops: the least group whose mark is another in a stream that was read again, which happens only where
-- the files are not told.
abbrev pub SessionStops : {E : Type 0} → Job E → List ℕ → Routes → Routes → SendFault → Type 0
SessionStops job stream old new (fault.Stopped stop) =
    IsStop (HadFault old.place new.place (IsOfReopened stream job.way)) (AimedFailed job.way old.link new.link) ⊥ stop
SessionStops job stream old new (fault.Changed change) =
    (again : List ℕ) × (least : IsLeastChange job.format job.source.priority job.source.tables.items job.marks again change)
    × ((p b : List ℕ) → IsFirstPass job.format p b job.source job.marks → IsFile old.place.files stream b
    → (old.place.files ≡ None) × HasSentBefore job.format job.coding p b least.before job.way old.link new.link)
SessionStops job stream old new (fault.Source refused) = ⊥

-- when each stop comes, in a format and a coding
abbrev pub IsEarlyStop : Format → Routes → Routes → List ℕ → List ℕ → Way → RouteStop → Type 0
IsEarlyStop t old new stream priority way stop =
    IsStop (HadFault old.place new.place (MayBlameIn t stream priority way old.place))
    (AimedFailed way old.link new.link × HasSessionIn t old.place stream priority) ⊥ stop

-- When each fault comes.
abbrev pub IsSendFault : {E : Type 0} → Format → Coding E → Routes → Routes → List ℕ → List ℕ → Way → SendFault → Type 0
IsSendFault t c old new stream priority way (fault.Stopped stop) = IsEarlyStop t old new stream priority way stop
IsSendFault t c old new stream priority way (fault.Source refused) =
    IsSourceFaultIn t MAX_SESSION old.place new.place stream priority refused × SendsNothing old new
IsSendFault t c old new stream priority way (fault.Changed change) = StreamChanged t c old new stream priority way change

-- the end that whatever stops the reading of both files makes
abbrev pub end_of_refusal : SourceFault → SendEnd
end_of_refusal source.NoMemory = NoMemory
end_of_refusal source.Failed = PlaceFault
end_of_refusal (source.Priority fault) = BadPriority fault
end_of_refusal (source.Stream scan) = BadStream scan
end_of_refusal (source.Plan fault) = BadPlan fault

-- the end that each makes; no output is used, so none can fail
abbrev pub IsEndOfStop : RouteStop → SendEnd → Type 0
IsEndOfStop stop.NoMemory end = end ≡ NoMemory
IsEndOfStop stop.Place end = end ≡ PlaceFault
IsEndOfStop stop.Link end = end ≡ LinkFault
IsEndOfStop stop.Out end = ⊥

abbrev pub IsEndOf : SendFault → SendEnd → Type 0
IsEndOf (fault.Stopped stop) end = IsEndOfStop stop end
IsEndOf (fault.Source refused) end = end ≡ end_of_refusal refused
IsEndOf (fault.Changed change) end = end ≡ Changed change
