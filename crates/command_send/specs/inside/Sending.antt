-- What the second pass of `send` has sent where it ends, at a change or at a failure. This project's own.
use Rattle.std.specs.Prelude.{◌≡◌, ◌⊎◌, ℕ, ◌+◌, ◌≤◌, List, length, IfSome}
use Rattle.std.specs.Io.KnownBytes.{prepend_known, IsAtEnd}
use Rattle.pet_base.specs.declared.limits.TheConstants.{MAX_STREAM}
use Rattle.pet_base.specs.Causes.{Blames}
use Rattle.pet_base.specs.declared.place.Side.TheVariants.{Read, Written}
use Rattle.pet_base.specs.Seen.{Seen, Blame, HadFault}
use Rattle.stream_groups.specs.CutGroups.{CutGroup}
use Rattle.stream_session.specs.Marks.{mark_at, group_marks}
use Rattle.command_send.specs.declared.sent_group.Change.{Change}
use Rattle.command_send.specs.declared.fault.SendFault.{SendFault}
use Rattle.command_send.specs.declared.fault.SendFault.TheVariants.{Stopped, Source as Refused, Changed}
use Rattle.outside_files.specs.Outputs.{IsPrefix}
use Rattle.outside_routes.specs.RouteFaults.{IsStop}
use Rattle.outside_routes.specs.Sending.{Routes, Sends, SendsPart, OutputFailed, SendingFailed}
use Rattle.outside_routes.specs.declared.fault.RouteStop.{RouteStop}
use Rattle.outside_routes.specs.Way.{Way, OnFile, OnLink}
use Rattle.command_send.specs.Sending.{sent_datagrams, AgreeBelow, IsFront, AreFound, AreAllFound, IsLeastChange}
use Rattle.command_send.specs.Sending.{HaveTables}
use Rattle.command_send.specs.inside.Job.{Job}

-- the groups so far: each has the mark and the table of the first pass, and their packets were sent
pub record HasSentSome {E : Type 0} (job : Job E) (groups : List CutGroup)
    (old new : Routes) : Type 0 where
  pub agree : AgreeBelow job.marks groups (length groups)
  pub tables : HaveTables job.format job.source groups
  pub target : new.place.target ≡ old.place.target
  pub sends : Sends job.way (sent_datagrams job.format job.coding job.source groups) old new

-- The least group whose marks differ: the packets of the groups before it were sent.
pub record IsChange {E : Type 0} (job : Job E) (stream : List ℕ) (change : Change)
    (old new : Routes) : Type 0 where
  pub least : IsLeastChange job.format job.source.priority job.source.tables.items job.marks stream change
  pub sent : HasSentSome job least.before old new

-- All marks agree: the packets of all groups that both passes found were sent.
pub record IsAllSent {E : Type 0} (job : Job E) (stream : List ℕ)
    (old new : Routes) : Type 0 where
  pub groups : List CutGroup
  pub all : AreAllFound job.source.priority stream groups
  pub sent : HasSentSome job groups old new
  pub agree : (k : ℕ) → mark_at job.marks k ≡ mark_at (group_marks groups) k

-- a front of the packets of groups whose marks and tables agree was sent
pub record IsPart {E : Type 0} (job : Job E) (HoldsOfGroups : List CutGroup → Type 0)
    (old new : Routes) : Type 0 where
  pub groups : List CutGroup
  pub first_groups : HoldsOfGroups groups
  pub agree : AgreeBelow job.marks groups (length groups)
  pub tables : HaveTables job.format job.source groups
  pub sends : SendsPart job.way (sent_datagrams job.format job.coding job.source groups) old new

-- These bytes were taken from the front of the input, to its end or past the most that a stream may have.
pub record IsTaken (stream : List ℕ) (old new : Seen) : Type 0 where
  pub rest : old.rest ≡ prepend_known stream new.rest
  pub few : length stream ≤ MAX_STREAM + 1
  pub whole : length stream ≤ MAX_STREAM → IsAtEnd new.rest

-- what the pass has done of what it has read, to the end
pub record HasSentAll {E : Type 0} (job : Job E) (old new : Routes) : Type 0 where
  pub stream : List ℕ
  pub taken : IsTaken stream old.place new.place
  pub all : IsAllSent job stream old new

pub record HasSentToChange {E : Type 0} (job : Job E) (change : Change)
    (old new : Routes) : Type 0 where
  pub stream : List ℕ
  pub taken : IsTaken stream old.place new.place
  pub change_is : IsChange job stream change old new

-- or to a failure
pub record SentPart {E : Type 0} (job : Job E) (old new : Routes) : Type 0 where
  pub stream : List ℕ
  pub read : IfSome old.place.rest (IsPrefix stream)
  pub part : IsPart job (AreFound job.source.priority stream) old new
  pub told : IfSome old.place.rest (λ bytes. IsFront job.source.priority bytes part.groups)

-- where a file is written, the output
abbrev pub IsOfOutput : Way → Seen → Blame → Type 0
IsOfOutput (OnFile name) place blame = Blames Written place.target blame
IsOfOutput (OnLink address) place blame = ⊥

-- the place had a fault at its input, or at such an output, where it is told at which
abbrev pub PassFailed : Way → Seen → Seen → Type 0
PassFailed way old new = HadFault old new (λ blame. Blames Read old.source blame ⊎ IsOfOutput way old blame)

-- when a group's packets stop, and when the pass does
abbrev pub StopsGroup : {E : Type 0} → Job E → Routes → Routes → RouteStop → Type 0
StopsGroup job old new stop =
    IsStop (OutputFailed job.way old.place new.place) (SendingFailed job.way old.link new.link) ⊥ stop

abbrev pub StopsPass : {E : Type 0} → Job E → Routes → Routes → RouteStop → Type 0
StopsPass job old new stop =
    IsStop (PassFailed job.way old.place new.place) (SendingFailed job.way old.link new.link) ⊥ stop

-- when the pass stops with each cause, and what then holds
abbrev pub IsSendStop : {E : Type 0} → Job E → Routes → Routes → SendFault → Type 0
IsSendStop job old new (Stopped stop) =
    StopsPass job old new stop × SentPart job old new
IsSendStop job old new (Changed change) = HasSentToChange job change old new
IsSendStop job old new (Refused refusal) = ⊥

-- what the pass may answer where the place tells the stream of the first pass: never a change
abbrev pub IsToldStop : Way → List (List ℕ) → Routes → Routes → SendFault → Type 0
IsToldStop way datagrams old new (Stopped stop) = SendsPart way datagrams old new
IsToldStop way datagrams old new (Changed change) = ⊥
IsToldStop way datagrams old new (Refused refusal) = ⊥
