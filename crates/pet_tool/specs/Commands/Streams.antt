-- The commands that read a stream and its priorities, or make a stream: `plan`, `check`, `send`, `bsend`, `replay`
-- and `sample`. For each the line and the status of
-- each of its ends, what a run of it does, and when it is done. This project's own.
use Rattle.command_plan.specs.declared.planning.PlanEnd.{PlanEnd}
use Rattle.command_plan.specs.declared.planning.PlanEnd.TheVariants as plan
use Rattle.command_plan.specs.declared.checking.CheckEnd.{CheckEnd}
use Rattle.command_plan.specs.declared.checking.CheckEnd.TheVariants as check
use Rattle.command_send.specs.declared.command.SendEnd.{SendEnd}
use Rattle.command_send.specs.declared.command.SendEnd.TheVariants as send
use Rattle.command_replay.specs.declared.command.ReplayEnd.{ReplayEnd}
use Rattle.command_replay.specs.declared.command.ReplayEnd.TheVariants as replay
use Rattle.command_sample.specs.declared.command.SampleEnd.{SampleEnd}
use Rattle.command_sample.specs.declared.command.SampleEnd.TheVariants as sample
use Rattle.text_status.specs.declared.status.PlanKind.TheVariants as kind
use Rattle.text_status.specs.declared.status.Status.{Status}
use Rattle.text_status.specs.declared.status.Status.TheVariants.{Done, NoMemory, PlaceFault, LinkFault, BadStream}
use Rattle.text_status.specs.declared.status.Status.TheVariants.{BadPriority, BadPlan, NotLeast, Changed, BadScript}
use Rattle.std.specs.Prelude.{ℕ, List, [], ◌≡◌, ◌∷◌, length, Some, Ok}
use Rattle.text_plan.specs.PlanLines.{least_text, send_text}
use Rattle.pet_base.specs.declared.limits.TheConstants.{MAX_REPLAY_SESSION}
use Rattle.pet_base.specs.declared.event.Event.{Event}
use Rattle.pet_base.specs.OutsideSeen.{OutsideSeen}
use Rattle.outside_files.specs.Uses.{reading}
use Rattle.command_replay.specs.Replays.{script_in, Replays}
use Rattle.command_replay.specs.ReplayText.{replay_text}
use Rattle.command_sample.specs.Samples.{Samples, SampleEnds}
use Rattle.stream_session.specs.Accepted.{session_of}
use Rattle.stream_session.specs.Sessions.{IsGiven, IsGivenWithin, tables_in}
use Rattle.command_plan.specs.SessionPlan.{session_plan}
use Rattle.command_send.specs.Sends.{sent_line_text, Sends}
use Rattle.command_send.specs.SendsBytes.{SendsAllBytes, IsGivenBytes, SendsBytes}
use Rattle.command_send.specs.SendsSession.{SendsAll, uses}
use Rattle.outside_routes.specs.RouteFaults.{AimedFailed}
use Rattle.outside_routes.specs.Way.{Way}
use Rattle.pet_tool.specs.Undisturbed.{IsUndisturbed, IsUndisturbedOn, EndsWith}
use Rattle.command_plan.specs.Checks.{Checks}
use Rattle.command_plan.specs.Plans.{PlanEnds}
use Rattle.command_sample.specs.SampleSteps.{sample_steps}
use Rattle.pet_tool.specs.Runs.{Runs, OnRead, OnCountedRead, OnMemory}
use Rattle.pet_tool.specs.Statuses.{status_of_session}

-- `plan`
abbrev pub line_of_plan : PlanEnd → List ℕ
line_of_plan (plan.Done text) = text.items
line_of_plan plan.NoMemory = []
line_of_plan plan.PlaceFault = []
line_of_plan (plan.BadPriority fault) = []
line_of_plan (plan.BadStream scan) = []
line_of_plan (plan.BadPlan fault) = []

abbrev pub status_of_plan : PlanEnd → Status
status_of_plan (plan.Done text) = Done
status_of_plan plan.NoMemory = NoMemory
status_of_plan plan.PlaceFault = PlaceFault
status_of_plan (plan.BadPriority fault) = BadPriority fault
status_of_plan (plan.BadStream scan) = BadStream scan
status_of_plan (plan.BadPlan fault) = status_of_session fault

abbrev pub RunsPlan : List ℕ → List ℕ → OutsideSeen → OutsideSeen → Status → Type 0
RunsPlan stream priority before after status =
    Runs line_of_plan status_of_plan (OnRead (PlanEnds stream priority)) before after status

-- two files that are told and an accepted session are planned
abbrev pub CompletesPlan : List ℕ → List ℕ → OutsideSeen → OutsideSeen → Status → Type 0
CompletesPlan stream priority before after status =
    (p b : List ℕ) → IsUndisturbed (reading stream ∷ reading priority ∷ []) before after status
    → IsGiven before.place stream priority p b
    → EndsWith Done (session_plan p b) before after status

-- `check`
abbrev pub line_of_check : CheckEnd → List ℕ
line_of_check (check.Done groups) = least_text groups
line_of_check check.NoMemory = []
line_of_check check.PlaceFault = []
line_of_check (check.BadPriority fault) = []
line_of_check (check.BadStream scan) = []
line_of_check (check.BadPlan fault) = []
line_of_check check.PlanLong = []
line_of_check (check.Text line) = []
line_of_check (check.Lines lines) = []
line_of_check (check.NotLeast group) = []

abbrev pub status_of_check : CheckEnd → Status
status_of_check (check.Done groups) = Done
status_of_check check.NoMemory = NoMemory
status_of_check check.PlaceFault = PlaceFault
status_of_check (check.BadPriority fault) = BadPriority fault
status_of_check (check.BadStream scan) = BadStream scan
status_of_check (check.BadPlan fault) = status_of_session fault
status_of_check check.PlanLong = BadPlan kind.PlanLong 0
status_of_check (check.Text line) = BadPlan kind.Text line
status_of_check (check.Lines lines) = BadPlan kind.Lines lines
status_of_check (check.NotLeast group) = NotLeast group

abbrev pub RunsCheck : List ℕ → List ℕ → List ℕ → OutsideSeen → OutsideSeen → Status → Type 0
RunsCheck stream priority plan before after status =
    Runs line_of_check status_of_check (OnRead (λ old new. Checks old new stream priority plan)) before after status

-- of two files that are told and an accepted session the plan that `plan` prints of them is checked
abbrev pub CompletesCheck : List ℕ → List ℕ → List ℕ → OutsideSeen → OutsideSeen → Status → Type 0
CompletesCheck stream priority plan before after status =
    (p b : List ℕ) → IsUndisturbed (reading stream ∷ reading priority ∷ reading plan ∷ []) before after status
    → (given : IsGiven before.place stream priority p b) → given.files plan ≡ Some (session_plan p b)
    → EndsWith Done (least_text (length (tables_in p b))) before after status

-- `send`
abbrev pub line_of_send : SendEnd → List ℕ
line_of_send (send.Done sent) = send_text sent.session sent.groups sent.datagrams
line_of_send send.NoMemory = []
line_of_send send.PlaceFault = []
line_of_send send.LinkFault = []
line_of_send (send.BadPriority fault) = []
line_of_send (send.BadStream scan) = []
line_of_send (send.BadPlan fault) = []
line_of_send (send.Changed change) = []

abbrev pub status_of_send : SendEnd → Status
status_of_send (send.Done sent) = Done
status_of_send send.NoMemory = NoMemory
status_of_send send.PlaceFault = PlaceFault
status_of_send send.LinkFault = LinkFault
status_of_send (send.BadPriority fault) = BadPriority fault
status_of_send (send.BadStream scan) = BadStream scan
status_of_send (send.BadPlan fault) = status_of_session fault
status_of_send (send.Changed change) = Changed change.group change.first change.second

abbrev pub RunsSend : List ℕ → List ℕ → Way → OutsideSeen → OutsideSeen → Status → Type 0
RunsSend stream priority to before after status =
    Runs line_of_send status_of_send (Sends stream priority to) before after status

-- of two files that are told and an accepted session the packets are sent, where the link had no fault either
abbrev pub CompletesSend : List ℕ → List ℕ → Way → OutsideSeen → OutsideSeen → Status → Type 0
CompletesSend stream priority to before after status =
    (p b : List ℕ) → IsUndisturbedOn (AimedFailed to) (uses stream priority to) before after status
    → IsGiven before.place stream priority p b
    → SendsAll to p b before after × EndsWith Done (sent_line_text p b) before after status

-- `bsend`
abbrev pub RunsBsend : List ℕ → List ℕ → Way → OutsideSeen → OutsideSeen → Status → Type 0
RunsBsend stream priority to before after status =
    Runs line_of_send status_of_send (SendsBytes stream priority to) before after status

-- of two files that are told and a session of the byte profile its packets are sent, where the link had no fault either
abbrev pub CompletesBsend : List ℕ → List ℕ → Way → OutsideSeen → OutsideSeen → Status → Type 0
CompletesBsend stream priority to before after status =
    (p b : List ℕ) → IsUndisturbedOn (AimedFailed to) (uses stream priority to) before after status
    → IsGivenBytes before.place stream priority p b
    → SendsAllBytes to p b before after × EndsWith Done (sent_line_text p b) before after status

-- `replay`
abbrev pub line_of_replay : ReplayEnd → List ℕ
line_of_replay (replay.Done text) = text.items
line_of_replay replay.NoMemory = []
line_of_replay replay.PlaceFault = []
line_of_replay (replay.BadPriority fault) = []
line_of_replay (replay.BadStream scan) = []
line_of_replay (replay.BadPlan fault) = []
line_of_replay (replay.BadScript line) = []

abbrev pub status_of_replay : ReplayEnd → Status
status_of_replay (replay.Done text) = Done
status_of_replay replay.NoMemory = NoMemory
status_of_replay replay.PlaceFault = PlaceFault
status_of_replay (replay.BadPriority fault) = BadPriority fault
status_of_replay (replay.BadStream scan) = BadStream scan
status_of_replay (replay.BadPlan fault) = status_of_session fault
status_of_replay (replay.BadScript line) = BadScript line

abbrev pub RunsReplay : List ℕ → List ℕ → List ℕ → OutsideSeen → OutsideSeen → Status → Type 0
RunsReplay stream priority script before after status =
    Runs line_of_replay status_of_replay
    (OnCountedRead (λ old new. Replays old new stream priority script)) before after status

-- three files that are told, a session that `replay` takes and a script of it, are replayed
abbrev pub CompletesReplay : List ℕ → List ℕ → List ℕ → OutsideSeen → OutsideSeen → Status → Type 0
CompletesReplay stream priority script before after status =
    (p b t : List ℕ) (events : List Event)
    → IsUndisturbed (reading stream ∷ reading priority ∷ reading script ∷ []) before after status
    → (given : IsGivenWithin MAX_REPLAY_SESSION before.place stream priority p b) → given.files script ≡ Some t
    → script_in p b t ≡ Ok events
    → EndsWith Done (replay_text (session_of p b) events) before after status

-- `sample`
abbrev pub line_of_sample : SampleEnd → List ℕ
line_of_sample (sample.Done text) = text.items
line_of_sample sample.NoMemory = []

abbrev pub status_of_sample : SampleEnd → Status
status_of_sample (sample.Done text) = Done
status_of_sample sample.NoMemory = NoMemory

abbrev pub RunsSample : ℕ → ℕ → OutsideSeen → OutsideSeen → Status → Type 0
RunsSample seed groups before after status =
    Runs line_of_sample status_of_sample
    (OnMemory (SampleEnds seed groups) (sample_steps seed groups)) before after status

-- a sample is made and received, whatever its seed
abbrev pub CompletesSample : ℕ → ℕ → OutsideSeen → OutsideSeen → Status → Type 0
CompletesSample seed groups before after status =
    IsUndisturbed [] before after status
    → (text : List ℕ) × Samples seed groups text × EndsWith Done text before after status
