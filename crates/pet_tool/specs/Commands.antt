-- What a run does, and when it is done, by the command that its words give; and the line and the status of each end:
-- a line here for each command. What stands in it is in the command's own file. This project's own.
pub mod Streams
pub mod Routes
pub mod Files
use Rattle.pet_tool.specs.declared.commands.End.{End}
use Rattle.pet_tool.specs.declared.commands.End.TheVariants as end
use Rattle.text_status.specs.declared.status.Status.{Status}
use Rattle.text_status.specs.declared.status.Status.TheVariants.{Usage, NoMemory}
use Rattle.std.specs.Prelude.{ℕ, List, [], Option, None, Some}
use Rattle.pet_base.specs.OutsideSeen.{OutsideSeen}
use Rattle.pet_text.specs.declared.words.Command.{Command}
use Rattle.pet_text.specs.Ends.{way_in}
use Rattle.pet_tool.specs.BytesSent.{CompletesBreceive}
use Rattle.pet_tool.specs.Headline.{MeetsHeadline}
use Rattle.pet_tool.specs.RelayHeadline.{CompletesRelay}
use Rattle.pet_tool.specs.Commands.Streams.{line_of_plan, status_of_plan, RunsPlan, CompletesPlan, line_of_check}
use Rattle.pet_tool.specs.Commands.Streams.{status_of_check, RunsCheck, CompletesCheck, line_of_send, status_of_send}
use Rattle.pet_tool.specs.Commands.Streams.{RunsSend, CompletesSend, RunsBsend, CompletesBsend, line_of_replay}
use Rattle.pet_tool.specs.Commands.Streams.{status_of_replay, RunsReplay, CompletesReplay, line_of_sample}
use Rattle.pet_tool.specs.Commands.Streams.{status_of_sample, RunsSample, CompletesSample}
use Rattle.pet_tool.specs.Commands.Routes.{line_of_receive, status_of_receive, RunsReceive, line_of_breceive}
use Rattle.pet_tool.specs.Commands.Routes.{status_of_breceive, RunsBreceive, line_of_relay, status_of_relay, RunsRelay}
use Rattle.pet_tool.specs.Commands.Routes.{line_of_repair, status_of_repair, RunsRepair, CompletesRepair}
use Rattle.pet_tool.specs.Commands.Files.{line_of_merge, status_of_merge, RunsMerge, CompletesMerge, line_of_video}
use Rattle.pet_tool.specs.Commands.Files.{status_of_video, RunsVideo, CompletesVideo, line_of_migrate}
use Rattle.pet_tool.specs.Commands.Files.{status_of_migrate, RunsMigrate, CompletesMigrate, line_of_unwrap}
use Rattle.pet_tool.specs.Commands.Files.{status_of_unwrap, RunsUnwrap, CompletesUnwrap, line_of_wrap, status_of_wrap}
use Rattle.pet_tool.specs.Commands.Files.{RunsWrap, CompletesWrap}
use Rattle.pet_tool.specs.Runs.{Refuses}
use Rattle.pet_text.specs.declared.words.Command.TheVariants as words

-- the line of the port, which `receive`, `breceive` and `relay` print themselves, is no line of their end
abbrev pub line_of : End → List ℕ
line_of end.Usage = []
line_of end.NoMemory = []
line_of (end.Plan e) = line_of_plan e
line_of (end.Check e) = line_of_check e
line_of (end.Send e) = line_of_send e
line_of (end.Bsend e) = line_of_send e
line_of (end.Replay e) = line_of_replay e
line_of (end.Sample e) = line_of_sample e
line_of (end.Receive e) = line_of_receive e
line_of (end.Breceive e) = line_of_breceive e
line_of (end.Relay e) = line_of_relay e
line_of (end.Repair e) = line_of_repair e
line_of (end.Merge e) = line_of_merge e
line_of (end.Video e) = line_of_video e
line_of (end.Migrate e) = line_of_migrate e
line_of (end.Unwrap e) = line_of_unwrap e
line_of (end.Wrap e) = line_of_wrap e

abbrev pub status_of : End → Status
status_of end.Usage = Usage
status_of end.NoMemory = NoMemory
status_of (end.Plan e) = status_of_plan e
status_of (end.Check e) = status_of_check e
status_of (end.Send e) = status_of_send e
status_of (end.Bsend e) = status_of_send e
status_of (end.Replay e) = status_of_replay e
status_of (end.Sample e) = status_of_sample e
status_of (end.Receive e) = status_of_receive e
status_of (end.Breceive e) = status_of_breceive e
status_of (end.Relay e) = status_of_relay e
status_of (end.Repair e) = status_of_repair e
status_of (end.Merge e) = status_of_merge e
status_of (end.Video e) = status_of_video e
status_of (end.Migrate e) = status_of_migrate e
status_of (end.Unwrap e) = status_of_unwrap e
status_of (end.Wrap e) = status_of_wrap e

-- what a run does; words of no form are refused
abbrev pub Does : Option Command → OutsideSeen → OutsideSeen → Status → Type 0
Does None before after status = Refuses before after status
Does (Some (words.Plan stream priority)) before after status = RunsPlan stream priority before after status
Does (Some (words.Check stream priority plan)) before after status = RunsCheck stream priority plan before after status
Does (Some (words.Send stream priority to)) before after status =
    RunsSend stream priority (way_in to) before after status
Does (Some (words.Bsend stream priority to)) before after status =
    RunsBsend stream priority (way_in to) before after status
Does (Some (words.Replay stream priority script)) before after status =
    RunsReplay stream priority script before after status
Does (Some (words.Sample seed groups)) before after status = RunsSample seed groups before after status
Does (Some (words.Receive from session layers store)) before after status =
    RunsReceive (way_in from) session layers store before after status
Does (Some (words.Breceive from session layers)) before after status =
    RunsBreceive (way_in from) session layers before after status
Does (Some (words.Relay from session to)) before after status =
    RunsRelay (way_in from) session (way_in to) before after status
Does (Some (words.Repair store to)) before after status = RunsRepair store (way_in to) before after status
Does (Some (words.Merge first second out)) before after status = RunsMerge first second out before after status
Does (Some (words.Video store out)) before after status = RunsVideo store out before after status
Does (Some (words.Migrate store out)) before after status = RunsMigrate store out before after status
Does (Some (words.Unwrap file id out)) before after status = RunsUnwrap file id out before after status
Does (Some (words.Wrap file out)) before after status = RunsWrap file out before after status

-- when a run is done; of words of no form nothing is owed here
abbrev pub Completes : Option Command → OutsideSeen → OutsideSeen → Status → Type 0
Completes None before after status = Unit {0}
Completes (Some (words.Plan stream priority)) before after status = CompletesPlan stream priority before after status
Completes (Some (words.Check stream priority plan)) before after status =
    CompletesCheck stream priority plan before after status
Completes (Some (words.Send stream priority to)) before after status =
    CompletesSend stream priority (way_in to) before after status
Completes (Some (words.Bsend stream priority to)) before after status =
    CompletesBsend stream priority (way_in to) before after status
Completes (Some (words.Replay stream priority script)) before after status =
    CompletesReplay stream priority script before after status
Completes (Some (words.Sample seed groups)) before after status = CompletesSample seed groups before after status
Completes (Some (words.Receive from session layers store)) before after status =
    MeetsHeadline (way_in from) session layers store before after status
Completes (Some (words.Breceive from session layers)) before after status =
    CompletesBreceive (way_in from) session layers before after status
Completes (Some (words.Relay from session to)) before after status =
    CompletesRelay (way_in from) session (way_in to) before after status
Completes (Some (words.Repair store to)) before after status = CompletesRepair store (way_in to) before after status
Completes (Some (words.Merge first second out)) before after status =
    CompletesMerge first second out before after status
Completes (Some (words.Video store out)) before after status = CompletesVideo store out before after status
Completes (Some (words.Migrate store out)) before after status = CompletesMigrate store out before after status
Completes (Some (words.Unwrap file id out)) before after status = CompletesUnwrap file id out before after status
Completes (Some (words.Wrap file out)) before after status = CompletesWrap file out before after status
