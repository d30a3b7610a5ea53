-- What each command completes follows from what it does; and each may end so before it has done anything. A line for each
-- command, which the file of its kind proves.
pub mod Streams
pub mod Routes
pub mod Files
use Rattle.std.proofs.Common.{◌≡◌, [], Option, None, Some, refl, inl, arith}
use Rattle.pet_base.specs.OutsideSeen.{OutsideSeen}
use Rattle.outside_files.specs.laws.WroteLaws.{Wrote-nothing}
use Rattle.field_elements.specs.Gf16.{gf16_coding}
use Rattle.gf8.specs.Gf8.{gf8_coding}
use Rattle.packet_frame.specs.declared.format.TheConstants.{FORMAT, BYTE_FORMAT}
use Rattle.text_status.specs.declared.status.Status.{Status}
use Rattle.text_status.specs.declared.status.Status.TheVariants.{NoMemory}
use Rattle.pet_text.specs.declared.words.Command.{Command}
use Rattle.pet_text.specs.declared.words.Command.TheVariants as words
use Rattle.pet_text.specs.Ends.{way_in}
use Rattle.command_merge.specs.declared.command.MergeEnd.TheVariants as merge
use Rattle.command_merge.specs.Merges.{Merges}
use Rattle.command_migrate.specs.declared.command.MigrateEnd.TheVariants as migrate
use Rattle.command_migrate.specs.Migrates.{Migrates}
use Rattle.command_plan.specs.Checks.{Checks}
use Rattle.command_plan.specs.Plans.{PlanEnds}
use Rattle.command_plan.specs.declared.checking.CheckEnd.TheVariants as check
use Rattle.command_plan.specs.declared.planning.PlanEnd.TheVariants as plan
use Rattle.command_receive.specs.Receives.{Receives}
use Rattle.command_receive.specs.declared.command.ReceiveEnd.TheVariants as receive
use Rattle.command_receive.specs.laws.SessionReceived.{nothing_received}
use Rattle.command_replay.specs.Replays.{Replays}
use Rattle.command_replay.specs.declared.command.ReplayEnd.TheVariants as replay
use Rattle.command_sample.specs.SampleSteps.{sample_steps}
use Rattle.command_sample.specs.Samples.{SampleEnds}
use Rattle.command_sample.specs.declared.command.SampleEnd.TheVariants as sample
use Rattle.command_send.specs.Sends.{Sends}
use Rattle.command_send.specs.SendsBytes.{SendsBytes}
use Rattle.command_send.specs.declared.command.SendEnd.TheVariants as send
use Rattle.command_send.specs.laws.EndLaws.{nothing_sent}
use Rattle.command_video.specs.Videos.{Videos}
use Rattle.command_video.specs.declared.command.VideoEnd.TheVariants as video
use Rattle.mpeg_system.specs.Unwraps.{Unwraps}
use Rattle.mpeg_system.specs.Wraps.{Wraps}
use Rattle.mpeg_system.specs.declared.unwrap_files.UnwrapEnd.TheVariants as unwrap
use Rattle.mpeg_system.specs.declared.wrap_files.WrapEnd.TheVariants as wrap
use Rattle.pet_byte.specs.ReceivesBytes.{ReceivesBytes}
use Rattle.pet_byte.specs.declared.breceive.ByteEnd.TheVariants as byte
use Rattle.pet_byte.specs.laws.BytesLaws.{no_bytes_received}
use Rattle.pet_repair.specs.Relays.{DoesRelay}
use Rattle.pet_repair.specs.Repairs.{Repairs}
use Rattle.pet_repair.specs.declared.relay.RelayEnd.TheVariants as relay
use Rattle.pet_repair.specs.declared.repair.RepairEnd.TheVariants as repair
use Rattle.pet_repair.specs.laws.SessionRelayed.{nothing_relayed}
use Rattle.pet_tool.specs.Commands.{Completes, Does}
use Rattle.pet_tool.specs.Commands.Files.{line_of_merge, line_of_video, line_of_migrate, line_of_unwrap, line_of_wrap}
use Rattle.pet_tool.specs.Commands.Files.{status_of_merge, status_of_video, status_of_migrate, status_of_unwrap}
use Rattle.pet_tool.specs.Commands.Files.{status_of_wrap}
use Rattle.pet_tool.specs.Commands.Routes.{line_of_receive, line_of_breceive, line_of_relay, line_of_repair}
use Rattle.pet_tool.specs.Commands.Routes.{status_of_receive, status_of_breceive, status_of_relay, status_of_repair}
use Rattle.pet_tool.specs.Commands.Streams.{line_of_plan, line_of_check, line_of_send, line_of_replay, line_of_sample}
use Rattle.pet_tool.specs.Commands.Streams.{status_of_plan, status_of_check, status_of_send, status_of_replay}
use Rattle.pet_tool.specs.Commands.Streams.{status_of_sample}
use Rattle.pet_tool.specs.Runs.{OnFiles, OnRead, OnCountedRead, OnMemory, OnRoutes}
use Rattle.pet_tool.specs.Told.{Tells}
use Rattle.pet_tool.proofs.BytesReceived.{with_what_was_sent}
use Rattle.pet_tool.proofs.Ends.{with_files, with_memory}
use Rattle.pet_tool.proofs.NoMemory.{unread}
use Rattle.pet_tool.proofs.Owed.Files.{merge_completes, video_completes, migrate_completes, unwrap_completes}
use Rattle.pet_tool.proofs.Owed.Files.{wrap_completes}
use Rattle.pet_tool.proofs.Owed.Routes.{receive_completes, breceive_completes, relay_completes, repair_completes}
use Rattle.pet_tool.proofs.Owed.Streams.{plan_completes, check_completes, send_completes, bsend_completes}
use Rattle.pet_tool.proofs.Owed.Streams.{replay_completes, sample_completes}

pub completes : (command : Option Command) (before after : OutsideSeen) (status : Status)
    → Does command before after status → Completes command before after status
completes None before after status does = tt
completes (Some (words.Plan stream priority)) before after status runs =
    plan_completes stream priority before after status runs
completes (Some (words.Check stream priority plan)) before after status runs =
    check_completes stream priority plan before after status runs
completes (Some (words.Send stream priority to)) before after status runs =
    send_completes stream priority (way_in to) before after status runs
completes (Some (words.Bsend stream priority to)) before after status runs =
    bsend_completes stream priority (way_in to) before after status runs
completes (Some (words.Replay stream priority script)) before after status runs =
    replay_completes stream priority script before after status runs
completes (Some (words.Sample seed groups)) before after status runs =
    sample_completes seed groups before after status runs
completes (Some (words.Receive from session layers store)) before after status runs =
    receive_completes (way_in from) session layers store before after status runs
completes (Some (words.Breceive from session layers)) before after status runs =
    with_what_was_sent (way_in from) session layers before after status
    (breceive_completes (way_in from) session layers before after status runs)
completes (Some (words.Relay from session to)) before after status runs =
    relay_completes (way_in from) session (way_in to) before after status runs
completes (Some (words.Repair store to)) before after status runs =
    repair_completes store (way_in to) before after status runs
completes (Some (words.Merge first second out)) before after status runs =
    merge_completes first second out before after status runs
completes (Some (words.Video store out)) before after status runs = video_completes store out before after status runs
completes (Some (words.Migrate store out)) before after status runs =
    migrate_completes store out before after status runs
completes (Some (words.Unwrap file id out)) before after status runs =
    unwrap_completes file id out before after status runs
completes (Some (words.Wrap file out)) before after status runs = wrap_completes file out before after status runs

-- no memory was found to read the words of a command: it has done nothing
module _ (before after : OutsideSeen) (status : Status) (tells : Tells [] NoMemory before after status) where
  no_memory : (command : Command) → Does (Some command) before after status
  no_memory (words.Plan stream priority) =
      unread line_of_plan status_of_plan (OnRead (PlanEnds stream priority)) plan.NoMemory before after status
      (record { only = with_files refl refl refl tt; files = refl; steps = refl }) tells tells
  no_memory (words.Check stream priority plan) =
      unread line_of_check status_of_check (OnRead (λ old new. Checks old new stream priority plan)) check.NoMemory
      before after status
      (record { only = with_files refl refl refl tt; files = refl; steps = refl }) tells tells
  no_memory (words.Send stream priority to) =
      unread line_of_send status_of_send (Sends stream priority (way_in to)) send.NoMemory before after status
      (nothing_sent FORMAT gf16_coding stream priority (way_in to) before) tells tells
  no_memory (words.Bsend stream priority to) =
      unread line_of_send status_of_send (SendsBytes stream priority (way_in to)) send.NoMemory before after status
      (nothing_sent BYTE_FORMAT gf8_coding stream priority (way_in to) before) tells tells
  no_memory (words.Replay stream priority script) =
      unread line_of_replay status_of_replay (OnCountedRead (λ old new. Replays old new stream priority script))
      replay.NoMemory before after status
      (record { only = with_files refl refl refl tt; files = refl }) tells tells
  no_memory (words.Sample seed groups) =
      unread line_of_sample status_of_sample (OnMemory (SampleEnds seed groups) (sample_steps seed groups))
      sample.NoMemory before after status
      (with_memory refl refl refl refl (omega arith) tt) tells tells
  no_memory (words.Receive from session layers store) =
      unread line_of_receive status_of_receive (Receives (way_in from) session layers store) receive.NoMemory before
      after status
      (nothing_received (way_in from) session layers store before) tells tells
  no_memory (words.Breceive from session layers) =
      unread line_of_breceive status_of_breceive (ReceivesBytes (way_in from) session layers) byte.NoMemory before after
      status
      (no_bytes_received (way_in from) session layers before) tells tells
  no_memory (words.Relay from session to) =
      unread line_of_relay status_of_relay (DoesRelay (way_in from) session (way_in to)) relay.NoMemory before after
      status
      (nothing_relayed (way_in from) session (way_in to) before) tells tells
  no_memory (words.Repair store to) =
      unread line_of_repair status_of_repair (OnRoutes (Repairs store (way_in to))) repair.NoMemory before after status
      (record { written = refl; out_faults = refl; did = inl (refl, refl) }) tells tells
  no_memory (words.Merge first second out) =
      unread line_of_merge status_of_merge (OnFiles (Merges first second out)) merge.NoMemory before after status
      (with_files refl refl refl refl) tells tells
  no_memory (words.Video store out) =
      unread line_of_video status_of_video (OnFiles (Videos store out)) video.NoMemory before after status
      (with_files refl refl refl (inl refl)) tells tells
  no_memory (words.Migrate store out) =
      unread line_of_migrate status_of_migrate (OnFiles (Migrates store out)) migrate.NoMemory before after status
      (with_files refl refl refl refl) tells tells
  no_memory (words.Unwrap file id out) =
      unread line_of_unwrap status_of_unwrap (OnFiles (Unwraps file id out)) unwrap.NoMemory before after status
      (with_files refl refl refl (inl (Wrote-nothing before.place before.place refl))) tells tells
  no_memory (words.Wrap file out) =
      unread line_of_wrap status_of_wrap (OnFiles (Wraps file out)) wrap.NoMemory before after status
      (with_files refl refl refl (Wrote-nothing before.place before.place refl)) tells tells

  pub does_no_memory : (command : Option Command) → (command ≡ None → ⊥) → Does command before after status
  does_no_memory None some = absurd (some refl)
  does_no_memory (Some command) some = no_memory command
