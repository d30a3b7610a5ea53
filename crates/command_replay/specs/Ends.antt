-- The end of `replay` that a fault of the session's two files makes, and which ends tell of a failure. This project's own.
use Rattle.std.specs.Prelude.{Bool, true, false}
use Rattle.session_source.specs.declared.source.SourceFault.{SourceFault}
use Rattle.session_source.specs.declared.source.SourceFault.TheVariants as source
use Rattle.command_replay.specs.declared.command.ReplayEnd.{ReplayEnd}
use Rattle.command_replay.specs.declared.command.ReplayEnd.TheVariants as replay

abbrev pub replay_end : SourceFault → ReplayEnd
replay_end source.NoMemory = replay.NoMemory
replay_end source.Failed = replay.PlaceFault
replay_end (source.Priority fault) = replay.BadPriority fault
replay_end (source.Stream scan) = replay.BadStream scan
replay_end (source.Plan fault) = replay.BadPlan fault

-- which ends tell of a failure of the place
abbrev pub replay_failed : ReplayEnd → Bool
replay_failed (replay.Done text) = false
replay_failed replay.NoMemory = false
replay_failed replay.PlaceFault = true
replay_failed (replay.BadPriority fault) = false
replay_failed (replay.BadStream scan) = false
replay_failed (replay.BadPlan fault) = false
replay_failed (replay.BadScript line) = false
