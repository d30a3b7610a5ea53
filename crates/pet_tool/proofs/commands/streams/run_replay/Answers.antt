use Rattle.std.proofs.Common.{refl}
use Rattle.command_replay.specs.Replays.{Replays}
use Rattle.pet_tool.specs.Commands.Streams.{line_of_replay, status_of_replay}
use Rattle.pet_tool.specs.Runs.{OnCountedRead}
use Rattle.pet_tool.proofs.Ends.{runs_of_three, with_files}
use Rattle.pet_tool.proofs.Owed.Streams.{replay_agrees}
use Rattle.pet_tool.proofs.commands.streams.run_replay.Goals as goal

pub returns-clause-ends : goal.returns-clause-ends
returns-clause-ends g c = record {
  does =
      runs_of_three line_of_replay status_of_replay replay_agrees
      (λ s p x. OnCountedRead (λ old new. Replays old new s p x)) _ _ c.replay.result c.as_str-stream.ensures
      c.as_str-priority.ensures c.as_str-script.ensures
      (record {
        only = with_files refl refl refl c.replay.ensures.replays;
        files = c.replay.ensures.files;
      })
      c.replay.ensures.once refl;
}
