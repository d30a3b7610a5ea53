use Rattle.std.proofs.Common.{◌≤◌, length, take}
use Rattle.command_replay.specs.inside.Playing.{ArePlayed}
use Rattle.command_replay.proofs.playing.play_events.Given as goal

abbrev pub invariant-loop-index : goal.invariant-loop-index
invariant-loop-index g l = record {
  few : l.index ≤ length l.events;
  played : ArePlayed l.initial.world (take l.index l.events) l.initial.text.items l.world l.text.items;
}
