use Rattle.std.proofs.Common.{◌≡◌, ◌++◌, take}
use Rattle.std.specs.List.{flat_map}
use Rattle.command_replay.specs.ReplayText.{layer_line}
use Rattle.command_replay.specs.inside.Playing.{session_in}
use Rattle.command_replay.proofs.lines.append_layers.Given as goal

abbrev pub invariant-loop-layer : goal.invariant-loop-layer
invariant-loop-layer l = record {
  lines : l.text.items
      ≡ l.initial.text.items ++ flat_map (layer_line (session_in l.world) l.number) (take l.layer-index l.shown);
}
