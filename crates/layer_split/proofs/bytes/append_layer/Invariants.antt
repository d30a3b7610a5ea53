use Rattle.std.proofs.Common.{◌≡◌, ◌++◌, take}
use Rattle.std.specs.List.{flat_map}
use Rattle.layer_split.specs.Layers.{runs_in, bytes_of_run}
use Rattle.layer_split.specs.Bytes.{table_of}
use Rattle.layer_split.proofs.bytes.append_layer.Given as goal

-- the run table, and the layer's runs so far
abbrev pub invariant-loop-run : goal.invariant-loop-run
invariant-loop-run l =
    l.into.items
    ≡ l.fn.into.items
    ++ (table_of l.runs l.layer ++ flat_map (bytes_of_run l.stream) (runs_in l.layer (take l.run-index l.runs)))
