use Rattle.std.proofs.Common.{◌≡◌, ◌++◌, take, length}
use Rattle.std.specs.List.{flat_map}
use Rattle.std.specs.Int.{to_be_bytes, w32}
use Rattle.layer_split.specs.Layers.{run_entry}
use Rattle.layer_split.proofs.bytes.append_table.Given as goal

-- the number of runs, and the entries so far
abbrev pub invariant-loop-run : goal.invariant-loop-run
invariant-loop-run l =
    l.into.items ≡ l.fn.into.items ++ (to_be_bytes w32 (length l.runs) ++ flat_map run_entry (take l.run-index l.runs))
