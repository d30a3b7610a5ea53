use Rattle.std.proofs.Common.{◌≡◌, ◌≤◌, ◌*◌, take}
use Rattle.layer_split.specs.RunTable.{bytes_in}
use Rattle.layer_split.proofs.run_table.bytes_in.Given as goal

-- the runs so far
abbrev pub invariant-loop-run : goal.invariant-loop-run
invariant-loop-run l = record {
  total : l.total ≡ bytes_in l.layer (take l.run-index l.runs);
  bound : l.total ≤ l.run-index * 4294967295;
}
