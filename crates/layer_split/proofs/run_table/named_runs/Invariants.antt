use Rattle.std.proofs.Common.{◌≡◌, map}
use Rattle.std.specs.List.{range_with_len}
use Rattle.layer_split.specs.RunTable.{named_run}
use Rattle.layer_split.proofs.run_table.named_runs.Given as goal

-- the entries so far
abbrev pub invariant-loop-i : goal.invariant-loop-i
invariant-loop-i l = l.runs.items ≡ map (named_run l.bytes) (range_with_len 0 l.i)
