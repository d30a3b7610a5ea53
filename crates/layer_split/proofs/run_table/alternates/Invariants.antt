use Rattle.std.proofs.Common.{◌≡◌, drop}
use Rattle.layer_split.specs.RunTable.{alternates, alternates_behind}
use Rattle.layer_split.proofs.run_table.alternates.Given as goal

-- what is behind the last run decides
abbrev pub invariant-loop-run : goal.invariant-loop-run
invariant-loop-run l = alternates l.runs ≡ alternates_behind l.last (drop l.run-index l.runs)
