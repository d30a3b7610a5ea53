use Rattle.std.proofs.Common.{◌≡◌, ◌++◌, take, drop, map}
use Rattle.layer_split.specs.Splitting.{rebased}
use Rattle.layer_split.proofs.cut.rebase_runs.Given as goal

-- the runs so far are counted anew
abbrev pub invariant-loop-i : goal.invariant-loop-i
invariant-loop-i l = l.runs ≡ map (rebased l.from) (take l.i l.fn.runs) ++ drop l.i l.fn.runs
