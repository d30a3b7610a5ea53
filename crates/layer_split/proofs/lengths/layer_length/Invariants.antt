use Rattle.std.proofs.Common.{◌≡◌, ◌≤◌, ◌+◌, take, length}
use Rattle.std.specs.Prelude.{◌==◌, sum_by, if◌then◌else◌}
use Rattle.pet_base.specs.declared.limits.TheConstants.{MAX_GROUP_BYTES}
use Rattle.layer_split.specs.Layers.{layer_length, run_table_size, runs_in}
use Rattle.layer_split.proofs.lengths.layer_length.Given as goal

-- the runs so far, and the table
abbrev pub invariant-loop-run : goal.invariant-loop-run
invariant-loop-run l =
    layer_length l.runs l.layer ≤ MAX_GROUP_BYTES
    → l.length ≡ (if l.layer == 0 then run_table_size (length l.runs) else 0)
    + sum_by (λ run. run.len) (runs_in l.layer (take l.run-index l.runs))
