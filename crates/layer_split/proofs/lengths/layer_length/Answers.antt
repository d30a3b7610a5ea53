-- One run more.
use Rattle.std.proofs.Common.{◌≡◌, ◌+◌, ◌≤◌, List, length, take, arith, ℕ, get_or}
use Rattle.std.specs.Prelude.{◌==◌, sum_by, if◌then◌else◌}
use Rattle.pet_base.specs.declared.limits.TheConstants.{MAX_GROUP_BYTES}
use Rattle.layer_split.specs.declared.cut.Run.{Run}
use Rattle.layer_split.specs.Layers.{run_table_size, runs_in}
use Rattle.layer_split.proofs.Totals.{layer_step, share}
use Rattle.layer_split.proofs.lengths.layer_length.Goals as goal

pub loop-run-preserved : goal.loop-run-preserved
loop-run-preserved c fits =
    let runs : List Run = c.args.runs.now in
    let i : ℕ = c.loop-run.run-index in
    let layer : ℕ = c.args.layer in
    let table : ℕ = if layer == 0 then run_table_size (length runs) else 0 in
    let step = layer_step layer runs i (record { layer = 0; at = 0; len = 0 }) c.loop-run-test.true in
    let part : ℕ = share layer (get_or runs i (record { layer = 0; at = 0; len = 0 })) in
    let before : c.loop-run.length ≡ table + sum_by (λ (r : Run). r.len) (runs_in layer (take i runs)) =
    c.loop-run.invariant fits in
    let whole : table + sum_by (λ (r : Run). r.len) (runs_in layer runs) ≤ MAX_GROUP_BYTES = fits in
    let more : sum_by (λ (r : Run). r.len) (runs_in layer (take (i + 1) runs))
    ≡ sum_by (λ (r : Run). r.len) (runs_in layer (take i runs)) + part = step.0 in
    let room : sum_by (λ (r : Run). r.len) (runs_in layer (take i runs)) + part
    ≤ sum_by (λ (r : Run). r.len) (runs_in layer runs) = step.1 in
    let short : c.loop-run.length + part ≤ MAX_GROUP_BYTES = omega arith in
    let now : c.with_part-length.result ≡ c.loop-run.length + part = c.with_part-length.ensures short in
    omega arith
