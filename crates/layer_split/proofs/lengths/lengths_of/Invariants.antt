use Rattle.std.proofs.Common.{◌≡◌, ◌≤◌, ◌+◌, length}
use Rattle.std.specs.Prelude.{sum_by}
use Rattle.arrayvec.specs.ArrayVec.{array_vec_len}
use Rattle.pet_base.specs.declared.limits.TheConstants.{MAX_GROUP_BYTES, MAX_LAYERS}
use Rattle.layer_split.specs.Layers.{lengths_of, run_table_size}
use Rattle.layer_split.proofs.lengths.lengths_of.Given as goal

-- the layers so far
abbrev pub invariant-loop-layer : goal.invariant-loop-layer
invariant-loop-layer l = record {
  count : array_vec_len l.lengths ≡ l.layer;
  small : l.layer ≤ MAX_LAYERS;
  so_far : run_table_size (length l.runs) + sum_by (λ run. run.len) l.runs ≤ MAX_GROUP_BYTES
      → l.lengths.items ≡ lengths_of l.runs l.layer;
}
