use Rattle.std.proofs.Common.{ℕ, ◌-◌, ◌≤◌, length}
use Rattle.std.specs.Prelude.{slice_index_or}
use Rattle.field_vectors.specs.laws.LaneLaws.{HasMade}
use Rattle.field_vectors.proofs.long_rows.multiply_row.Given as goal

abbrev pub invariant-loop-at : goal.invariant-loop-at
invariant-loop-at g l = record {
  inside : l.at ≤ length l.row;
  made : HasMade g.P.Prepared.ops.nought l.at (length l.initial.row) l.initial.row l.row
      (λ (i : ℕ). g.P.Prepared.ops.times (g.P.Prepared.factor l.by)
      (slice_index_or l.initial.row i g.P.Prepared.ops.nought));
}

abbrev pub decreases-loop-at : goal.decreases-loop-at
decreases-loop-at g l = length l.row - l.at
