use Rattle.std.proofs.Common.{ℕ, ◌-◌, ◌≤◌, length}
use Rattle.std.specs.Prelude.{slice_index_or}
use Rattle.field_vectors.specs.laws.LaneLaws.{HasMade}
use Rattle.field_vectors.proofs.long_rows.add_multiple_row.Given as goal

abbrev pub invariant-loop-at : goal.invariant-loop-at
invariant-loop-at g l =
    let o = g.P.Prepared.ops in
    record {
      inside : l.at ≤ length l.other;
      made : HasMade o.nought l.at (length l.other) l.initial.into l.into
          (λ (i : ℕ). o.plus (slice_index_or l.initial.into i o.nought)
          (o.times (g.P.Prepared.factor l.by) (slice_index_or l.other i o.nought)));
    }

abbrev pub decreases-loop-at : goal.decreases-loop-at
decreases-loop-at g l = length l.other - l.at
