use Rattle.std.proofs.Common.{ℕ, ◌-◌, ◌≤◌, length}
use Rattle.std.specs.Prelude.{slice_index_or}
use Rattle.field_vectors.specs.laws.LaneLaws.{HasMade}
use Rattle.field_vectors.proofs.long_rows.butterfly_row.Given as goal

abbrev pub invariant-loop-at : goal.invariant-loop-at
invariant-loop-at g l =
    let o = g.P.Prepared.ops in
    let sum = λ (i : ℕ). o.plus (slice_index_or l.initial.low i o.nought)
    (o.times (g.P.Prepared.factor l.by) (slice_index_or l.initial.high i o.nought)) in
    record {
      inside : l.at ≤ length l.high;
      low : HasMade o.nought l.at (length l.initial.high) l.initial.low l.low sum;
      high : HasMade o.nought l.at (length l.initial.high) l.initial.high l.high
          (λ i. o.plus (slice_index_or l.initial.high i o.nought) (sum i));
    }

abbrev pub decreases-loop-at : goal.decreases-loop-at
decreases-loop-at g l = length l.high - l.at
