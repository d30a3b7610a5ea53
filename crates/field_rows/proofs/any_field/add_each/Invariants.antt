use Rattle.std.proofs.Common.{ℕ}
use Rattle.std.specs.Prelude.{slice_index_or}
use Rattle.field_rows.proofs.AddedRows.{HasAdded}
use Rattle.field_rows.proofs.any_field.add_each.Given as goal

abbrev pub invariant-loop-j : goal.invariant-loop-j
invariant-loop-j g l =
    HasAdded g.F.Field.is_element g.F.Field.coding.ops l.j l.at l.row l.initial.rows l.rows
    (λ (i : ℕ). slice_index_or l.by i g.F.Field.coding.ops.nought) l.initial.steps l.steps
