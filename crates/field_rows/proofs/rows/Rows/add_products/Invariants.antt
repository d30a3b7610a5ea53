use Rattle.std.proofs.Common.{ℕ, map}
use Rattle.std.specs.Prelude.{slice_index_or}
use Rattle.field_rows.proofs.AddedRows.{HasAdded}
use Rattle.field_rows.proofs.rows.Rows.add_products.Given as goal

abbrev pub invariant-loop-j : goal.invariant-loop-j
invariant-loop-j g l =
    HasAdded g.Self.Field.is_element g.Self.Field.coding.ops l.j l.at l.row l.initial.rows l.rows
    (λ (i : ℕ). slice_index_or (map g.Self.Rows.element_of l.factors) i g.Self.Field.coding.ops.nought)
    l.initial.steps l.steps
