use Rattle.std.proofs.Common.{◌≡◌, ℕ, ◌+◌, ◌*◌, ◌<◌, length, slice_index_or}
use Rattle.pet_poly.specs.Value.{value}
use Rattle.field_rows.specs.Columns.{column}
use Rattle.field_rows.proofs.any_field.each_column.Given as goal

abbrev pub invariant-loop-c : goal.invariant-loop-c
invariant-loop-c g l = record {
  long : length l.into ≡ l.width;
  values : (k : ℕ) → k < l.c
      → slice_index_or l.into k g.F.Field.coding.ops.nought
      ≡ value g.F.Field.coding.ops (column g.F.Field.coding.ops.nought l.width l.count k l.rows) l.x;
  cost : l.steps ≡ l.initial.steps + l.c * l.count;
}
