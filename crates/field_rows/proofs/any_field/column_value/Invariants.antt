use Rattle.std.proofs.Common.{◌≡◌, ◌+◌, ◌*◌, drop}
use Rattle.pet_poly.specs.inside.Horner.{horner_from}
use Rattle.field_rows.specs.Columns.{column}
use Rattle.field_rows.proofs.any_field.column_value.Given as goal

abbrev pub invariant-loop-j : goal.invariant-loop-j
invariant-loop-j g l = record {
  place : l.at ≡ l.j * l.width;
  value : l.value
      ≡ horner_from g.F.Field.coding.ops g.F.Field.coding.ops.nought
      (drop l.j (column g.F.Field.coding.ops.nought l.width l.fn.count l.c l.rows)) l.x;
  cost : l.steps + l.j ≡ l.initial.steps + l.fn.count;
}
