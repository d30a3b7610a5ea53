use Rattle.std.proofs.Common.{◌≡◌, ℕ, ◌+◌, ◌<◌, ◌≤◌, length, slice_index_or}
use Rattle.field_rows.proofs.any_field.multiply_each.Given as goal

abbrev pub invariant-loop-c : goal.invariant-loop-c
invariant-loop-c g l = record {
  long : length l.row ≡ length l.initial.row;
  done : (k : ℕ) → k < l.c
      → slice_index_or l.row k g.F.Field.coding.ops.nought
      ≡ g.F.Field.coding.ops.times l.factor (slice_index_or l.initial.row k g.F.Field.coding.ops.nought);
  rest : (k : ℕ) → l.c ≤ k
      → slice_index_or l.row k g.F.Field.coding.ops.nought ≡ slice_index_or l.initial.row k g.F.Field.coding.ops.nought;
  cost : l.steps ≡ l.initial.steps + l.c;
}
