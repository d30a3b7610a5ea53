use Rattle.std.proofs.Common.{◌≡◌, ℕ, ◌*◌, ◌<◌, ◌≤◌, length, All, slice_index_or}
use Rattle.pet_poly.specs.Rows.{words}
use Rattle.pet_interp.proofs.rows.subtract.Given as goal

abbrev pub invariant-loop-c : goal.invariant-loop-c
invariant-loop-c g l = record {
  at : l.at ≡ l.c * g.F.Field.coding.width;
  long : length l.row ≡ length l.initial.row;
  elements : All g.F.Field.is_element l.row;
  done : (k : ℕ) → k < l.c → slice_index_or l.row k g.F.Field.coding.ops.nought
      ≡ g.F.Field.coding.ops.minus (slice_index_or
      (words g.F.Field.coding.spelt g.F.Field.coding.width (length l.initial.row) l.values) k
      g.F.Field.coding.ops.nought) (slice_index_or l.initial.row k g.F.Field.coding.ops.nought);
  rest : (k : ℕ) → l.c ≤ k
      → slice_index_or l.row k g.F.Field.coding.ops.nought ≡ slice_index_or l.initial.row k g.F.Field.coding.ops.nought;
}
