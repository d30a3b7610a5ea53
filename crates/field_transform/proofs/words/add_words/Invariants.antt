use Rattle.std.proofs.Common.{◌≡◌, ℕ, ◌<◌, ◌≤◌, length}
use Rattle.std.specs.Prelude.{slice_index_or}
use Rattle.field_transform.proofs.words.add_words.Given as goal

abbrev pub invariant-loop-i : goal.invariant-loop-i
invariant-loop-i g l = record {
  long : length l.into ≡ length l.initial.into;
  done : (k : ℕ) → k < l.i → slice_index_or l.into k g.F.Field.coding.ops.nought
      ≡ g.F.Field.coding.ops.plus (slice_index_or l.initial.into k g.F.Field.coding.ops.nought)
      (slice_index_or l.other k g.F.Field.coding.ops.nought);
  rest : (k : ℕ) → l.i ≤ k
      → slice_index_or l.into k g.F.Field.coding.ops.nought
      ≡ slice_index_or l.initial.into k g.F.Field.coding.ops.nought;
}
