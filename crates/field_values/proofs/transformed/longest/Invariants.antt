use Rattle.std.proofs.Common.{ℕ, ◌<◌, ◌≤◌}
use Rattle.std.specs.Prelude.{slice_index_or}
use Rattle.field_rows.specs.declared.blocks.Block.{Block}
use Rattle.field_values.proofs.transformed.longest.Given as goal

abbrev pub invariant-loop-i : goal.invariant-loop-i
invariant-loop-i l = record { so_far : (j : ℕ) (d : Block) → j < l.i → (slice_index_or l.blocks j d).length ≤ l.most }
