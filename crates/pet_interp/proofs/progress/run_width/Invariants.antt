use Rattle.std.proofs.Common.{◌≡◌, ℕ, ◌+◌, ◌-◌, ◌<◌, ◌≤◌, length, slice_index}
use Rattle.field_rows.specs.declared.blocks.TheConstants.{MAX_WIDTH}
use Rattle.pet_interp.proofs.progress.run_width.Given as goal

abbrev pub invariant-loop-width : goal.invariant-loop-width
invariant-loop-width l = record {
  some : 0 < l.width;
  narrow : l.width ≤ MAX_WIDTH;
  inside : l.at + l.width ≤ length l.lengths;
  same : (i : ℕ) → i < l.width → slice_index l.lengths (l.at + i) ≡ slice_index l.lengths l.at;
}

abbrev pub decreases-loop-width : goal.decreases-loop-width
decreases-loop-width l = MAX_WIDTH - l.width
