use Rattle.std.proofs.Common.{◌≡◌, ◌-◌, ◌<◌, [], length, drop, slice_index_or}
use Rattle.pet_interp.specs.Blocks.{stripes_in}
use Rattle.pet_interp.proofs.progress.find.Given as goal

abbrev pub invariant-loop-place : goal.invariant-loop-place
invariant-loop-place g l = record {
  here : l.block < length l.blocks;
  within : l.place < length (stripes_in (drop l.block l.blocks));
  same : slice_index_or (stripes_in (drop l.block l.blocks)) l.place []
      ≡ slice_index_or (stripes_in l.blocks) l.stripe [];
}

abbrev pub decreases-loop-place : goal.decreases-loop-place
decreases-loop-place g l = length l.blocks - l.block
