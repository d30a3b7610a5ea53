use Rattle.std.proofs.Common.{◌≡◌, ℕ, ◌+◌, ◌-◌, ◌*◌, ◌≤◌, All, length, map, take}
use Rattle.pet_interp.specs.Progressive.{longer_than}
use Rattle.pet_interp.specs.Blocks.{IsBlock, stripes_in}
use Rattle.pet_interp.specs.inside.Lifted.{grown_to}
use Rattle.pet_interp.proofs.lift.add_product.Given as goal

abbrev pub invariant-loop-from : goal.invariant-loop-from
invariant-loop-from g l = record {
  within : l.from ≤ length l.product;
  met : l.met ≡ length l.product;
  some : length l.factors ≡ length l.initial.factors;
  blocks : (room : ℕ) → All (IsBlock g.F.Field.is_element (length l.product) room) l.initial.blocks
      → All (IsBlock g.F.Field.is_element (length l.product) room) l.blocks;
  done : stripes_in l.blocks
      ≡ map (grown_to g.F.Field.coding.ops (length l.product) (take l.from l.product)) (stripes_in l.initial.blocks);
  lengths : map length (stripes_in l.blocks) ≡ map length (stripes_in l.initial.blocks);
  cost : l.steps ≡ l.initial.steps + longer_than (length l.product) (map length (stripes_in l.initial.blocks)) * l.from;
}

abbrev pub decreases-loop-from : goal.decreases-loop-from
decreases-loop-from g l = l.met - l.from
