use Rattle.std.proofs.Common.{◌≡◌, ℕ, ◌+◌, ◌*◌, All, length, map, take, drop}
use Rattle.pet_interp.specs.Progressive.{longer_than}
use Rattle.pet_interp.specs.Blocks.{IsBlock, stripes_in}
use Rattle.pet_interp.specs.inside.Lifted.{grown}
use Rattle.pet_interp.proofs.lift.add_part.Given as goal

abbrev pub invariant-loop-i : goal.invariant-loop-i
invariant-loop-i g l = record {
  long : length l.blocks ≡ length l.initial.blocks;
  blocks : (room : ℕ) → All (IsBlock g.F.Field.is_element l.met room) l.initial.blocks
      → All (IsBlock g.F.Field.is_element l.met room) l.blocks;
  done : stripes_in (take l.i l.blocks)
      ≡ map (grown g.F.Field.coding.ops l.met l.from l.by)
      (stripes_in (take l.i l.initial.blocks));
  rest : drop l.i l.blocks ≡ drop l.i l.initial.blocks;
  cost : l.steps
      ≡ l.initial.steps + longer_than l.met (map length (stripes_in (take l.i l.initial.blocks))) * length l.by;
}
