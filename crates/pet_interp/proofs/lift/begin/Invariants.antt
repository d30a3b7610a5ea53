use Rattle.std.proofs.Common.{◌≡◌, ℕ, ◌+◌, ◌*◌, All, length, map, take, drop}
use Rattle.pet_poly.specs.Rows.{words}
use Rattle.pet_interp.specs.Progressive.{longer_than}
use Rattle.pet_interp.specs.Blocks.{IsBlock, stripes_in}
use Rattle.pet_interp.specs.inside.Lifted.{begun_all}
use Rattle.pet_interp.proofs.lift.begin.Given as goal

abbrev pub invariant-loop-i : goal.invariant-loop-i
invariant-loop-i g l = record {
  at : l.at ≡ length (stripes_in (take l.i l.initial.blocks)) * g.F.Field.coding.width;
  long : length l.blocks ≡ length l.initial.blocks;
  blocks : (room : ℕ) → All (IsBlock g.F.Field.is_element l.met room) l.initial.blocks
      → All (IsBlock g.F.Field.is_element l.met room) l.blocks;
  done : stripes_in (take l.i l.blocks)
      ≡ begun_all g.F.Field.coding.ops l.met (g.F.Rows.element_of l.x) (g.F.Rows.element_of l.inverse)
      (stripes_in (take l.i l.initial.blocks))
      (words g.F.Field.coding.spelt g.F.Field.coding.width (length (stripes_in (take l.i l.initial.blocks))) l.values);
  rest : drop l.i l.blocks ≡ drop l.i l.initial.blocks;
  cost : l.steps
      ≡ l.initial.steps + longer_than l.met (map length (stripes_in (take l.i l.initial.blocks))) * (l.met + 1);
}
