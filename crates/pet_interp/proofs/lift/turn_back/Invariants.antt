use Rattle.std.proofs.Common.{◌≡◌, All, length, take, drop}
use Rattle.pet_interp.specs.Blocks.{IsBlock, stripes_in}
use Rattle.pet_interp.proofs.lift.turn_back.Given as goal

abbrev pub invariant-loop-i : goal.invariant-loop-i
invariant-loop-i g l = record {
  long : length l.blocks ≡ length l.initial.blocks;
  room : length l.spare ≡ length l.initial.spare;
  turned : All (IsBlock g.F.Field.is_element l.met (length l.spare)) (take l.i l.blocks);
  done : stripes_in (take l.i l.blocks) ≡ stripes_in (take l.i l.initial.blocks);
  rest : drop l.i l.blocks ≡ drop l.i l.initial.blocks;
}
