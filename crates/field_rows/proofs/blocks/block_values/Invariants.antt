use Rattle.std.proofs.Common.{◌≡◌, ◌+◌, ◌≤◌, length, take, map}
use Rattle.pet_poly.specs.Value.{value}
use Rattle.field_rows.specs.Blocks.{columns_of, size_of, width_of}
use Rattle.field_rows.proofs.blocks.block_values.Given as goal

abbrev pub invariant-loop-i : goal.invariant-loop-i
invariant-loop-i g l = record {
  within : l.at ≤ length l.laid;
  fits : l.to ≤ length l.into;
  place : l.at ≡ size_of (take l.i l.blocks);
  until : l.to ≡ width_of (take l.i l.blocks);
  long : length l.into ≡ width_of l.blocks;
  done : take l.to l.into
      ≡ map (λ s. value g.F.Field.coding.ops s (g.F.Rows.element_of l.x))
      (columns_of g.F.Field.coding.ops.nought (take l.i l.blocks) l.laid);
  cost : l.steps ≡ l.initial.steps + l.at;
}
