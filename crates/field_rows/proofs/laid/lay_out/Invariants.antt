use Rattle.std.proofs.Common.{◌≡◌, ◌≤◌, length, take}
use Rattle.field_rows.specs.Blocks.{columns_of, size_of, stripes_of}
use Rattle.field_rows.proofs.laid.lay_out.Given as goal

abbrev pub invariant-loop-i : goal.invariant-loop-i
invariant-loop-i g l = record {
  within : l.at ≤ length l.row;
  long : length l.laid ≡ size_of l.blocks;
  place : l.at ≡ size_of (take l.i l.blocks);
  done : (d : g.row.E.Denot) → columns_of d (take l.i l.blocks) l.laid ≡ stripes_of (take l.i l.blocks) l.row;
}
