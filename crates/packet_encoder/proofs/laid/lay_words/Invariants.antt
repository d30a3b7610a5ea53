use Rattle.std.proofs.Common.{◌≡◌, ◌≤◌, length, take}
use Rattle.field_rows.specs.Blocks.{columns_of, size_of, stripes_of}
use Rattle.pet_poly.specs.Rows.{words}
use Rattle.packet_encoder.proofs.laid.lay_words.Given as goal

abbrev pub invariant-loop-i : goal.invariant-loop-i
invariant-loop-i g l = record {
  within : l.at ≤ length l.laid;
  long : length l.laid ≡ length l.initial.laid;
  place : l.at ≡ size_of (take l.i l.blocks);
  done : columns_of g.F.Field.coding.ops.nought (take l.i l.blocks) l.laid
      ≡ stripes_of (take l.i l.blocks)
      (words g.F.Field.coding.spelt g.F.Field.coding.width (length l.initial.laid) l.message);
}
