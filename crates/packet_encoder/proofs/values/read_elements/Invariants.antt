use Rattle.std.proofs.Common.{◌≡◌, ◌*◌, take}
use Rattle.pet_poly.specs.Rows.{words}
use Rattle.packet_encoder.proofs.values.read_elements.Given as goal

abbrev pub invariant-loop-i : goal.invariant-loop-i
invariant-loop-i g l = record {
  here : l.at ≡ l.i * g.F.Field.coding.width;
  so_far : take l.i l.into ≡ words g.F.Field.coding.spelt g.F.Field.coding.width l.i l.message;
}
