use Rattle.std.proofs.Common.{◌≡◌, ◌*◌, take}
use Rattle.std.specs.List.{flat_map}
use Rattle.packet_encoder.proofs.values.write_elements.Given as goal

abbrev pub invariant-loop-i : goal.invariant-loop-i
invariant-loop-i g l = record {
  here : l.at ≡ l.i * g.F.Field.coding.width;
  so_far : take l.at l.into ≡ flat_map g.F.Field.coding.spelling (take l.i l.elements);
}
