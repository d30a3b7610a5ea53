use Rattle.std.proofs.Common.{◌/◌, ◌^◌, ◌<◌, bit_xor}
use Rattle.field_elements.specs.Carryless.{IsMultiple, carryless}
use Rattle.field_elements.proofs.residues.multiply_modulo.Given as goal

abbrev pub invariant-loop-i : goal.invariant-loop-i
invariant-loop-i l = record {
  below : l.product < 2 ^ l.degree;
  so_far : IsMultiple l.modulus (bit_xor (carryless (l.a / 2 ^ l.i) l.b) l.product);
}
