use Rattle.std.proofs.Common.{◌≡◌, ◌+◌, ◌<◌, ◌^◌, bit_xor}
use Rattle.field_elements.specs.Carryless.{carryless}
use Rattle.field_elements.proofs.residues.divide.Given as goal

abbrev pub invariant-loop-k : goal.invariant-loop-k
invariant-loop-k l = record {
  below : l.rest < 2 ^ (l.top + l.k);
  divided : bit_xor l.modulus l.rest ≡ carryless l.quotient l.a;
}
