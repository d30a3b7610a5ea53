use Rattle.std.proofs.Common.{◌≡◌, ◌^◌, ◌<◌}
use Rattle.field_elements.specs.BinaryField.{times}
use Rattle.field_elements.proofs.residues.invert_modulo.Given as goal

abbrev pub invariant-loop-rest : goal.invariant-loop-rest
invariant-loop-rest l = record {
  positive : 0 < l.rest;
  rest_below : l.rest < 2 ^ l.degree;
  factor_below : l.factor < 2 ^ l.degree;
  so_far : times l.degree l.modulus l.a l.factor ≡ l.rest;
}

abbrev pub decreases-loop-rest : goal.decreases-loop-rest
decreases-loop-rest l = l.rest
