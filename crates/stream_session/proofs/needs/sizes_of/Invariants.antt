use Rattle.std.proofs.Common.{◌≡◌, ◌++◌, drop}
use Rattle.arrayvec.specs.ArrayVec.{array_vec_len}
use Rattle.stream_session.specs.Tables.{sizes_by}
use Rattle.stream_session.proofs.needs.sizes_of.Given as goal

-- the layers so far, and then those of the rest, are those of all
abbrev pub invariant-loop-layer : goal.invariant-loop-layer
invariant-loop-layer l = record {
  count : array_vec_len l.sizes ≡ l.layer;
  so_far : l.sizes.items ++ sizes_by (drop l.layer l.lengths) (drop l.layer l.needs) ≡ sizes_by l.lengths l.needs;
}
