use Rattle.std.proofs.Common.{◌≡◌, ◌*◌, ◌+◌, ◌<◌, ◌≤◌, ℕ, length, map}
use Rattle.std.specs.Prelude.{slice_index_or}
use Rattle.field_vectors.proofs.kernels.add_multiples.Given as goal

abbrev pub invariant-loop-j : goal.invariant-loop-j
invariant-loop-j g l =
    let p = g.P.Prepared in
    let o = p.ops in
    let z = o.nought in
    record {
      place : l.at ≡ l.j * length l.row;
      done : (i c : ℕ) → i < l.j → c < length l.row
          → slice_index_or l.rows (i * length l.row + c) z
          ≡ o.plus (slice_index_or l.initial.rows (i * length l.row + c) z)
          (o.times (slice_index_or (map p.factor l.factors) i z) (slice_index_or l.row c z));
      rest : (i : ℕ) → l.j * length l.row ≤ i → slice_index_or l.rows i z ≡ slice_index_or l.initial.rows i z;
    }
