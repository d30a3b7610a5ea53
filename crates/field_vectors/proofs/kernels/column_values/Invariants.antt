use Rattle.std.proofs.Common.{◌≡◌, ◌*◌, ◌<◌, ℕ, length, drop}
use Rattle.std.specs.Prelude.{slice_index_or}
use Rattle.pet_poly.specs.inside.Horner.{horner_from}
use Rattle.field_rows.specs.Columns.{column}
use Rattle.field_vectors.proofs.kernels.column_values.Given as goal

abbrev pub invariant-loop-j : goal.invariant-loop-j
invariant-loop-j g l =
    let p = g.P.Prepared in
    let z = p.ops.nought in
    record {
      place : l.at ≡ l.j * length l.into;
      long : length (p.joined l.sums) ≡ 32;
      sums : (c : ℕ) → c < length l.into
          → slice_index_or (p.joined l.sums) c z
          ≡ horner_from p.ops z (drop l.j (column z (length l.into) l.fn.count c l.rows)) (p.factor l.by);
    }
