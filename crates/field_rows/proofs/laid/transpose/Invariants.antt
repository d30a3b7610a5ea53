use Rattle.std.proofs.Common.{◌≡◌, ℕ, ◌+◌, ◌*◌, ◌<◌, length, slice_index_or}
use Rattle.field_rows.proofs.laid.transpose.Given as goal

abbrev pub invariant-loop-c : goal.invariant-loop-c
invariant-loop-c g l = record {
  place : l.start ≡ l.c * l.count;
  long : length l.into ≡ length l.initial.into;
  done : (d : g.row.E.Denot) (n j : ℕ) → n < l.c → j < l.count
      → slice_index_or l.into (j * l.width + n) d ≡ slice_index_or l.from (n * l.count + j) d;
}
