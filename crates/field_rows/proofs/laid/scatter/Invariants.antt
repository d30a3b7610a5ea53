use Rattle.std.proofs.Common.{◌≡◌, ◌≢◌, ℕ, ◌+◌, ◌*◌, ◌<◌, length, slice_index_or}
use Rattle.field_rows.proofs.laid.scatter.Given as goal

abbrev pub invariant-loop-j : goal.invariant-loop-j
invariant-loop-j g l = record {
  long : length l.into ≡ length l.initial.into;
  written : (d : g.row.E.Denot) (i : ℕ) → i < l.j
      → slice_index_or l.into (i * l.width + l.c) d ≡ slice_index_or l.from i d;
  others : (d : g.row.E.Denot) (i n : ℕ) → n < l.width → n ≢ l.c
      → slice_index_or l.into (i * l.width + n) d ≡ slice_index_or l.initial.into (i * l.width + n) d;
}
