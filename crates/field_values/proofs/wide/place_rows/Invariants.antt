use Rattle.std.proofs.Common.{◌≡◌, ℕ, ◌+◌, ◌*◌, ◌<◌, ◌≤◌, length, slice_index_or}
use Rattle.field_values.proofs.wide.place_rows.Given as goal

abbrev pub invariant-loop : goal.invariant-loop
invariant-loop g l = record {
  from_is : l.from ≡ l.counter * l.width;
  at_is : l.at ≡ l.counter * l.stripes;
  long : length l.into ≡ l.size * l.stripes;
  placed : (d : g.row.E.Denot) (p c : ℕ) → p < l.counter → c < l.width
      → slice_index_or l.into (p * l.stripes + (l.lane + c)) d ≡ slice_index_or l.rows (p * l.width + c) d;
  others : (d : g.row.E.Denot) (p n : ℕ) → n < l.stripes → (p < l.counter → l.lane ≤ n → l.lane + l.width ≤ n)
      → slice_index_or l.into (p * l.stripes + n) d ≡ slice_index_or l.initial.into (p * l.stripes + n) d;
}
