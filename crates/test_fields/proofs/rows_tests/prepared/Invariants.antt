use Rattle.std.proofs.Common.{◌≡◌, length, All}
use Rattle.test_fields.proofs.rows_tests.prepared.Given as goal

abbrev pub invariant-loop-i : goal.invariant-loop-i
invariant-loop-i g l = record {
  long : length l.all.items ≡ l.i;
  elements : All (λ p. g.F.Field.is_element (g.F.Rows.element_of p)) l.all.items;
}
