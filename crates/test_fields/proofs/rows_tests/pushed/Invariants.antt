use Rattle.std.proofs.Common.{◌≤◌, All}
use Rattle.test_fields.proofs.rows_tests.pushed.Given as goal

abbrev pub invariant-loop : goal.invariant-loop
invariant-loop l = record { narrow : All (λ b. b.width ≤ 32) l.blocks.items }
