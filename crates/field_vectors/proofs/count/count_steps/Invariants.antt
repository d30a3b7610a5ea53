use Rattle.std.proofs.Common.{◌≡◌, ◌+◌}
use Rattle.field_vectors.proofs.count.count_steps.Given as goal

abbrev pub invariant-loop : goal.invariant-loop
invariant-loop g l = record { counted : l.steps ≡ l.initial.steps + l.counter }
