use Rattle.std.proofs.Common.{◌≡◌, replicate}
use Rattle.stripe_plan.proofs.runs.ones.Given as goal

abbrev pub invariant-loop : goal.invariant-loop
invariant-loop l = l.ones.items ≡ replicate l.counter 1
