use Rattle.std.proofs.Common.{◌≡◌, ◌+◌, ◌*◌, ◌++◌, replicate}
use Rattle.command_plan.specs.Least.{starts_by}
use Rattle.command_plan.proofs.least.push_starts.Given as goal

abbrev pub invariant-loop : goal.invariant-loop
invariant-loop l = record {
  at : l.at ≡ l.first + l.counter * l.repeat.length;
  starts : l.starts.items ≡ l.initial.starts.items ++ starts_by l.first (replicate l.counter l.repeat.length);
}
