use Rattle.std.proofs.Common.{◌+◌, ◌≤◌, []}
use Rattle.command_sample.specs.Arrivals.{arrivals_of}
use Rattle.command_sample.specs.SampleSteps.{steps_behind}
use Rattle.command_sample.specs.inside.Making.{session_made}
use Rattle.command_sample.specs.inside.Receiving.{HasReceived}
use Rattle.command_sample.proofs.receiving.receive_all.Given as goal

abbrev pub invariant-loop-group : goal.invariant-loop-group
invariant-loop-group g l = record {
  received : HasReceived (session_made l.made) (arrivals_of l.group) l.receiver;
  cost : l.steps ≤ l.initial.steps + steps_behind (session_made l.made) [] (arrivals_of l.group);
}
