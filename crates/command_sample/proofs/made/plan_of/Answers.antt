use Rattle.std.proofs.Common.{length, ap, arith, List, [], ℕ}
use Rattle.command_sample.proofs.Making.{planned_tables}
use Rattle.command_sample.specs.laws.SamplePriorityLaws.{priority_length}
use Rattle.command_sample.proofs.made.plan_of.Goals as goal

pub new-requires : goal.new-requires
new-requires c = omega (arith, ap (λ (l : List ℕ). length l) c.priority_text.ensures, priority_length)

pub returns-in-Ok-clause-tables : goal.returns-in-Ok-clause-tables
returns-in-Ok-clause-tables c =
    planned_tables c.in-Ok.plan c.args.priority.now c.priority_text.result.now c.args.stream.now c.requires.priority
    (c.in-Ok.ensures.plan c.args.priority.now c.priority_text.result.now c.args.stream.now
    (c.in_ok-add.ensures c.args.priority.now c.priority_text.result.now [] c.in_ok-pass.ensures))
