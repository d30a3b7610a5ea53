use Rattle.std.proofs.Common.{refl}
use Rattle.command_plan.specs.Checks.{Checks}
use Rattle.pet_tool.specs.Commands.Streams.{line_of_check, status_of_check}
use Rattle.pet_tool.specs.Runs.{OnRead}
use Rattle.pet_tool.proofs.Ends.{runs_of_three, with_files}
use Rattle.pet_tool.proofs.Owed.Streams.{check_agrees}
use Rattle.pet_tool.proofs.commands.streams.run_check.Goals as goal

pub returns-clause-ends : goal.returns-clause-ends
returns-clause-ends g c = record {
  does =
      runs_of_three line_of_check status_of_check check_agrees (λ s p x. OnRead (λ old new. Checks old new s p x)) _ _
      c.check.result c.as_str-stream.ensures c.as_str-priority.ensures c.as_str-plan.ensures
      (record {
        only = with_files refl refl refl c.check.ensures.checks;
        files = c.check.ensures.files;
        steps = refl;
      })
      c.check.ensures.once refl;
}
