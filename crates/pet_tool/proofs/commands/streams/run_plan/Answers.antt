use Rattle.std.proofs.Common.{refl}
use Rattle.command_plan.specs.Plans.{PlanEnds}
use Rattle.pet_tool.specs.Commands.Streams.{line_of_plan, status_of_plan}
use Rattle.pet_tool.specs.Runs.{OnRead}
use Rattle.pet_tool.proofs.Ends.{runs_so, with_files}
use Rattle.pet_tool.proofs.Owed.Streams.{plan_agrees}
use Rattle.pet_tool.proofs.commands.streams.run_plan.Goals as goal

pub returns-clause-ends : goal.returns-clause-ends
returns-clause-ends g c = record {
  does =
      runs_so line_of_plan status_of_plan plan_agrees (λ s p. OnRead (PlanEnds s p)) _ _ c.plan.result
      c.as_str-stream.ensures
      c.as_str-priority.ensures
      (record {
        only = with_files refl refl refl c.plan.ensures.plans.ends;
        files = c.plan.ensures.plans.files;
        steps =
            refl;
      })
      c.plan.ensures.once refl;
}
