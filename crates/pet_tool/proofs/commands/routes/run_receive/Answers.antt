use Rattle.command_receive.specs.Receives.{Receives}
use Rattle.pet_tool.specs.Commands.Routes.{line_of_receive, status_of_receive}
use Rattle.pet_tool.proofs.Ends.{runs_of_three}
use Rattle.pet_tool.proofs.Owed.Routes.{receive_agrees}
use Rattle.pet_tool.proofs.commands.routes.run_receive.Goals as goal

pub returns-clause-ends : goal.returns-clause-ends
returns-clause-ends g c = record {
  does =
      runs_of_three line_of_receive status_of_receive receive_agrees (λ w. Receives w c.args.session) _ _
      c.receive.result c.route-from.ensures c.as_str-layers.ensures c.as_str-store.ensures c.receive.ensures.receives
      c.receive.ensures.once_place c.receive.ensures.once_link;
}
