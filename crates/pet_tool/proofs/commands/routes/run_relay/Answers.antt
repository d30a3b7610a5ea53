use Rattle.std.proofs.Common.{◌∙◌}
use Rattle.pet_repair.specs.Relays.{DoesRelay}
use Rattle.pet_tool.specs.Commands.Routes.{line_of_relay, status_of_relay}
use Rattle.pet_tool.proofs.Ends.{runs_so}
use Rattle.pet_tool.proofs.Owed.Routes.{relay_agrees}
use Rattle.pet_tool.proofs.commands.routes.run_relay.Goals as goal

pub returns-clause-ends : goal.returns-clause-ends
returns-clause-ends g c = record {
  does =
      runs_so line_of_relay status_of_relay relay_agrees (λ f t. DoesRelay f c.args.session t) _ _ c.relay_loop.result
      (c.name_of-from_udp.ensures ∙ c.route-from.ensures) (c.name_of-to_udp.ensures ∙ c.route-to.ensures)
      c.relay_loop.ensures.relays c.relay_loop.ensures.once_place c.relay_loop.ensures.once_link;
}
