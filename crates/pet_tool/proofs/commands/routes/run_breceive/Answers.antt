use Rattle.std.proofs.Common.{◌∙◌}
use Rattle.pet_byte.specs.ReceivesBytes.{ReceivesBytes}
use Rattle.pet_tool.specs.Commands.Routes.{line_of_breceive, status_of_breceive}
use Rattle.pet_tool.proofs.Ends.{runs_so}
use Rattle.pet_tool.proofs.Owed.Routes.{breceive_agrees}
use Rattle.pet_tool.proofs.commands.routes.run_breceive.Goals as goal

pub returns-clause-ends : goal.returns-clause-ends
returns-clause-ends g c = record {
  does =
      runs_so line_of_breceive status_of_breceive breceive_agrees (λ w l. ReceivesBytes w c.args.session l) _ _
      c.breceive_loop.result (c.name_of-udp.ensures ∙ c.route-from.ensures) c.as_str-layers.ensures
      c.breceive_loop.ensures.receives c.breceive_loop.ensures.once_place c.breceive_loop.ensures.once_link;
}
