use Rattle.std.proofs.Common.{refl, ◌∙◌}
use Rattle.pet_repair.specs.Repairs.{Repairs}
use Rattle.pet_tool.specs.Commands.Routes.{line_of_repair, status_of_repair}
use Rattle.pet_tool.specs.Runs.{OnRoutes}
use Rattle.pet_tool.proofs.Ends.{runs_so}
use Rattle.pet_tool.proofs.Owed.Routes.{repair_agrees}
use Rattle.pet_tool.proofs.commands.routes.run_repair.Goals as goal

pub returns-clause-ends : goal.returns-clause-ends
returns-clause-ends g c = record {
  does =
      runs_so line_of_repair status_of_repair repair_agrees (λ s t. OnRoutes (Repairs s t)) _ _ c.repair_loop.result
      c.as_str-store.ensures (c.name_of-udp.ensures ∙ c.route-to.ensures)
      (record { written = refl; out_faults = refl; did = c.repair_loop.ensures.repairs })
      c.repair_loop.ensures.once_place
      c.repair_loop.ensures.once_link;
}
