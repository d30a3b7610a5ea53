use Rattle.std.proofs.Common.{refl}
use Rattle.mpeg_system.specs.Wraps.{Wraps}
use Rattle.pet_tool.specs.Commands.Files.{line_of_wrap, status_of_wrap}
use Rattle.pet_tool.proofs.Ends.{files_so}
use Rattle.pet_tool.proofs.Owed.Files.{wrap_agrees}
use Rattle.pet_tool.proofs.commands.files.run_wrap.Goals as goal

pub returns-clause-ends : goal.returns-clause-ends
returns-clause-ends g c = record {
  does =
      files_so line_of_wrap status_of_wrap wrap_agrees Wraps _ _ c.wrap_loop.result c.as_str-file.ensures
      c.as_str-out.ensures refl refl refl c.wrap_loop.ensures.wraps c.wrap_loop.ensures.once;
}
