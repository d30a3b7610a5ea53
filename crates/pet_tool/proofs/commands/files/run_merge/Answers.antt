use Rattle.std.proofs.Common.{refl}
use Rattle.command_merge.specs.Merges.{Merges}
use Rattle.pet_tool.specs.Commands.Files.{line_of_merge, status_of_merge}
use Rattle.pet_tool.proofs.Ends.{files_of_three}
use Rattle.pet_tool.proofs.Owed.Files.{merge_agrees}
use Rattle.pet_tool.proofs.commands.files.run_merge.Goals as goal

pub returns-clause-ends : goal.returns-clause-ends
returns-clause-ends g c = record {
  does =
      files_of_three line_of_merge status_of_merge merge_agrees Merges _ _ c.merge.result c.as_str-first.ensures
      c.as_str-second.ensures c.as_str-out.ensures refl refl refl c.merge.ensures.merges c.merge.ensures.once;
}
