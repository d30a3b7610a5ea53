use Rattle.std.proofs.Common.{refl}
use Rattle.command_migrate.specs.Migrates.{Migrates}
use Rattle.pet_tool.specs.Commands.Files.{line_of_migrate, status_of_migrate}
use Rattle.pet_tool.proofs.Ends.{files_so}
use Rattle.pet_tool.proofs.Owed.Files.{migrate_agrees}
use Rattle.pet_tool.proofs.commands.files.run_migrate.Goals as goal

pub returns-clause-ends : goal.returns-clause-ends
returns-clause-ends g c = record {
  does =
      files_so line_of_migrate status_of_migrate migrate_agrees Migrates _ _ c.migrate.result c.as_str-store.ensures
      c.as_str-out.ensures refl refl refl c.migrate.ensures.migrates c.migrate.ensures.once;
}
