use Rattle.std.proofs.Common.{refl}
use Rattle.pet_text.specs.laws.WordLaws.{video_id}
use Rattle.mpeg_system.specs.Unwraps.{Unwraps}
use Rattle.pet_tool.specs.Commands.Files.{line_of_unwrap, status_of_unwrap}
use Rattle.pet_tool.proofs.Ends.{files_so}
use Rattle.pet_tool.proofs.Owed.Files.{unwrap_agrees}
use Rattle.pet_tool.proofs.commands.files.run_unwrap.Goals as goal

pub returns-clause-ends : goal.returns-clause-ends
returns-clause-ends g c = record {
  does =
      files_so line_of_unwrap status_of_unwrap unwrap_agrees (λ f o. Unwraps f c.args.id o) _ _ c.unwrap_loop.result
      c.as_str-file.ensures c.as_str-out.ensures refl refl refl c.unwrap_loop.ensures.unwraps c.unwrap_loop.ensures.once;
}

pub unwrap_loop-requires : goal.unwrap_loop-requires
unwrap_loop-requires g c = video_id c.args.file.now c.args.out.now c.args.id c.requires.form
