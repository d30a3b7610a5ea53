use Rattle.std.proofs.Common.{refl}
use Rattle.command_video.specs.Videos.{Videos}
use Rattle.pet_tool.specs.Commands.Files.{line_of_video, status_of_video}
use Rattle.pet_tool.proofs.Ends.{files_so}
use Rattle.pet_tool.proofs.Owed.Files.{video_agrees}
use Rattle.pet_tool.proofs.commands.files.run_video.Goals as goal

pub returns-clause-ends : goal.returns-clause-ends
returns-clause-ends g c = record {
  does =
      files_so line_of_video status_of_video video_agrees Videos _ _ c.video.result c.as_str-store.ensures
      c.as_str-out.ensures refl refl refl c.video.ensures.videos c.video.ensures.once;
}
