use Rattle.std.proofs.Common.{rules}
use Rattle.command_video.proofs.files.group_video.Goals as goal

pub returns-in-Ok-clause-video : goal.returns-in-Ok-clause-video
returns-in-Ok-clause-video c = search rules

pub returns-in-Err-BadTable-clause-video : goal.returns-in-Err-BadTable-clause-video
returns-in-Err-BadTable-clause-video c = search rules
