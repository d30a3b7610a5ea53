use Rattle.std.proofs.Common.{◌≡◌, take}
use Rattle.std.specs.List.{flat_map}
use Rattle.command_sample.specs.SampleSession.{whole_group_video}
use Rattle.command_sample.specs.inside.Making.{session_made}
use Rattle.command_sample.proofs.told.video_contents.Given as goal

abbrev pub invariant-loop-group : goal.invariant-loop-group
invariant-loop-group l = l.video.items ≡ flat_map whole_group_video (take l.group (session_made l.made).groups)
