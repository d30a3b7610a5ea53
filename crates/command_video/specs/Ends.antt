-- Which ends of `video` tell of a failure of the place. This project's own.
use Rattle.std.specs.Prelude.{Bool, true, false}
use Rattle.command_video.specs.declared.command.VideoEnd.{VideoEnd}
use Rattle.command_video.specs.declared.command.VideoEnd.TheVariants.{Done, NoMemory, PlaceFault, BadStore, BadTable}

-- which ends tell of a failure of the place
abbrev pub has_failed : VideoEnd → Bool
has_failed (Done bytes) = false
has_failed NoMemory = false
has_failed PlaceFault = true
has_failed (BadStore at kind) = false
has_failed (BadTable group) = false
