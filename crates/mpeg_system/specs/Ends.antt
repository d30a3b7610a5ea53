-- Which ends of the two loops tell of a failure of the place. This project's own.
use Rattle.std.specs.Prelude.{Bool, true, false}
use Rattle.mpeg_system.specs.declared.unwrap_files.UnwrapEnd.{UnwrapEnd}
use Rattle.mpeg_system.specs.declared.unwrap_files.UnwrapEnd.TheVariants as unwrap
use Rattle.mpeg_system.specs.declared.wrap_files.WrapEnd.{WrapEnd}
use Rattle.mpeg_system.specs.declared.wrap_files.WrapEnd.TheVariants as wrap

abbrev pub unwrap_failed : UnwrapEnd → Bool
unwrap_failed (unwrap.Done bytes) = false
unwrap_failed unwrap.NoMemory = false
unwrap_failed unwrap.PlaceFault = true
unwrap_failed (unwrap.BadSystem fault) = false

abbrev pub wrap_failed : WrapEnd → Bool
wrap_failed (wrap.Done bytes) = false
wrap_failed wrap.NoMemory = false
wrap_failed wrap.PlaceFault = true
wrap_failed (wrap.BadSystem fault) = false
