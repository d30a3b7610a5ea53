-- What a loop has read of a system stream and given of its video, portion by portion, and how it ends. This project's
-- own.
use Rattle.std.specs.Prelude.{◌≡◌, ◌≢◌, ◌⊎◌, ℕ, ◌+◌, ◌≤◌, List, ◌++◌, length, Option, None, Some}
use Rattle.std.specs.Io.KnownBytes.{prepend_known, IsAtEnd}
use Rattle.pet_base.specs.declared.limits.TheConstants.{MAX_STREAM}
use Rattle.pet_base.specs.declared.place.Side.TheVariants.{Read, Written}
use Rattle.pet_base.specs.Causes.{Blames}
use Rattle.pet_base.specs.Seen.{Seen, Blame, KeepsNames}
use Rattle.outside_files.specs.Outputs.{Puts, PutsPart}
use Rattle.mpeg_system.specs.declared.refusal.System.{System}
use Rattle.mpeg_system.specs.declared.refusal.System.TheVariants as kinds
use Rattle.mpeg_system.specs.declared.unwrap_files.UnwrapEnd.{UnwrapEnd}
use Rattle.mpeg_system.specs.declared.unwrap_files.UnwrapEnd.TheVariants.{Done, NoMemory, PlaceFault, BadSystem}
use Rattle.mpeg_system.specs.declared.state.Unwrap.{Unwrap}
use Rattle.mpeg_system.specs.Videos.{refusal_of, video_of}
use Rattle.mpeg_system.specs.Unwrapping.{HasRead, HasRefused, IsFrontOf}

-- The reader has refused; unless memory ran out, the stream is refused so, however it goes on, and all of its video is
-- given.
pub record HasStopped (id : ℕ) (unwrap : Unwrap) (stream given : List ℕ) : Type 0 where
  pub system : System
  pub refused : HasRefused unwrap system
  pub stream_is : system ≢ kinds.NoMemory → (rest : List ℕ)
      → (refusal_of id (stream ++ rest) ≡ Some system) × (given ≡ video_of id (stream ++ rest))

-- The reader was fed the stream, whatever it answered, and has given this.
pub record WasFed (id : ℕ) (unwrap : Unwrap) (stream given : List ℕ) : Type 0 where
  pub state : HasRead id unwrap stream given ⊎ HasStopped id unwrap stream given
  pub front : (rest : List ℕ) → IsFrontOf id (stream ++ rest) given

-- how it ends, by the stream that was read and what was given of it
abbrev pub EndsSo : ℕ → List ℕ → List ℕ → UnwrapEnd → Type 0
EndsSo id stream given (Done n) = (refusal_of id stream ≡ None) × (video_of id stream ≡ given) × (n ≡ length given)
EndsSo id stream given NoMemory = Unit {0}
EndsSo id stream given PlaceFault = ⊥
EndsSo id stream given (BadSystem s) = (refusal_of id stream ≡ Some s) × (video_of id stream ≡ given)

-- This was taken from the input, and that was put to the output.
pub record Stands (first now : Seen) (stream given : List ℕ) : Type 0 where
  pub rest : first.rest ≡ prepend_known stream now.rest
  pub put : Puts given first now
  pub names : KeepsNames first now
  pub later : first.faults ≤ now.faults

-- The input was read, and the output has the video, or the video up to the refusal.
pub record HasUnwrapped (id : ℕ) (first now : Seen) (end : UnwrapEnd) : Type 0 where
  pub stream : List ℕ
  pub given : List ℕ
  pub stands : Stands first now stream given
  pub few : length stream ≤ MAX_STREAM + 1
  pub whole : length stream ≤ MAX_STREAM → IsAtEnd now.rest
  pub front : (rest : List ℕ) → IsFrontOf id (stream ++ rest) given
  pub ends : EndsSo id stream given end

-- A front of the input was read, and the output has a front of the video of it, however it goes on.
pub record HasBegun (id : ℕ) (first now : Seen) : Type 0 where
  pub stream : List ℕ
  pub given : List ℕ
  pub left : Option (List ℕ)
  pub rest : first.rest ≡ prepend_known stream left
  pub front : (rest : List ℕ) → IsFrontOf id (stream ++ rest) given
  pub put : PutsPart given first now
  pub later : first.faults ≤ now.faults

-- the failure was at the input, or at the output
abbrev pub IsOfEither : Option (List ℕ) → Option (List ℕ) → Blame → Type 0
IsOfEither source target blame = Blames Read source blame ⊎ Blames Written target blame
