-- When `replay` is done. This project's own.
use Rattle.std.specs.Prelude.{◌≡◌, ◌≢◌, ℕ, List, [], ◌∷◌, Some, Ok, Vec}
use Rattle.pet_base.specs.declared.event.Event.{Event}
use Rattle.pet_base.specs.declared.limits.TheConstants.{MAX_REPLAY_SESSION}
use Rattle.pet_base.specs.Seen.{Seen}
use Rattle.outside_files.specs.Uses.{Failed, reading}
use Rattle.stream_session.specs.Accepted.{session_of}
use Rattle.stream_session.specs.Sessions.{IsGivenWithin}
use Rattle.command_replay.specs.declared.command.ReplayEnd.{ReplayEnd}
use Rattle.command_replay.specs.declared.command.ReplayEnd.TheVariants.{Done, NoMemory}
use Rattle.command_replay.specs.ReplayText.{replay_text}
use Rattle.command_replay.specs.Replays.{script_in}
use Rattle.std.specs.declared.alloc.Global.{Global}

-- Memory was found, the place had no fault of this call, and the three files are told: two, of these bytes, are a session
-- that `replay` takes, and the third is a script of it, of these events.
pub record CanReplay (stream priority script priority_bytes stream_bytes script_bytes : List ℕ) (events : List Event)
    (old new : Seen) (end : ReplayEnd) : Type 0 where
  pub memory : end ≢ NoMemory
  pub well : Failed (reading stream ∷ reading priority ∷ reading script ∷ []) old new → ⊥
  pub given : IsGivenWithin MAX_REPLAY_SESSION old stream priority priority_bytes stream_bytes
  pub script_there : given.files script ≡ Some script_bytes
  pub read : script_in priority_bytes stream_bytes script_bytes ≡ Ok events

-- it is done, and this is the text
pub record HasReplayed (text : List ℕ) (end : ReplayEnd) : Type 0 where
  pub made : Vec ℕ Global
  pub ended : end ≡ Done made
  pub is : made.items ≡ text

-- then it is done, with the text of the events
abbrev pub ReplaysSession : List ℕ → List ℕ → List ℕ → Seen → Seen → ReplayEnd → Type 0
ReplaysSession stream priority script old new end =
    (p b t : List ℕ) (events : List Event) → CanReplay stream priority script p b t events old new end
    → HasReplayed (replay_text (session_of p b) events) end
