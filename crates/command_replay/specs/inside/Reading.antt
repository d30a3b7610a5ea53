-- What the reading of a script finds, before it is put together. This project's own.
use Rattle.std.specs.Prelude.{◌≡◌, ℕ, List, [], ◌∷◌, Ok, Err, Vec}
use Rattle.std.specs.declared.alloc.Global.{Global}
use Rattle.pet_base.specs.declared.event.Event.{Event}
use Rattle.pet_base.specs.Seen.{Seen}
use Rattle.outside_files.specs.Inputs.{IsFile}
use Rattle.outside_files.specs.Uses.{Failed, reading}
use Rattle.command_replay.specs.declared.command.ReplayEnd.{ReplayEnd}
use Rattle.command_replay.specs.declared.command.ReplayEnd.TheVariants.{NoMemory, PlaceFault, BadScript}
use Rattle.command_replay.specs.ReplayText.{replay_text}
use Rattle.command_replay.specs.Replays.{HasScript, script_read}
use Rattle.command_replay.specs.Scripts.{events_in}
use Rattle.stream_session.specs.Accepted.{session_of}

-- the script has these events, as one of a session of so many groups and packets
pub record HasEvents (old : Seen) (script : List ℕ) (groups packets : ℕ) (events : List Event) : Type 0 where
  pub bytes : List ℕ
  pub file : IsFile old.files script bytes
  pub read : events_in groups packets bytes ≡ Ok events

-- why these bytes have none
abbrev pub HasNoEventsIn : ℕ → ℕ → List ℕ → ReplayEnd → Type 0
HasNoEventsIn groups packets bytes NoMemory = Unit {0}
HasNoEventsIn groups packets bytes (BadScript line) = events_in groups packets bytes ≡ Err line
HasNoEventsIn groups packets bytes _ = ⊥

-- why the script has none
abbrev pub HasNoEvents : Seen → Seen → List ℕ → ℕ → ℕ → ReplayEnd → Type 0
HasNoEvents old new script groups packets PlaceFault = Failed (reading script ∷ []) old new
HasNoEvents old new script groups packets NoMemory = Unit {0}
HasNoEvents old new script groups packets end =
    (bytes : List ℕ) × IsFile old.files script bytes × HasNoEventsIn groups packets bytes end

-- the two files are a session, the third a script of it, and the text is that of its events
pub record IsTextOf (old : Seen) (stream priority script : List ℕ) (text : Vec ℕ Global) : Type 0 where
  pub files : HasScript old stream priority script
  pub events : List Event
  pub read : script_read files ≡ Ok events
  pub is : text.items ≡ replay_text (session_of files.session.priority_bytes files.session.stream_bytes) events
