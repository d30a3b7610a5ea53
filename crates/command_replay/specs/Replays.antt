-- What `replay` leaves at each of its ends. This project's own.
use Rattle.std.specs.Prelude.{◌≡◌, ◌⊎◌, ℕ, List, [], ◌∷◌, length, Ok, Err, Result}
use Rattle.pet_base.specs.declared.event.Event.{Event}
use Rattle.pet_base.specs.declared.limits.TheConstants.{MAX_REPLAY_SESSION}
use Rattle.pet_base.specs.Seen.{Seen}
use Rattle.outside_files.specs.Inputs.{IsFile}
use Rattle.outside_files.specs.Uses.{Failed, reading}
use Rattle.priority_file.specs.Refusals.{priorities_of}
use Rattle.stream_session.specs.Accepted.{IsAcceptedWithin, session_of}
use Rattle.session_source.specs.Sources.{IsSourceFaultWithin}
use Rattle.session_source.specs.declared.source.SourceFault.{SourceFault}
use Rattle.session_source.specs.declared.source.SourceFault.TheVariants as source
use Rattle.command_replay.specs.declared.command.ReplayEnd.{ReplayEnd}
use Rattle.command_replay.specs.declared.command.ReplayEnd.TheVariants.{Done, NoMemory, PlaceFault, BadPriority}
use Rattle.command_replay.specs.declared.command.ReplayEnd.TheVariants.{BadStream, BadPlan, BadScript}
use Rattle.command_replay.specs.ReplayText.{replay_text}
use Rattle.command_replay.specs.Scripts.{events_in}

-- the two files, and that they are an accepted session of no more than `replay` takes
pub record HasSession (old : Seen) (stream priority : List ℕ) : Type 0 where
  pub priority_bytes : List ℕ
  pub stream_bytes : List ℕ
  pub priority_file : IsFile old.files priority priority_bytes
  pub stream_file : IsFile old.files stream stream_bytes
  pub session : IsAcceptedWithin MAX_REPLAY_SESSION priority_bytes stream_bytes

-- the events that these bytes are as a script of the session of the two files
abbrev pub script_in : List ℕ → List ℕ → List ℕ → Result (List Event) ℕ
script_in priority stream script =
    events_in (length (session_of priority stream).groups) (priorities_of priority).packets script

-- the three files: a session, and a script
pub record HasScript (old : Seen) (stream priority script : List ℕ) : Type 0 where
  pub session : HasSession old stream priority
  pub script_bytes : List ℕ
  pub script_file : IsFile old.files script script_bytes

-- what the script is
abbrev pub script_read : {old : Seen} {stream priority script : List ℕ} → HasScript old stream priority script
    → Result (List Event) ℕ
script_read h = script_in h.session.priority_bytes h.session.stream_bytes h.script_bytes

-- a fault of the session's two files, of which a session may have so many bytes
abbrev pub IsFaulty : Seen → Seen → List ℕ → List ℕ → SourceFault → Type 0
IsFaulty old new stream priority fault = IsSourceFaultWithin MAX_REPLAY_SESSION old new stream priority fault

-- What `replay` does, by its end. The files are judged in order: a cause of the session's files needs nothing of the
-- script, and a cause of the script comes only where these are a session.
abbrev pub Replays : Seen → Seen → List ℕ → List ℕ → List ℕ → ReplayEnd → Type 0
Replays old new stream priority script (Done text) =
    (h : HasScript old stream priority script) × (events : List Event) × (script_read h ≡ Ok events)
    × (text.items ≡ replay_text (session_of h.session.priority_bytes h.session.stream_bytes) events)
Replays old new stream priority script NoMemory = Unit {0}
Replays old new stream priority script PlaceFault =
    IsFaulty old new stream priority source.Failed
    ⊎ (HasSession old stream priority × Failed (reading script ∷ []) old new)
Replays old new stream priority script (BadPriority fault) = IsFaulty old new stream priority (source.Priority fault)
Replays old new stream priority script (BadStream scan) = IsFaulty old new stream priority (source.Stream scan)
Replays old new stream priority script (BadPlan fault) = IsFaulty old new stream priority (source.Plan fault)
Replays old new stream priority script (BadScript line) =
    (h : HasScript old stream priority script) × (script_read h ≡ Err line)
