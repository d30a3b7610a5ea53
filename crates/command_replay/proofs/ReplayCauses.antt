-- Why `replay` ends before it prints, out of what its parts found; and that the text is that of the script's events.
use Rattle.std.proofs.Common.{◌≡◌, ℕ, ◌≤◌, List, length, Option, refl, sym, ap, ap₂, subst, ◌∙◌, inl, inr}
use Rattle.std.specs.Prelude.{Vec}
use Rattle.std.specs.declared.alloc.Global.{Global}
use Rattle.pet_base.specs.declared.event.Event.{Event}
use Rattle.pet_base.specs.declared.limits.TheConstants.{MAX_REPLAY_SESSION}
use Rattle.pet_base.specs.Seen.{Seen, Files}
use Rattle.pet_base.specs.laws.SeenLaws.{HadFault-since}
use Rattle.outside_files.specs.Inputs.{IsFile}
use Rattle.packet_session.specs.Session.{Session}
use Rattle.priority_file.specs.Priority.{Priorities}
use Rattle.stream_session.specs.Accepted.{session_of}
use Rattle.session_source.specs.Sources.{IsSourceWithin, has_failed}
use Rattle.session_source.specs.declared.source.SourceFault.{SourceFault}
use Rattle.session_source.specs.declared.source.SourceFault.TheVariants as source
use Rattle.session_source.specs.declared.whole.WholeSource.{WholeSource}
use Rattle.command_replay.specs.declared.command.ReplayEnd.{ReplayEnd}
use Rattle.command_replay.specs.declared.command.ReplayEnd.TheVariants.{Done, NoMemory, PlaceFault, BadPriority}
use Rattle.command_replay.specs.declared.command.ReplayEnd.TheVariants.{BadStream, BadPlan, BadScript}
use Rattle.command_replay.specs.Ends.{replay_end, replay_failed}
use Rattle.command_replay.specs.ReplayText.{replay_text}
use Rattle.command_replay.specs.Replays.{HasScript, IsFaulty, Replays, script_in}
use Rattle.command_replay.specs.Scripts.{events_in}
use Rattle.command_replay.specs.inside.Held.{IsHeld, held_session}
use Rattle.command_replay.specs.inside.Reading.{HasEvents, HasNoEvents, IsTextOf}
use Rattle.command_replay.proofs.HeldSession.{held, has_session, session_is, many_groups}

-- a fault of the session's files
pub source_cause : (old new : Seen) (stream priority script : List ℕ) (fault : SourceFault)
    → IsFaulty old new stream priority fault → Replays old new stream priority script (replay_end fault)
source_cause old new stream priority script source.NoMemory is = tt
source_cause old new stream priority script source.Failed is = inl is
source_cause old new stream priority script (source.Priority fault) is = is
source_cause old new stream priority script (source.Stream scan) is = is
source_cause old new stream priority script (source.Plan fault) is = is

pub failed_alike : (fault : SourceFault) → has_failed fault ≡ replay_failed (replay_end fault)
failed_alike source.NoMemory = refl
failed_alike source.Failed = refl
failed_alike (source.Priority fault) = refl
failed_alike (source.Stream scan) = refl
failed_alike (source.Plan fault) = refl

module _ (old between : Seen) (stream priority script : List ℕ) (whole : WholeSource)
    (s : IsSourceWithin MAX_REPLAY_SESSION old.files stream priority whole.source) (e : whole.bytes.items ≡ s.bytes)
    (same : between.files ≡ old.files) where
  abbrev is_held : IsHeld whole
  is_held = held old.files stream priority whole s e

  -- the session that is held is that of the files
  session_of_files : held_session whole ≡ session_of s.file s.bytes
  session_of_files = session_is whole is_held ∙ ap (session_of s.file) e

  -- and the script is read as one of it
  read_alike : (bytes : List ℕ)
      → events_in (length whole.source.tables.items) whole.source.priority.packets bytes ≡ script_in s.file s.bytes bytes
  read_alike bytes =
      ap₂ (λ (n k : ℕ). events_in n k bytes)
      (sym (many_groups whole is_held) ∙ ap (λ (x : Session). length x.groups) session_of_files)
      (ap (λ (p : Priorities). p.packets) s.rules)

  abbrev has_script : (bytes : List ℕ) → IsFile between.files script bytes → HasScript old stream priority script
  has_script bytes file = record {
    session = has_session old stream priority whole s;
    script_bytes = bytes;
    script_file = subst (λ (o : Option Files). IsFile o script bytes) same file;
  }

  -- why the script has no events
  pub script_cause : (new : Seen) (end : ReplayEnd) → old.faults ≤ between.faults
      → HasNoEvents between new script (length whole.source.tables.items) whole.source.priority.packets end
      → Replays old new stream priority script end
  script_cause new NoMemory later none = tt
  script_cause new PlaceFault later none =
      inr (has_session old stream priority whole s, HadFault-since old between new _ _ later (λ b is. is) none)
  script_cause new (BadScript line) later none =
      (has_script none.0 none.1, sym (read_alike none.0) ∙ none.2)
  script_cause new (Done text) later none = absurd none.2
  script_cause new (BadPriority fault) later none = absurd none.2
  script_cause new (BadStream scan) later none = absurd none.2
  script_cause new (BadPlan fault) later none = absurd none.2

  -- the text of its events
  pub text_of : (events : List Event) (text : Vec ℕ Global)
      → HasEvents between script (length whole.source.tables.items) whole.source.priority.packets events
      → text.items ≡ replay_text (held_session whole) events → IsTextOf old stream priority script text
  text_of events text has is = record {
    files = has_script has.bytes has.file;
    events = events;
    read = sym (read_alike has.bytes) ∙ has.read;
    is = is ∙ ap (λ (x : Session). replay_text x events) session_of_files;
  }
