-- A stream and a priority file that are an accepted session, and the session that they are. This project's own.
use Rattle.std.specs.Prelude.{◌≡◌, ℕ, List, length, map, None}
use Rattle.mpeg_scan.specs.Refusals.{IsAccepted}
use Rattle.mpeg_scan.specs.Pieces.{pieces_of}
use Rattle.priority_file.specs.Priority.{Priorities}
use Rattle.priority_file.specs.Refusals.{refusal_of, priorities_of}
use Rattle.layer_split.specs.Layers.{Cut, message, message_by}
use Rattle.stripe_plan.specs.Sizes.{planned}
use Rattle.packet_frame.specs.declared.format.Format.{Format}
use Rattle.packet_frame.specs.declared.format.TheConstants.{FORMAT}
use Rattle.packet_session.specs.Session.{Session, SessionGroup}
use Rattle.stream_session.specs.Tables.{sizes_of, cuts_of_stream}
use Rattle.pet_base.specs.declared.limits.TheConstants.{MAX_SESSION}
use Rattle.stream_session.specs.Refusals.{session_fault_in}
use Rattle.stream_session.specs.Number.{session_number}

-- neither is refused, and no cause holds against their plan in a format, where a session may have so many bytes
pub record IsAcceptedIn (t : Format) (limit : ℕ) (priority stream : List ℕ) : Type 0 where
  pub priority_read : refusal_of priority ≡ None
  pub stream_read : IsAccepted stream
  pub fits : session_fault_in t limit (priorities_of priority) (pieces_of stream) ≡ None

abbrev pub IsAcceptedWithin : ℕ → List ℕ → List ℕ → Type 0
IsAcceptedWithin limit priority stream = IsAcceptedIn FORMAT limit priority stream

abbrev pub IsAcceptedSession : List ℕ → List ℕ → Type 0
IsAcceptedSession priority stream = IsAcceptedWithin MAX_SESSION priority stream

-- a group: its table, and the message of its layers
abbrev pub group_of : Priorities → List ℕ → Cut → SessionGroup
group_of priority stream cut = record {
  packets = priority.packets;
  layers = sizes_of priority cut;
  message = message stream cut.runs (length priority.layers);
}

abbrev pub session_of : List ℕ → List ℕ → Session
session_of priority stream = record {
  number = session_number priority stream;
  groups = map (group_of (priorities_of priority) stream) (cuts_of_stream (priorities_of priority) stream);
}

-- the same in a format: the tables are those whose words its plans cut, and the messages are in its words
abbrev pub group_of_in : Format → Priorities → List ℕ → Cut → SessionGroup
group_of_in t priority stream cut = record {
  packets = priority.packets;
  layers = planned t.bounds (sizes_of priority cut);
  message = message_by t.word stream cut.runs (length priority.layers);
}

abbrev pub session_of_in : Format → List ℕ → List ℕ → Session
session_of_in t priority stream = record {
  number = session_number priority stream;
  groups = map (group_of_in t (priorities_of priority) stream) (cuts_of_stream (priorities_of priority) stream);
}
