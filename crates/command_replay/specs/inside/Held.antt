-- The session of a stream that is held. This project's own.
use Rattle.std.specs.Prelude.{◌≡◌, ℕ, List, map, All, None}
use Rattle.pet_base.specs.declared.event.Event.{Event}
use Rattle.pet_base.specs.declared.limits.TheConstants.{MAX_REPLAY_SESSION}
use Rattle.priority_file.specs.Refusals.{priorities_of}
use Rattle.packet_session.specs.Encoding.{Encoding, IsGroupOf}
use Rattle.packet_session.specs.Session.{Session}
use Rattle.pet_world.specs.declared.world.TheConstants.{MAX_RECEIVERS}
use Rattle.pet_world.specs.ReceivedSets.{event_refusal}
use Rattle.stream_session.specs.Accepted.{IsAcceptedWithin, group_of}
use Rattle.stream_session.specs.Number.{session_number}
use Rattle.stream_session.specs.Tables.{tables_of, cuts_of_stream}
use Rattle.session_source.specs.declared.whole.WholeSource.{WholeSource}

-- it is an accepted session of no more bytes than `replay` takes
pub record IsHeld (whole : WholeSource) : Type 0 where
  pub file : List ℕ
  pub accepted : IsAcceptedWithin MAX_REPLAY_SESSION file whole.bytes.items
  pub rules : whole.source.priority ≡ priorities_of file
  pub number : whole.source.number ≡ session_number file whole.bytes.items
  pub tables : whole.source.tables.items
      ≡ tables_of (priorities_of file) (cuts_of_stream (priorities_of file) whole.bytes.items)

-- the session
abbrev pub held_session : WholeSource → Session
held_session whole = record {
  number = whole.source.number;
  groups = map (group_of whole.source.priority whole.bytes.items)
      (cuts_of_stream whole.source.priority whole.bytes.items);
}

-- an encoder is that of the group of this number
abbrev pub IsEncoderAt : Session → ℕ → Encoding → Type 0
IsEncoderAt s group e = IsGroupOf s e × (e.header.group ≡ group)

-- no event is refused by a world of the session
abbrev pub AreKnown : Session → List Event → Type 0
AreKnown s events = All (λ event. event_refusal MAX_RECEIVERS s event ≡ None) events
