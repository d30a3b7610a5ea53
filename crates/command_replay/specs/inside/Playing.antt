-- What the events of a script leave: a world, and the lines that they print. This project's own.
use Rattle.std.specs.Prelude.{◌≡◌, ℕ, ◌<◌, true, List, ◌++◌, length, slice_get, Some}
use Rattle.field_elements.specs.Gf16.{gf16_coding}
use Rattle.pet_base.specs.declared.event.Event.{Event}
use Rattle.pet_base.specs.declared.event.Shown.{Shown}
use Rattle.packet_session.specs.Session.{Session, SessionGroup}
use Rattle.packet_met.specs.EncodedSession.{encoded_session}
use Rattle.packet_met.specs.Met.{shows}
use Rattle.pet_world.specs.ReceivedSets.{Sets, set_of, sets_after, sets_after_all}
use Rattle.pet_world.specs.World.{WorldState, HaveMet}
use Rattle.command_replay.specs.ReplayText.{event_lines, events_lines}

-- the session of a world, whose words have two bytes
abbrev pub session_in : WorldState ℕ → Session
session_in w = encoded_session w.encoders

-- One event was carried out: whatever sets the receivers had met, now they have met those after the event, and the text
-- has grown by its lines.
pub record IsPlayed (w : WorldState ℕ) (number : ℕ) (event : Event) (before : List ℕ) (v : WorldState ℕ)
    (after : List ℕ) : Type 0 where
  pub encoders : v.encoders ≡ w.encoders
  pub many : length v.receivers ≡ length w.receivers
  pub played : (sets : Sets) → HaveMet gf16_coding w sets
      → HaveMet gf16_coding v (sets_after sets event) × (after ≡ before ++ event_lines (session_in w) sets number event)

-- so some, numbered from 1
pub record ArePlayed (w : WorldState ℕ) (events : List Event) (before : List ℕ) (v : WorldState ℕ) (after : List ℕ)
    : Type 0 where
  pub encoders : v.encoders ≡ w.encoders
  pub many : length v.receivers ≡ length w.receivers
  pub played : (sets : Sets) → HaveMet gf16_coding w sets
      → HaveMet gf16_coding v (sets_after_all sets events)
      × (after ≡ before ++ events_lines (session_in w) sets 1 events)

-- the receiver of this number is there, and shows the layer of its group
pub record IsShownIn (w : WorldState ℕ) (x : Shown) : Type 0 where
  pub sets : Sets
  pub met : HaveMet gf16_coding w sets
  pub there : x.receiver < length w.receivers
  pub source : SessionGroup
  pub group : slice_get (session_in w).groups x.group ≡ Some source
  pub layer : x.layer < length source.layers
  pub shown : shows (set_of sets x.receiver) x.group source x.layer ≡ true
