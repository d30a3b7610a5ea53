-- The headline: what a run of `receive` leaves of a session. This project's own.
use Rattle.std.specs.Prelude.{◌≡◌, ◌⊎◌, ℕ, ◌<◌, List, ◌++◌, length, All, Contains, Some, if◌then◌else◌}
use Rattle.pet_base.specs.declared.limits.TheConstants.{MAX_DATAGRAMS}
use Rattle.pet_base.specs.Entries.{datagrams}
use Rattle.pet_base.specs.OutsideSeen.{OutsideSeen}
use Rattle.pet_base.specs.Seen.{Files}
use Rattle.outside_routes.specs.RouteFaults.{BoundFailed}
use Rattle.outside_routes.specs.Way.{Way}
use Rattle.packet_session.specs.Session.{Session}
use Rattle.stream_session.specs.Accepted.{IsAcceptedSession, session_of}
use Rattle.stream_session.specs.Number.{session_number}
use Rattle.packet_session.specs.Datagrams.{datagrams_text}
use Rattle.packet_met.specs.Met.{met_in, all_shown}
use Rattle.command_receive.specs.NamedLayers.{NamesStored}
use Rattle.command_receive.specs.Receives.{port_line, uses_of}
use Rattle.command_receive.specs.ReceivesSession.{HasDatagrams, HasPacketsOf, ReceivesSession, session_totals}
use Rattle.text_status.specs.declared.status.Status.{Status}
use Rattle.text_status.specs.declared.status.Status.TheVariants.{Done, Incomplete, TurnsSpent}
use Rattle.pet_tool.specs.Commands.Routes.{totals_text}
use Rattle.pet_tool.specs.Undisturbed.{IsUndisturbedOn, EndsWith}

-- the line of the numbers, by the packets that were met
abbrev pub session_numbers : Session → List (List ℕ) → List ℕ
session_numbers s ds = totals_text (session_totals s ds)

-- LAYERS and STORE are what the session defines, and no other file has changed; the status is Done exactly where every
-- layer of every group is shown, and else Incomplete; and the lines printed are the defined ones.
pub record ReceivesAndTells (s : Session) (from : Way) (layers store : List ℕ) (files : Files) (ds : List (List ℕ))
    (before after : OutsideSeen) (status : Status) : Type 0 where
  pub left : ReceivesSession s from layers store files ds before after
  pub ends : EndsWith (if all_shown s (met_in s.number ds) then Done else Incomplete)
      (port_line from after.link ++ session_numbers s ds) before after status

-- For every session, and every FROM, a file or a link that tells what is to come, of which each datagram that is a
-- frame of the
-- session's number is one of its packets.
abbrev pub Headline : Way → List ℕ → List ℕ → List ℕ → OutsideSeen → OutsideSeen → Status → Type 0
Headline from session layers store before after status =
    (s : Session) (files : Files) (ds : List (List ℕ)) → session ≡ s.number
    → IsUndisturbedOn (BoundFailed from) (uses_of from layers store) before after status
    → HasPacketsOf s from files ds before → ReceivesAndTells s from layers store files ds before after status

-- A priority file and a stream of these bytes are an accepted session, and FROM has fewer than 16,777,216 datagrams,
-- each
-- of which is one that `send` sends of that session: any of them may be lost, repeated, or come in another order.
pub record HasWhatWasSent (priority stream : List ℕ) (from : Way) (files : Files) (ds : List (List ℕ))
    (old : OutsideSeen) : Type 0 where
  pub stream_bytes : All (λ b. b < 256) stream
  pub accepted : IsAcceptedSession priority stream
  pub told : old.place.files ≡ Some files
  pub found : HasDatagrams from files ds old
  pub few : length ds < MAX_DATAGRAMS
  pub sent : All (Contains (datagrams (datagrams_text (session_of priority stream)))) ds

-- then `receive` gives the layers of that stream, and the store of the packets that came
abbrev pub ReceivesWhatWasSent : Way → List ℕ → List ℕ → List ℕ → OutsideSeen → OutsideSeen → Status → Type 0
ReceivesWhatWasSent from session layers store before after status =
    (p b : List ℕ) (files : Files) (ds : List (List ℕ)) → session ≡ session_number p b
    → IsUndisturbedOn (BoundFailed from) (uses_of from layers store) before after status
    → HasWhatWasSent p b from files ds before
    → ReceivesAndTells (session_of p b) from layers store files ds before after status

-- At each status that comes once both files are written, STORE has a kept set of the session, and LAYERS names exactly
-- the layers whose
-- counts it reaches, each once: of a file and of any link, whether or not it tells what came.
abbrev pub NamesWhatItStores : List ℕ → List ℕ → List ℕ → OutsideSeen → OutsideSeen → Status → Type 0
NamesWhatItStores session layers store before after status =
    (status ≡ Done) ⊎ (status ≡ Incomplete) ⊎ (status ≡ TurnsSpent) → NamesStored session layers store before after

-- all three
pub record MeetsHeadline (from : Way) (session layers store : List ℕ) (before after : OutsideSeen)
    (status : Status) : Type 0 where
  pub headline : Headline from session layers store before after status
  pub of_send : ReceivesWhatWasSent from session layers store before after status
  pub named : NamesWhatItStores session layers store before after status
