-- When `breceive` is done, and what it then gives of what `bsend` sends. This project's own.
use Rattle.std.specs.Prelude.{◌≡◌, ℕ, ◌<◌, List, length, All, Contains, Some}
use Rattle.pet_base.specs.declared.limits.TheConstants.{MAX_DATAGRAMS, MAX_SESSION}
use Rattle.pet_base.specs.Entries.{datagrams}
use Rattle.pet_base.specs.OutsideSeen.{OutsideSeen}
use Rattle.pet_base.specs.Seen.{Files}
use Rattle.gf8.specs.Gf8.{gf8_coding}
use Rattle.outside_routes.specs.RouteFaults.{BoundFailed}
use Rattle.outside_routes.specs.Way.{Way}
use Rattle.packet_frame.specs.declared.format.TheConstants.{BYTE_FORMAT}
use Rattle.packet_session.specs.Datagrams.{datagrams_text_in}
use Rattle.stream_session.specs.Accepted.{IsAcceptedIn, session_of_in}
use Rattle.stream_session.specs.Number.{session_number}
use Rattle.packet_reading.specs.SessionRead.{HasDatagrams}
use Rattle.pet_byte.specs.ReceivesBytes.{byte_uses_of}
use Rattle.text_status.specs.declared.status.Status.{Status}
use Rattle.pet_tool.specs.ByteHeadline.{ByteHeadline, ReceivesBytesAndTells}
use Rattle.pet_tool.specs.Undisturbed.{IsUndisturbedOn}

-- A priority file and a stream of these bytes are an accepted session of the byte profile, and FROM has fewer than
-- 16,777,216 datagrams, each of which is one that `bsend` sends of that session: any of them may be lost, repeated, or
-- come in another order.
pub record HasBytesSent (priority stream : List ℕ) (from : Way) (files : Files) (ds : List (List ℕ))
    (old : OutsideSeen) : Type 0 where
  pub stream_bytes : All (λ b. b < 256) stream
  pub accepted : IsAcceptedIn BYTE_FORMAT MAX_SESSION priority stream
  pub told : old.place.files ≡ Some files
  pub found : HasDatagrams from files ds old
  pub few : length ds < MAX_DATAGRAMS
  pub sent : All (Contains (datagrams (datagrams_text_in BYTE_FORMAT gf8_coding
      (session_of_in BYTE_FORMAT priority stream)))) ds

-- then `breceive` gives the layers of that stream
abbrev pub ReceivesBytesSent : Way → List ℕ → List ℕ → OutsideSeen → OutsideSeen → Status → Type 0
ReceivesBytesSent from session layers before after status =
    (p b : List ℕ) (files : Files) (ds : List (List ℕ)) → session ≡ session_number p b
    → IsUndisturbedOn (BoundFailed from) (byte_uses_of from layers) before after status
    → HasBytesSent p b from files ds before
    → ReceivesBytesAndTells (session_of_in BYTE_FORMAT p b) from layers files ds before after status

-- of every byte session, and of what was sent
pub record CompletesBreceive (from : Way) (session layers : List ℕ) (before after : OutsideSeen)
    (status : Status) : Type 0 where
  pub packets : ByteHeadline from session layers before after status
  pub of_bsend : ReceivesBytesSent from session layers before after status
