-- The headline of `breceive`: what a run of it leaves of a byte session. This project's own.
use Rattle.std.specs.Prelude.{◌≡◌, ℕ, List, ◌++◌, if◌then◌else◌}
use Rattle.pet_base.specs.OutsideSeen.{OutsideSeen}
use Rattle.pet_base.specs.Seen.{Files}
use Rattle.outside_routes.specs.RouteFaults.{BoundFailed}
use Rattle.outside_routes.specs.Way.{Way}
use Rattle.packet_frame.specs.declared.format.TheConstants.{BYTE_FORMAT}
use Rattle.packet_session.specs.Session.{Session}
use Rattle.packet_met.specs.Met.{met_by, all_shown}
use Rattle.packet_reading.specs.Layers.{port_line}
use Rattle.packet_reading.specs.SessionRead.{session_totals_in}
use Rattle.pet_byte.specs.BytesReceived.{HasBytePacketsOf, ReceivesByteSession}
use Rattle.pet_byte.specs.ReceivesBytes.{byte_uses_of}
use Rattle.text_status.specs.declared.status.Status.{Status}
use Rattle.text_status.specs.declared.status.Status.TheVariants.{Done, Incomplete}
use Rattle.pet_tool.specs.Commands.Routes.{totals_text}
use Rattle.pet_tool.specs.Undisturbed.{IsUndisturbedOn, EndsWith}

-- the line of the numbers, by the packets that were met
abbrev pub byte_session_numbers : Session → List (List ℕ) → List ℕ
byte_session_numbers s ds = totals_text (session_totals_in BYTE_FORMAT s ds)

-- LAYERS is what the session defines, and no other file has changed; the status is Done exactly where every layer of
-- every group is shown, and else Incomplete; and the lines printed are the defined ones.
pub record ReceivesBytesAndTells (s : Session) (from : Way) (layers : List ℕ) (files : Files) (ds : List (List ℕ))
    (before after : OutsideSeen) (status : Status) : Type 0 where
  pub left : ReceivesByteSession s from layers files ds before after
  pub ends : EndsWith (if all_shown s (met_by BYTE_FORMAT s.number ds) then Done else Incomplete)
      (port_line from after.link ++ byte_session_numbers s ds) before after status

-- For every byte session, and every FROM, a file or a link that tells what is to come, of which each datagram that is a
-- frame of the byte profile with the session's number is one of its packets.
abbrev pub ByteHeadline : Way → List ℕ → List ℕ → OutsideSeen → OutsideSeen → Status → Type 0
ByteHeadline from session layers before after status =
    (s : Session) (files : Files) (ds : List (List ℕ)) → session ≡ s.number
    → IsUndisturbedOn (BoundFailed from) (byte_uses_of from layers) before after status
    → HasBytePacketsOf s from files ds before → ReceivesBytesAndTells s from layers files ds before after status
