-- What `bsend` leaves at each of its ends, and when it is done: what it sends are the frames of the byte profile over the field of
-- 256 elements. This project's own.
use Rattle.std.specs.Prelude.{ℕ, List}
use Rattle.pet_base.specs.declared.limits.TheConstants.{MAX_SESSION}
use Rattle.pet_base.specs.OutsideSeen.{OutsideSeen}
use Rattle.pet_base.specs.Seen.{Seen}
use Rattle.gf8.specs.Gf8.{gf8_coding}
use Rattle.packet_frame.specs.declared.format.TheConstants.{BYTE_FORMAT}
use Rattle.outside_routes.specs.Way.{Way}
use Rattle.stream_session.specs.Sessions.{IsGivenIn}
use Rattle.command_send.specs.declared.command.SendEnd.{SendEnd}
use Rattle.command_send.specs.Sends.{SendsIn}
use Rattle.command_send.specs.SendsSession.{SendsAllIn, SendsSessionIn}

-- the files are told, and these two are an accepted session of the byte profile
abbrev pub IsGivenBytes : Seen → List ℕ → List ℕ → List ℕ → List ℕ → Type 0
IsGivenBytes old stream priority priority_bytes stream_bytes =
    IsGivenIn BYTE_FORMAT MAX_SESSION old stream priority priority_bytes stream_bytes

abbrev pub SendsBytes : List ℕ → List ℕ → Way → OutsideSeen → OutsideSeen → SendEnd → Type 0
SendsBytes stream priority way before after end = SendsIn BYTE_FORMAT gf8_coding stream priority way before after end

abbrev pub SendsAllBytes : Way → List ℕ → List ℕ → OutsideSeen → OutsideSeen → Type 0
SendsAllBytes way p b before after = SendsAllIn BYTE_FORMAT gf8_coding way p b before after

abbrev pub SendsByteSession : List ℕ → List ℕ → Way → OutsideSeen → OutsideSeen → SendEnd → Type 0
SendsByteSession stream priority way before after end =
    SendsSessionIn BYTE_FORMAT gf8_coding stream priority way before after end
