-- What `bsend` sends is received as the session that it was sent of.
use Rattle.std.proofs.Common.{ℕ, ◌<◌, List, refl, arith}
use Rattle.std.proofs.lemmas.List.Elements.{All-contains}
use Rattle.pet_base.specs.Entries.{datagrams}
use Rattle.pet_base.specs.OutsideSeen.{OutsideSeen}
use Rattle.pet_base.specs.Seen.{Files}
use Rattle.gf8.specs.Gf8.{gf8_coding}
use Rattle.gf8.specs.laws.Gf8Laws.{gf8_lawful}
use Rattle.outside_routes.specs.Way.{Way}
use Rattle.packet_frame.specs.declared.format.TheConstants.{BYTE_FORMAT}
use Rattle.packet_frame.specs.laws.Formats.{byte_format_is}
use Rattle.packet_session.specs.Session.{Session, IsSessionIn}
use Rattle.packet_session.specs.Datagrams.{IsItsDatagramIn, datagrams_text_in}
use Rattle.packet_session.specs.laws.SentLaws.{sent_are_packets_in}
use Rattle.stream_session.specs.Accepted.{session_of_in}
use Rattle.stream_session.specs.laws.FormatLaws.{bytewise_is}
use Rattle.stream_session.specs.laws.SessionOfLaws.{is_session_in, session_fits_in}
use Rattle.pet_byte.specs.BytesReceived.{HasBytePacketsOf}
use Rattle.text_status.specs.declared.status.Status.{Status}
use Rattle.pet_tool.specs.ByteHeadline.{ByteHeadline}
use Rattle.pet_tool.specs.BytesSent.{HasBytesSent, CompletesBreceive}

-- what `bsend` sends are packets of the session
bytes_given : (p b : List ℕ) (from : Way) (files : Files) (ds : List (List ℕ)) (old : OutsideSeen)
    → HasBytesSent p b from files ds old → HasBytePacketsOf (session_of_in BYTE_FORMAT p b) from files ds old
bytes_given p b from files ds old sent =
    let s : Session = session_of_in BYTE_FORMAT p b in
    let session : IsSessionIn BYTE_FORMAT s = is_session_in BYTE_FORMAT bytewise_is p b sent.stream_bytes sent.accepted in
    record {
      session = session;
      fits = session_fits_in BYTE_FORMAT p b sent.accepted;
      told = sent.told;
      found = sent.found;
      few = sent.few;
      packets = λ k d lt accepted number.
          (All-contains (IsItsDatagramIn BYTE_FORMAT gf8_coding s) (datagrams (datagrams_text_in BYTE_FORMAT gf8_coding s)) _
          (sent_are_packets_in (λ a. a < 256) 256 gf8_coding gf8_lawful BYTE_FORMAT byte_format_is refl (omega arith) s
          session)
          (sent.sent k d lt)).packet;
    }

-- so the headline holds of what was sent too
pub with_what_was_sent : (from : Way) (session layers : List ℕ) (before after : OutsideSeen) (status : Status)
    → ByteHeadline from session layers before after status
    → CompletesBreceive from session layers before after status
with_what_was_sent from session layers before after status meets = record {
  packets = meets;
  of_bsend = λ p b files ds is calm sent. meets (session_of_in BYTE_FORMAT p b) files ds is calm
      (bytes_given p b from files ds before sent);
}
