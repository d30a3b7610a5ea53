-- Laws of the file that `send` writes, for the proofs of callers.
use Rattle.std.proofs.Common.{◌<◌, List, ℕ, All}
use Rattle.pet_base.specs.Entries.{datagrams}
use Rattle.stream_session.specs.Accepted.{IsAcceptedSession, session_of}
use Rattle.stream_session.specs.laws.SessionOfLaws.{is_session}
use Rattle.packet_session.specs.Datagrams.{IsItsDatagram}
use Rattle.packet_session.specs.laws.SentLaws.{sent_are_packets}
use Rattle.command_send.specs.Sends.{packets_file}

-- Each datagram of the file of an accepted session is accepted, has the session's number, and is one of its packets.
pub file_has_packets : (to priority stream : List ℕ) → All (λ b. b < 256) stream → IsAcceptedSession priority stream
    → All (IsItsDatagram (session_of priority stream)) (datagrams (packets_file to priority stream).bytes)
file_has_packets to priority stream small accepted =
    sent_are_packets (session_of priority stream) (is_session priority stream small accepted)
