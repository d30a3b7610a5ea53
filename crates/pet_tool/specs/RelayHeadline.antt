-- When `relay` is done, and what it then has sent of a session's packets. This project's own.
use Rattle.std.specs.Prelude.{◌≡◌, ◌⊎◌, ℕ, List, ◌++◌, length, if◌then◌else◌}
use Rattle.pet_base.specs.LinkSeen.{LinkSeen}
use Rattle.pet_base.specs.OutsideSeen.{OutsideSeen}
use Rattle.pet_base.specs.Seen.{Files}
use Rattle.outside_routes.specs.RouteFaults.{AimedFailed, BoundFailed}
use Rattle.outside_routes.specs.Way.{Way}
use Rattle.packet_session.specs.Session.{Session}
use Rattle.stream_session.specs.Accepted.{session_of}
use Rattle.stream_session.specs.Number.{session_number}
use Rattle.packet_met.specs.Met.{all_shown, met_in}
use Rattle.packet_reading.specs.Layers.{port_line}
use Rattle.packet_reading.specs.Opened.{IsBoundTo}
use Rattle.pet_repair.specs.Relays.{relay_uses, routes_of}
use Rattle.pet_repair.specs.RelaysSession.{HasPacketsToRelay, relayed_datagrams}
use Rattle.pet_repair.specs.SentTo.{SentTo}
use Rattle.text_status.specs.declared.status.Status.{Status}
use Rattle.text_status.specs.declared.status.Status.TheVariants.{Done, Incomplete}
use Rattle.pet_text.specs.Lines.{relay_text}
use Rattle.pet_tool.specs.Headline.{HasWhatWasSent}
use Rattle.pet_tool.specs.Undisturbed.{IsUndisturbedOn, EndsWith}

-- the link failed at FROM, or at TO
abbrev pub RelayFailed : Way → Way → LinkSeen → LinkSeen → Type 0
RelayFailed from to old new = BoundFailed from old new ⊎ AimedFailed to old new

-- the line of the numbers: the datagrams that came, and those that the rule sends of them
abbrev pub relay_numbers : Session → List (List ℕ) → List ℕ
relay_numbers s ds = relay_text (length ds) (length (relayed_datagrams s ds))

-- TO has exactly the packets that the rule sends, arrival by arrival, and the link, where FROM is one, receives at its
-- address; the status is Done exactly where what came shows every layer of every group, and else Incomplete; and the
-- lines printed are the defined ones.
pub record RelaysAndTells (s : Session) (from to : Way) (ds : List (List ℕ)) (before after : OutsideSeen)
    (status : Status) : Type 0 where
  pub sent : SentTo to (relayed_datagrams s ds) (routes_of before) (routes_of after)
  pub listens : IsBoundTo from before.link after.link
  pub ends : EndsWith (if all_shown s (met_in s.number ds) then Done else Incomplete)
      (port_line from after.link ++ relay_numbers s ds) before after status

-- So it is for every session whose messages have the byte 0 past each odd end, and every FROM, a file or a link that
-- tells what is to come, of which each frame with the session's number is one of its packets.
abbrev pub RelaysPackets : Way → List ℕ → Way → OutsideSeen → OutsideSeen → Status → Type 0
RelaysPackets from session to before after status =
    (s : Session) (files : Files) (ds : List (List ℕ)) → session ≡ s.number
    → IsUndisturbedOn (RelayFailed from to) (relay_uses from to) before after status
    → HasPacketsToRelay s from files ds before → RelaysAndTells s from to ds before after status

-- And of the session of every accepted priority file and stream, where each datagram of FROM is one that `send` sends of
-- it: any of them may be lost, repeated, or come in another order.
abbrev pub RelaysWhatWasSent : Way → List ℕ → Way → OutsideSeen → OutsideSeen → Status → Type 0
RelaysWhatWasSent from session to before after status =
    (p b : List ℕ) (files : Files) (ds : List (List ℕ)) → session ≡ session_number p b
    → IsUndisturbedOn (RelayFailed from to) (relay_uses from to) before after status
    → HasWhatWasSent p b from files ds before → RelaysAndTells (session_of p b) from to ds before after status

-- both
pub record CompletesRelay (from : Way) (session : List ℕ) (to : Way) (before after : OutsideSeen)
    (status : Status) : Type 0 where
  pub packets : RelaysPackets from session to before after status
  pub of_send : RelaysWhatWasSent from session to before after status
