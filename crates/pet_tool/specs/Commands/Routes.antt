-- The commands that read and send datagrams: `receive`, `breceive` and `relay`, which are done as their headlines say, and
-- `repair`. For each the line and the status of
-- each of its ends, what a run of it does, and when it is done. This project's own.
use Rattle.command_receive.specs.declared.command.ReceiveEnd.{ReceiveEnd}
use Rattle.command_receive.specs.declared.command.ReceiveEnd.TheVariants as receive
use Rattle.pet_repair.specs.declared.repair.RepairEnd.{RepairEnd}
use Rattle.pet_repair.specs.declared.repair.RepairEnd.TheVariants as repair
use Rattle.pet_byte.specs.declared.breceive.ByteEnd.{ByteEnd}
use Rattle.pet_byte.specs.declared.breceive.ByteEnd.TheVariants as byte
use Rattle.pet_repair.specs.declared.relay.RelayEnd.{RelayEnd}
use Rattle.pet_repair.specs.declared.relay.RelayEnd.TheVariants as relay
use Rattle.text_status.specs.declared.status.Status.{Status}
use Rattle.text_status.specs.declared.status.Status.TheVariants.{Done, NoMemory, PlaceFault, LinkFault, OutFault}
use Rattle.text_status.specs.declared.status.Status.TheVariants.{BadStore, Incomplete, TurnsSpent, Unlike}
use Rattle.std.specs.Prelude.{ℕ, List, [], length, map}
use Rattle.packet_reading.specs.declared.reading.Totals.{Totals}
use Rattle.pet_text.specs.Lines.{receive_text, repaired_text, relay_text}
use Rattle.pet_base.specs.OutsideSeen.{OutsideSeen}
use Rattle.pet_base.specs.Seen.{Files}
use Rattle.field_elements.specs.Gf16.{gf16_coding}
use Rattle.packet_frame.specs.Frame.{text}
use Rattle.packet_session.specs.Session.{Session}
use Rattle.packet_met.specs.Met.{Pair}
use Rattle.command_video.specs.VideosSession.{HasStoreOf}
use Rattle.stream_session.specs.Accepted.{session_of}
use Rattle.command_send.specs.Sends.{routes_in}
use Rattle.outside_routes.specs.RouteFaults.{AimedFailed}
use Rattle.outside_routes.specs.Way.{Way}
use Rattle.pet_repair.specs.Repaired.{complete_packets, complete_groups}
use Rattle.pet_repair.specs.Repairs.{HasSessionStore, uses as repair_uses, Repairs}
use Rattle.pet_repair.specs.SentTo.{SentTo}
use Rattle.pet_tool.specs.Undisturbed.{IsUndisturbedOn, EndsWith}
use Rattle.command_receive.specs.Receives.{Receives}
use Rattle.pet_repair.specs.Relays.{DoesRelay}
use Rattle.pet_byte.specs.ReceivesBytes.{ReceivesBytes}
use Rattle.pet_base.specs.Entries.{datagrams}
use Rattle.pet_tool.specs.Runs.{Runs, OnRoutes}

-- `receive`
-- the numbers of what `receive` read
abbrev pub totals_text : Totals → List ℕ
totals_text totals = receive_text totals.read totals.kept totals.shown

abbrev pub line_of_receive : ReceiveEnd → List ℕ
line_of_receive (receive.Done totals) = totals_text totals
line_of_receive receive.NoMemory = []
line_of_receive receive.PlaceFault = []
line_of_receive receive.LinkFault = []
line_of_receive receive.OutFault = []
line_of_receive (receive.Incomplete totals) = totals_text totals
line_of_receive (receive.TurnsSpent totals) = totals_text totals

abbrev pub status_of_receive : ReceiveEnd → Status
status_of_receive (receive.Done totals) = Done
status_of_receive receive.NoMemory = NoMemory
status_of_receive receive.PlaceFault = PlaceFault
status_of_receive receive.LinkFault = LinkFault
status_of_receive receive.OutFault = OutFault
status_of_receive (receive.Incomplete totals) = Incomplete
status_of_receive (receive.TurnsSpent totals) = TurnsSpent

abbrev pub RunsReceive : Way → List ℕ → List ℕ → List ℕ → OutsideSeen → OutsideSeen → Status → Type 0
RunsReceive from session layers store before after status =
    Runs line_of_receive status_of_receive (Receives from session layers store) before after status

-- `breceive`
abbrev pub line_of_breceive : ByteEnd → List ℕ
line_of_breceive (byte.Done read kept shown) = receive_text read kept shown
line_of_breceive byte.NoMemory = []
line_of_breceive byte.PlaceFault = []
line_of_breceive byte.LinkFault = []
line_of_breceive byte.OutFault = []
line_of_breceive (byte.Incomplete read kept shown) = receive_text read kept shown
line_of_breceive (byte.TurnsSpent read kept shown) = receive_text read kept shown

abbrev pub status_of_breceive : ByteEnd → Status
status_of_breceive (byte.Done read kept shown) = Done
status_of_breceive byte.NoMemory = NoMemory
status_of_breceive byte.PlaceFault = PlaceFault
status_of_breceive byte.LinkFault = LinkFault
status_of_breceive byte.OutFault = OutFault
status_of_breceive (byte.Incomplete read kept shown) = Incomplete
status_of_breceive (byte.TurnsSpent read kept shown) = TurnsSpent

abbrev pub RunsBreceive : Way → List ℕ → List ℕ → OutsideSeen → OutsideSeen → Status → Type 0
RunsBreceive from session layers before after status =
    Runs line_of_breceive status_of_breceive (ReceivesBytes from session layers) before after status

-- `relay`
abbrev pub line_of_relay : RelayEnd → List ℕ
line_of_relay (relay.Done read sent) = relay_text read sent
line_of_relay relay.NoMemory = []
line_of_relay relay.PlaceFault = []
line_of_relay relay.LinkFault = []
line_of_relay relay.OutFault = []
line_of_relay (relay.Incomplete read sent) = relay_text read sent
line_of_relay (relay.TurnsSpent read sent) = relay_text read sent
line_of_relay (relay.Unlike group number) = []

abbrev pub status_of_relay : RelayEnd → Status
status_of_relay (relay.Done read sent) = Done
status_of_relay relay.NoMemory = NoMemory
status_of_relay relay.PlaceFault = PlaceFault
status_of_relay relay.LinkFault = LinkFault
status_of_relay relay.OutFault = OutFault
status_of_relay (relay.Incomplete read sent) = Incomplete
status_of_relay (relay.TurnsSpent read sent) = TurnsSpent
status_of_relay (relay.Unlike group number) = Unlike group number

abbrev pub RunsRelay : Way → List ℕ → Way → OutsideSeen → OutsideSeen → Status → Type 0
RunsRelay from session to before after status =
    Runs line_of_relay status_of_relay (DoesRelay from session to) before after status

-- `repair`
abbrev pub line_of_repair : RepairEnd → List ℕ
line_of_repair (repair.Done groups datagrams) = repaired_text groups datagrams
line_of_repair repair.NoMemory = []
line_of_repair repair.PlaceFault = []
line_of_repair repair.LinkFault = []
line_of_repair (repair.BadStore at kind) = []
line_of_repair (repair.Unlike group number) = []

-- the one store is the first
abbrev pub status_of_repair : RepairEnd → Status
status_of_repair (repair.Done groups datagrams) = Done
status_of_repair repair.NoMemory = NoMemory
status_of_repair repair.PlaceFault = PlaceFault
status_of_repair repair.LinkFault = LinkFault
status_of_repair (repair.BadStore at kind) = BadStore 1 at kind
status_of_repair (repair.Unlike group number) = Unlike group number

abbrev pub RunsRepair : List ℕ → Way → OutsideSeen → OutsideSeen → Status → Type 0
RunsRepair store to before after status =
    Runs line_of_repair status_of_repair (OnRoutes (Repairs store to)) before after status

-- all packets of the groups of a session are sent that these pairs make complete, and their numbers are told
abbrev pub SendsComplete : Session → List Pair → Way → OutsideSeen → OutsideSeen → Status → Type 0
SendsComplete s pairs to before after status =
    SentTo to (map text (complete_packets gf16_coding s pairs)) (routes_in before) (routes_in after)
    × EndsWith Done (repaired_text (complete_groups s pairs) (length (complete_packets gf16_coding s pairs)))
    before after status

-- so it is of the store of packets of a session, whose messages have the byte 0 past each odd end
abbrev pub RepairsPackets : List ℕ → Way → OutsideSeen → OutsideSeen → Status → Type 0
RepairsPackets store to before after status =
    (s : Session) (files : Files) (pairs : List Pair)
    → IsUndisturbedOn (AimedFailed to) (repair_uses store to) before after status
    → HasSessionStore s pairs files store before.place → SendsComplete s pairs to before after status

-- and of the store of packets of a session of a stream
abbrev pub RepairsStream : List ℕ → Way → OutsideSeen → OutsideSeen → Status → Type 0
RepairsStream store to before after status =
    (p b : List ℕ) (files : Files) (pairs : List Pair)
    → IsUndisturbedOn (AimedFailed to) (repair_uses store to) before after status
    → HasStoreOf p b store files pairs before.place → SendsComplete (session_of p b) pairs to before after status

-- both
pub record CompletesRepair (store : List ℕ) (to : Way) (before after : OutsideSeen) (status : Status) : Type 0 where
  pub packets : RepairsPackets store to before after status
  pub of_stream : RepairsStream store to before after status
