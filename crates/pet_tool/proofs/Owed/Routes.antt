-- The commands that read and send datagrams: what the ends of each tell of failures, what it completes, and that it may
-- end for want of memory.
use Rattle.std.proofs.Common.{◌≡◌, ℕ, Bool, true, false, List, length, map, refl, sym, ap, subst, ◌∙◌, inl, inr}
use Rattle.std.specs.Prelude.{if◌then◌else◌}
use Rattle.pet_base.specs.Entries.{datagrams}
use Rattle.pet_base.specs.OutsideSeen.{OutsideSeen}
use Rattle.pet_base.specs.LinkSeen.{LinkSeen}
use Rattle.pet_base.specs.Seen.{Files, Seen}
use Rattle.field_elements.specs.Gf16.{gf16_coding}
use Rattle.packet_frame.specs.Frame.{text}
use Rattle.packet_session.specs.Session.{Session}
use Rattle.stream_session.specs.Accepted.{session_of}
use Rattle.stream_session.specs.laws.SessionOfLaws.{is_session, session_fits}
use Rattle.command_receive.specs.declared.command.ReceiveEnd.{ReceiveEnd}
use Rattle.command_receive.specs.declared.command.ReceiveEnd.TheVariants as receive
use Rattle.command_receive.specs.Opened.{IsBoundTo}
use Rattle.packet_reading.specs.declared.reading.Totals.{Totals}
use Rattle.packet_met.specs.Met.{all_shown, met_in, met_by}
use Rattle.command_send.specs.Sends.{routes_in}
use Rattle.pet_repair.specs.Repaired.{complete_packets}
use Rattle.pet_repair.specs.SentTo.{SentTo}
use Rattle.pet_repair.specs.laws.SessionRepaired.{completes_repair}
use Rattle.pet_repair.specs.laws.StreamZeros.{stream_zeros}
use Rattle.text_status.specs.declared.status.Status.{Status}
use Rattle.text_status.specs.declared.status.Status.TheVariants.{Done, Incomplete, NoMemory}
use Rattle.packet_frame.specs.declared.format.TheConstants.{BYTE_FORMAT}
use Rattle.outside_routes.specs.RouteFaults.{AimedFailed, BoundFailed}
use Rattle.outside_routes.specs.Sending.{Routes}
use Rattle.outside_routes.specs.Way.{Way}
use Rattle.text_status.specs.Statuses.{fault_text}
use Rattle.pet_tool.specs.Commands.Routes.{RepairsPackets, line_of_receive, line_of_repair, totals_text}
use Rattle.pet_tool.specs.Commands.Routes.{status_of_receive, status_of_repair, line_of_breceive, line_of_relay}
use Rattle.pet_tool.specs.Commands.Routes.{status_of_breceive, status_of_relay, RunsReceive, RunsBreceive, RunsRelay}
use Rattle.pet_tool.specs.Commands.Routes.{RunsRepair, CompletesRepair}
use Rattle.pet_tool.proofs.LinesTold.{ends_with, lines_told, ended_with}
use Rattle.pet_tool.proofs.Telling.{told_calm, told_since, place_calm, well_before}
use Rattle.command_receive.specs.Failures.{end_of_place as receive_place, end_of_link as receive_link}
use Rattle.pet_repair.specs.Failures.{repair_of_place, repair_of_link, relay_end_of_place, relay_end_of_link}
use Rattle.pet_repair.specs.declared.repair.RepairEnd.{RepairEnd}
use Rattle.pet_repair.specs.declared.repair.RepairEnd.TheVariants as repair
use Rattle.pet_repair.specs.declared.relay.RelayEnd.{RelayEnd}
use Rattle.pet_repair.specs.declared.relay.RelayEnd.TheVariants as relay
use Rattle.pet_byte.specs.Failures.{byte_of_place, byte_of_link}
use Rattle.pet_byte.specs.declared.breceive.ByteEnd.{ByteEnd}
use Rattle.pet_byte.specs.declared.breceive.ByteEnd.TheVariants as byte
use Rattle.pet_repair.specs.laws.SessionRelayed.{completes_relay}
use Rattle.pet_byte.specs.laws.BytesLaws.{completes_bytes}
use Rattle.packet_reading.specs.SessionRead.{session_totals_in}
use Rattle.pet_byte.specs.BytesReceived.{ReceivesByteSession, done_with, incomplete_with}
use Rattle.pet_tool.specs.ByteHeadline.{ByteHeadline, byte_session_numbers}
use Rattle.pet_repair.specs.Relays.{routes_of}
use Rattle.pet_repair.specs.RelaysSession.{relayed_datagrams}
use Rattle.pet_text.specs.Lines.{relay_text}
use Rattle.pet_tool.specs.RelayHeadline.{RelaysPackets, RelayFailed, relay_numbers, CompletesRelay}
use Rattle.pet_tool.specs.Headline.{MeetsHeadline}
use Rattle.pet_tool.proofs.Ends.{Agrees, lined_as, lined, unlined}
use Rattle.pet_tool.proofs.Headline.{sent_given, headline, received_sent, names_stored}

-- `receive`
pub receive_agrees : (end : ReceiveEnd)
    → Agrees (receive_place end) (receive_link end) (line_of_receive end) (status_of_receive end)
receive_agrees (receive.Done totals) = lined_as (totals_text totals) refl refl
receive_agrees receive.NoMemory = unlined refl refl
receive_agrees receive.PlaceFault = unlined refl refl
receive_agrees receive.LinkFault = unlined refl refl
receive_agrees receive.OutFault = unlined refl refl
receive_agrees (receive.Incomplete totals) = lined_as (totals_text totals) refl refl
receive_agrees (receive.TurnsSpent totals) = lined_as (totals_text totals) refl refl

pub receive_completes : (from : Way) (session layers store : List ℕ) (before after : OutsideSeen) (status : Status)
    → RunsReceive from session layers store before after status
    → MeetsHeadline from session layers store before after status
receive_completes from session layers store before after status runs =
    let meets = headline from session layers store before after status runs in
    record {
      headline = meets;
      of_send = received_sent from session layers store before after status meets;
      named = names_stored from session layers store before after status runs;
    }

-- `breceive`
pub breceive_agrees : (end : ByteEnd)
    → Agrees (byte_of_place end) (byte_of_link end) (line_of_breceive end) (status_of_breceive end)
breceive_agrees (byte.Done read kept shown) = lined_as (line_of_breceive (byte.Done read kept shown)) refl refl
breceive_agrees byte.NoMemory = unlined refl refl
breceive_agrees byte.PlaceFault = unlined refl refl
breceive_agrees byte.LinkFault = unlined refl refl
breceive_agrees byte.OutFault = unlined refl refl
breceive_agrees (byte.Incomplete read kept shown) =
    lined_as (line_of_breceive (byte.Incomplete read kept shown)) refl refl
breceive_agrees (byte.TurnsSpent read kept shown) =
    lined_as (line_of_breceive (byte.TurnsSpent read kept shown)) refl refl

-- the status and the line of the end, by whether all layers are shown
bytes_status : (all : Bool) (totals : Totals)
    → status_of_breceive (if all then done_with totals else incomplete_with totals) ≡ (if all then Done else Incomplete)
bytes_status true totals = refl
bytes_status false totals = refl

bytes_line : (all : Bool) (totals : Totals)
    → line_of_breceive (if all then done_with totals else incomplete_with totals) ≡ totals_text totals
bytes_line true totals = refl
bytes_line false totals = refl

-- what was left stays so behind the lines
bytes_left : (s : Session) (from : Way) (layers : List ℕ) (files : Files) (ds : List (List ℕ))
    (before between after : OutsideSeen) → after.place ≡ between.place → after.link ≡ between.link
    → ReceivesByteSession s from layers files ds before between
    → ReceivesByteSession s from layers files ds before after
bytes_left s from layers files ds before between after place link left = record {
  written = ap (λ (now : Seen). now.files) place ∙ left.written;
  listens = subst (IsBoundTo from before.link) (sym link) left.listens;
  fewest = left.fewest;
}

pub breceive_completes : (from : Way) (session layers : List ℕ) (before after : OutsideSeen) (status : Status)
    → RunsBreceive from session layers before after status
    → ByteHeadline from session layers before after status
breceive_completes from session layers before after status runs = λ s files ds is calm given.
    let said = told_since before runs.did.later calm.calm.well.out runs.tells in
    let all = all_shown s (met_by BYTE_FORMAT s.number ds) in
    let totals = session_totals_in BYTE_FORMAT s ds in
    let done = completes_bytes from session layers before runs.between runs.end runs.did s files ds is
    (record {
      memory = λ none. calm.calm.memory (said.ended ∙ ap status_of_breceive none);
      well = well_before said calm.calm.well;
      link = λ failed. calm.link (subst (λ (l : LinkSeen). BoundFailed from before.link l) (sym said.link) failed);
      given = given;
    }) in
    record {
      left = bytes_left s from layers files ds before runs.between after said.place said.link done.0;
      ends =
          ends_with _ status _ before after (said.ended ∙ ap status_of_breceive done.1 ∙ bytes_status all totals)
          (lines_told from (line_of_breceive runs.end) (byte_session_numbers s ds) (fault_text status) before
          runs.between
          after done.2 said.printed said.link (ap line_of_breceive done.1 ∙ bytes_line all totals));
    }

-- `relay`
pub relay_agrees : (end : RelayEnd)
    → Agrees (relay_end_of_place end) (relay_end_of_link end) (line_of_relay end) (status_of_relay end)
relay_agrees (relay.Done read sent) = lined_as (line_of_relay (relay.Done read sent)) refl refl
relay_agrees relay.NoMemory = unlined refl refl
relay_agrees relay.PlaceFault = unlined refl refl
relay_agrees relay.LinkFault = unlined refl refl
relay_agrees relay.OutFault = unlined refl refl
relay_agrees (relay.Incomplete read sent) = lined_as (line_of_relay (relay.Incomplete read sent)) refl refl
relay_agrees (relay.TurnsSpent read sent) = lined_as (line_of_relay (relay.TurnsSpent read sent)) refl refl
relay_agrees (relay.Unlike group number) = unlined refl refl

-- the status and the line of the end, by whether all layers are shown
relayed_status : (all : Bool) (read sent : ℕ)
    → status_of_relay (if all then relay.Done read sent else relay.Incomplete read sent)
    ≡ (if all then Done else Incomplete)
relayed_status true read sent = refl
relayed_status false read sent = refl

relayed_line : (all : Bool) (read sent : ℕ)
    → line_of_relay (if all then relay.Done read sent else relay.Incomplete read sent) ≡ relay_text read sent
relayed_line true read sent = refl
relayed_line false read sent = refl

-- what is seen of the files and of the link stays so behind the lines
routes_same : (between after : OutsideSeen) → after.place ≡ between.place → after.link ≡ between.link
    → routes_of between ≡ routes_of after
routes_same between after place link = λ i. record { place = sym place i; link = sym link i }

relays_packets : (from : Way) (session : List ℕ) (to : Way) (before after : OutsideSeen) (status : Status)
    → RunsRelay from session to before after status
    → RelaysPackets from session to before after status
relays_packets from session to before after status runs = λ s files ds is calm given.
    let said = told_since before runs.did.later calm.calm.well.out runs.tells in
    let all = all_shown s (met_in s.number ds) in
    let many = length ds in
    let sent = length (relayed_datagrams s ds) in
    let same = routes_same runs.between after said.place said.link in
    let failed : RelayFailed from to before.link runs.between.link → ⊥ =
    λ failed. calm.link (subst (λ (l : LinkSeen). RelayFailed from to before.link l) (sym said.link) failed) in
    let done = completes_relay from session to before runs.between runs.end runs.did s files ds is
    (record {
      memory = λ none. calm.calm.memory (said.ended ∙ ap status_of_relay none);
      well = well_before said calm.calm.well;
      bound = λ at_from. failed (inl at_from);
      aimed = λ at_to. failed (inr at_to);
      given = given;
    }) in
    record {
      sent = subst (λ (now : Routes). SentTo to (relayed_datagrams s ds) (routes_of before) now) same done.sent;
      listens = subst (λ (l : LinkSeen). IsBoundTo from before.link l) (sym said.link) done.listens;
      ends =
          ends_with _ status _ before after
          (said.ended ∙ ap status_of_relay done.ended ∙ relayed_status all many sent)
          (lines_told from (line_of_relay runs.end) (relay_numbers s ds) (fault_text status) before runs.between
          after done.printed said.printed said.link (ap line_of_relay done.ended ∙ relayed_line all many sent));
    }

pub relay_completes : (from : Way) (session : List ℕ) (to : Way) (before after : OutsideSeen) (status : Status)
    → RunsRelay from session to before after status → CompletesRelay from session to before after status
relay_completes from session to before after status runs =
    let relays = relays_packets from session to before after status runs in
    record {
      packets = relays;
      of_send = λ p b files ds is calm sent. relays (session_of p b) files ds is calm (record {
        packets = sent_given p b from files ds before sent;
        zeros = stream_zeros p b;
      });
    }

-- `repair`
pub repair_agrees : (end : RepairEnd)
    → Agrees (repair_of_place end) (repair_of_link end) (line_of_repair end) (status_of_repair end)
repair_agrees (repair.Done groups datagrams) = lined (line_of_repair (repair.Done groups datagrams))
repair_agrees repair.NoMemory = unlined refl refl
repair_agrees repair.PlaceFault = unlined refl refl
repair_agrees repair.LinkFault = unlined refl refl
repair_agrees (repair.BadStore at kind) = unlined refl refl
repair_agrees (repair.Unlike group number) = unlined refl refl

-- what the line of the end and that of the status leave of files and of the link
same_routes : (between after : OutsideSeen) → after.place ≡ between.place → after.link ≡ between.link
    → routes_in after ≡ routes_in between
same_routes between after place link = λ i. record { place = place i; link = link i }

repairs_packets : (store : List ℕ) (to : Way) (before after : OutsideSeen) (status : Status)
    → RunsRepair store to before after status
    → RepairsPackets store to before after status
repairs_packets store to before after status runs = λ s files pairs calm given.
    let said = told_calm before runs.did.out_faults calm.calm.well.out runs.tells in
    let done = completes_repair store to (routes_in before) (routes_in runs.between) runs.end runs.did.did s pairs files
    (record {
      memory = λ none. calm.calm.memory (said.ended ∙ ap status_of_repair none);
      well = place_calm said calm.calm.well;
      link = λ had. calm.link (subst (λ (l : LinkSeen). AimedFailed to before.link l) (sym said.link) had);
      given = given;
    }) in (
      subst (λ (now : Routes). SentTo to (map text (complete_packets gf16_coding s pairs)) (routes_in before) now)
          (sym (same_routes runs.between after said.place said.link)) done.sent,
      ended_with before runs.between after status _ _ _ _ runs.did.written said
          (ap status_of_repair done.ended) (ap line_of_repair done.ended),
    )

pub repair_completes : (store : List ℕ) (to : Way) (before after : OutsideSeen) (status : Status)
    → RunsRepair store to before after status → CompletesRepair store to before after status
repair_completes store to before after status runs =
    let repairs = repairs_packets store to before after status runs in
    record {
      packets = repairs;
      of_stream = λ p b files pairs calm has. repairs (session_of p b) files pairs calm (record {
        session = is_session p b has.bytes has.session;
        fits = session_fits p b has.session;
        zeros = stream_zeros p b;
        told = has.told;
        found = has.store_is;
      });
    }
