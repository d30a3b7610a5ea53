-- The headline of `receive` follows from what it does.
use Rattle.std.proofs.Common.{◌≡◌, ℕ, Bool, true, false, List, ◌⊎◌, refl, sym, ap, subst, ◌∙◌, inl, inr, ◌≢◌}
use Rattle.std.proofs.lemmas.List.Elements.{All-contains}
use Rattle.std.specs.Prelude.{if◌then◌else◌}
use Rattle.pet_base.specs.Entries.{datagrams}
use Rattle.pet_base.specs.OutsideSeen.{OutsideSeen}
use Rattle.pet_base.specs.LinkSeen.{LinkSeen}
use Rattle.pet_base.specs.Seen.{Files, Seen}
use Rattle.packet_session.specs.Session.{IsSession, Session}
use Rattle.packet_session.specs.Datagrams.{datagrams_text, IsItsDatagram}
use Rattle.packet_session.specs.laws.SentLaws.{sent_are_packets}
use Rattle.stream_session.specs.Accepted.{session_of}
use Rattle.stream_session.specs.laws.SessionOfLaws.{is_session, session_fits}
use Rattle.command_receive.specs.declared.command.ReceiveEnd.{ReceiveEnd}
use Rattle.command_receive.specs.declared.command.ReceiveEnd.TheVariants as receive
use Rattle.command_receive.specs.NamedLayers.{NamesStored, NamesWhatItStores as EndNames}
use Rattle.command_receive.specs.laws.NamedLaws.{names_what_it_stores}
use Rattle.command_receive.specs.Opened.{IsBoundTo}
use Rattle.command_receive.specs.ReceivesSession.{HasPacketsOf, ReceivesSession, session_totals}
use Rattle.packet_reading.specs.declared.reading.Totals.{Totals}
use Rattle.command_receive.specs.laws.SessionReceived.{completes_receive}
use Rattle.packet_met.specs.Met.{all_shown, met_in}
use Rattle.text_status.specs.declared.status.Status.{Status}
use Rattle.text_status.specs.declared.status.Status.TheVariants.{Done, Incomplete, OutFault, TurnsSpent}
use Rattle.outside_routes.specs.RouteFaults.{BoundFailed}
use Rattle.outside_routes.specs.Way.{Way}
use Rattle.text_status.specs.Statuses.{fault_text}
use Rattle.pet_tool.specs.Commands.Routes.{line_of_receive, totals_text, status_of_receive, RunsReceive}
use Rattle.pet_tool.proofs.LinesTold.{ends_with, lines_told}
use Rattle.pet_tool.proofs.Telling.{told_since, well_before, ended_as}
use Rattle.pet_tool.specs.Headline.{Headline, HasWhatWasSent, NamesWhatItStores, ReceivesWhatWasSent, session_numbers}

-- the status and the line of the end, by whether all layers are shown
received_status : (all : Bool) (totals : Totals)
    → status_of_receive (if all then receive.Done totals else receive.Incomplete totals)
    ≡ (if all then Done else Incomplete)
received_status true totals = refl
received_status false totals = refl

received_line : (all : Bool) (totals : Totals)
    → line_of_receive (if all then receive.Done totals else receive.Incomplete totals) ≡ totals_text totals
received_line true totals = refl
received_line false totals = refl

-- what was left stays so behind the lines
received_left : (s : Session) (from : Way) (layers store : List ℕ) (files : Files) (ds : List (List ℕ))
    (before between after : OutsideSeen) → after.place ≡ between.place → after.link ≡ between.link
    → ReceivesSession s from layers store files ds before between
    → ReceivesSession s from layers store files ds before after
received_left s from layers store files ds before between after place link left = record {
  written = ap (λ (now : Seen). now.files) place ∙ left.written;
  listens = subst (IsBoundTo from before.link) (sym link) left.listens;
  fewest = left.fewest;
}

pub headline : (from : Way) (session layers store : List ℕ) (before after : OutsideSeen) (status : Status)
    → RunsReceive from session layers store before after status
    → Headline from session layers store before after status
headline from session layers store before after status runs = λ s files ds is calm given.
    let said = told_since before runs.did.later calm.calm.well.out runs.tells in
    let all = all_shown s (met_in s.number ds) in
    let done = completes_receive from session layers store before runs.between runs.end runs.did s files ds is
    (record {
      memory = λ none. calm.calm.memory (said.ended ∙ ap status_of_receive none);
      well = well_before said calm.calm.well;
      link = λ failed. calm.link (subst (λ (l : LinkSeen). BoundFailed from before.link l) (sym said.link) failed);
      given = given;
    }) in
    record {
      left = received_left s from layers store files ds before runs.between after said.place said.link done.0;
      ends =
          ends_with _ status _ before after
          (said.ended ∙ ap status_of_receive done.1 ∙ received_status all (session_totals s ds))
          (lines_told from (line_of_receive runs.end) (session_numbers s ds) (fault_text status) before runs.between
          after done.2 said.printed said.link
          (ap line_of_receive done.1 ∙ received_line all (session_totals s ds)));
    }

-- what `send` sends are packets of the session
pub sent_given : (p b : List ℕ) (from : Way) (files : Files) (ds : List (List ℕ)) (old : OutsideSeen)
    → HasWhatWasSent p b from files ds old → HasPacketsOf (session_of p b) from files ds old
sent_given p b from files ds old sent =
    let session : IsSession 2 (session_of p b) = is_session p b sent.stream_bytes sent.accepted in
    record {
      session = session;
      fits = session_fits p b sent.accepted;
      told = sent.told;
      found = sent.found;
      few = sent.few;
      packets = λ k d lt accepted number.
          (All-contains (IsItsDatagram (session_of p b)) (datagrams (datagrams_text (session_of p b))) _
          (sent_are_packets (session_of p b) session) (sent.sent k d lt)).packet;
    }

pub received_sent : (from : Way) (session layers store : List ℕ) (before after : OutsideSeen) (status : Status)
    → Headline from session layers store before after status
    → ReceivesWhatWasSent from session layers store before after status
received_sent from session layers store before after status meets = λ p b files ds is calm sent.
    meets (session_of p b) files ds is calm (sent_given p b from files ds before sent)

-- LAYERS and STORE stay as they are behind the line of the status
still_stored : (session layers store : List ℕ) (before between after : OutsideSeen) → after.place ≡ between.place
    → NamesStored session layers store before between → NamesStored session layers store before after
still_stored session layers store before between after same named = record {
  set = named.set;
  sound = named.sound;
  number = named.number;
  text = named.text;
  files = ap (λ (place : Seen). place.files) same ∙ named.files;
  named = named.named;
}

either : {A B C P : Type 0} → (A → P) → (B → P) → (C → P) → A ⊎ B ⊎ C → P
either a b c (inl x) = a x
either a b c (inr (inl x)) = b x
either a b c (inr (inr x)) = c x

stored_at : (session layers store : List ℕ) (before between : OutsideSeen) (end : ReceiveEnd)
    → EndNames session layers store before between end
    → (status_of_receive end ≡ Done) ⊎ (status_of_receive end ≡ Incomplete) ⊎ (status_of_receive end ≡ TurnsSpent)
    → NamesStored session layers store before between
stored_at session layers store before between (receive.Done totals) named is = named
stored_at session layers store before between (receive.Incomplete totals) named is = named
stored_at session layers store before between (receive.TurnsSpent totals) named is = named
stored_at session layers store before between receive.NoMemory named is =
    either (λ done. absurd (cc)) (λ part. absurd (cc)) (λ spent. absurd (cc)) is
stored_at session layers store before between receive.PlaceFault named is =
    either (λ done. absurd (cc)) (λ part. absurd (cc)) (λ spent. absurd (cc)) is
stored_at session layers store before between receive.LinkFault named is =
    either (λ done. absurd (cc)) (λ part. absurd (cc)) (λ spent. absurd (cc)) is
stored_at session layers store before between receive.OutFault named is =
    either (λ done. absurd (cc)) (λ part. absurd (cc)) (λ spent. absurd (cc)) is

-- a status that comes once both files are written is no fault of the output
no_fault : (status : Status) → (status ≡ Done) ⊎ (status ≡ Incomplete) ⊎ (status ≡ TurnsSpent) → status ≢ OutFault
no_fault status (inl is) = λ out. cc
no_fault status (inr (inl is)) = λ out. cc
no_fault status (inr (inr is)) = λ out. cc

pub names_stored : (from : Way) (session layers store : List ℕ) (before after : OutsideSeen) (status : Status)
    → RunsReceive from session layers store before after status
    → NamesWhatItStores session layers store before after status
names_stored from session layers store before after status runs is =
    let said = ended_as (line_of_receive runs.end) (status_of_receive runs.end) runs.between after status runs.tells
    (no_fault status is) in
    still_stored session layers store before runs.between after said.1
    (stored_at session layers store before runs.between runs.end
    (names_what_it_stores from session layers store before runs.between runs.end runs.did.ends)
    (subst (λ (s : Status). (s ≡ Done) ⊎ (s ≡ Incomplete) ⊎ (s ≡ TurnsSpent)) said.0 is))
