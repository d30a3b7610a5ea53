-- What was relayed since FROM was begun and TO made ready, seen from before the command began.
use Rattle.std.proofs.Common.{◌≡◌, ◌↔◌, ℕ, ◌≤◌, List, [], ◌∷◌, ◌++◌, Option, Bool, true, false, Ok, Err}
use Rattle.std.proofs.Common.{refl, sym, ap, subst, ◌∙◌, arith, inl, inr}
use Rattle.std.specs.Prelude.{IsTrue, IfErr, IsErrAnd, Result, option_map}
use Rattle.pet_base.specs.Causes.{stops}
use Rattle.std.specs.Io.KnownBytes.{append_known}
use Rattle.pet_base.specs.declared.place.Side.TheVariants.{Read, Written}
use Rattle.pet_base.specs.Entries.{datagrams}
use Rattle.pet_base.specs.LinkSeen.{LinkSeen}
use Rattle.pet_base.specs.OutsideSeen.{OutsideSeen}
use Rattle.pet_base.specs.Seen.{Seen, HadFault, HasNoOutput, Names}
use Rattle.pet_base.specs.laws.SeenLaws.{Blames-named, HadFault-since}
use Rattle.outside_files.specs.Uses.{writing}
use Rattle.outside_files.specs.laws.PrintedLaws.{Rose-since}
use Rattle.outside_routes.specs.Bound.{bound_text}
use Rattle.outside_routes.specs.Coming.{coming, HasInput, HasReadUntil, HaveCome, KeepsFeed}
use Rattle.outside_routes.specs.RouteFaults.{AimedFailed, InputFailed, IsFailure, stop_of_route, tells_of}
use Rattle.outside_routes.specs.Sending.{Routes, IsOpened, IsUnopened, OnlyOpens, CreatingFailed}
use Rattle.outside_routes.specs.Sending.{IsOpen, OutputFailed}
use Rattle.outside_routes.specs.Way.{Way, OnFile, OnLink}
use Rattle.outside_routes.specs.declared.fault.RouteFailed.{RouteFailed}
use Rattle.outside_routes.specs.declared.fault.RouteFailed.TheVariants as failed
use Rattle.outside_routes.specs.declared.fault.RouteStop.{RouteStop}
use Rattle.outside_routes.specs.declared.fault.RouteStop.TheVariants as stop
use Rattle.packet_reading.specs.Begun.{Begun, Begins, EnteringFailed, IsBoundWhereStopped, IsToCome, OpeningFailed, OutStops}
use Rattle.packet_reading.specs.Begun.{StopsBeginning}
use Rattle.packet_reading.specs.Opened.{IsBoundTo, KeepsLink, PrintedPort}
use Rattle.packet_reading.specs.Layers.{HaveComeFirst}
use Rattle.packet_reading.specs.laws.BegunLaws.{file_read_until, is_read, link_failed}
use Rattle.pet_receive.specs.Arrivals.{ReceiverState, kept_set}
use Rattle.pet_receive.specs.ShownBytes.{IsComplete}
use Rattle.packet_met.specs.Kept.{nothing_of}
use Rattle.packet_verdicts.specs.KeptSet.{kept_in_all}
use Rattle.pet_repair.specs.Repaired.{on_end}
use Rattle.pet_repair.specs.Relays.{Relayed, Relays, RelaysFront, RelaysToUnlike, RelaysUntilFault, HasNotBegun}
use Rattle.pet_repair.specs.Relays.{WritingFailed}
use Rattle.pet_repair.specs.Relays.{routes_of, EndsRelay, FailsBeforeTo, IsBoundAtRelayEnd, DoesRelay}
use Rattle.pet_repair.specs.SentTo.{SentTo, SentFront}
use Rattle.pet_repair.specs.declared.arriving.RelayStop.{RelayStop}
use Rattle.pet_repair.specs.declared.arriving.RelayStop.TheVariants.{Route, Unlike}
use Rattle.pet_repair.specs.declared.relay.RelayEnd.{RelayEnd}
use Rattle.pet_repair.specs.declared.relay.RelayEnd.TheVariants as end
use Rattle.pet_repair.specs.declared.relaying.Relaying.{Relaying}
use Rattle.pet_repair.specs.Failures.{failure_of}
use Rattle.pet_repair.specs.inside.Arrivals.{HaveArrivedIn, StandsIn, relay_of_output, relay_tells}
use Rattle.pet_repair.specs.inside.Handed.{Handed, HandedPart}
use Rattle.pet_repair.specs.inside.RelayEnds.{OnlyBegins, IsRelayingOf, IsEndOf, end_of_relay}
use Rattle.pet_repair.specs.inside.RelaySoFar.{RelayedAll, CameTo, RelayedPart, RelayedTo, RelayedUntil}
use Rattle.pet_repair.specs.inside.RelaySoFar.{KeepsAddresses, StopsRelaying}
use Rattle.pet_repair.specs.laws.SessionRelayed.{nothing_relayed}
use Rattle.pet_repair.proofs.ArrivalMade.{err_is}
use Rattle.pet_repair.proofs.HandedOn.{sent_to, sent_front, sent_since, front_since, aimed_failed}
use Rattle.pet_repair.proofs.RelayedMore.{receiving_since, stands_after}

-- the link has sent nothing while FROM was begun, and is aimed where it was
sent_kept : (from : Way) (old new : LinkSeen) → KeepsLink from old new → new.sent ≡ old.sent
sent_kept (OnFile name) old new keeps = ap (λ (l : LinkSeen). l.sent) keeps
sent_kept (OnLink address) old new keeps = keeps.0

aimed_kept : (from : Way) (old new : LinkSeen) → KeepsLink from old new → new.aimed ≡ old.aimed
aimed_kept (OnFile name) old new keeps = ap (λ (l : LinkSeen). l.aimed) keeps
aimed_kept (OnLink address) old new keeps = keeps.1

-- the port was printed at which the link still receives
printed_later : (from : Way) (before mid new : OutsideSeen) → new.written ≡ mid.written → new.link.port ≡ mid.link.port
    → PrintedPort from before mid → PrintedPort from before new
printed_later (OnFile name) before mid new written port printed = written ∙ printed
printed_later (OnLink address) before mid new written port printed =
    written ∙ printed ∙ ap (λ (p : ℕ). append_known before.written (bound_text p)) (sym port)

feed_later : (from : Way) (old mid new : LinkSeen) → new.feed ≡ mid.feed → KeepsFeed from old mid → KeepsFeed from old new
feed_later (OnFile name) old mid new feed keeps = tt
feed_later (OnLink address) old mid new feed keeps = feed ∙ keeps

coming_opened : (from : Way) (mid opened : Routes) → OnlyOpens mid opened
    → coming from opened.place opened.link ≡ coming from mid.place mid.link
coming_opened (OnFile name) mid opened opens = ap (option_map datagrams) opens.input.rest
coming_opened (OnLink address) mid opened opens = opens.link.feed

aimed_before : (to : Way) (before mid new : LinkSeen) → before.faults ≤ mid.faults → AimedFailed to mid new
    → AimedFailed to before new
aimed_before (OnFile name) before mid new later failed = failed
aimed_before (OnLink address) before mid new later failed =
    record { rose = Rose-since before.faults mid.faults new.faults later failed.rose; blame = failed.blame }

-- FROM could not be opened
opening_before : (from to : Way) (before after : OutsideSeen) → OpeningFailed from before.place after.place
    → FailsBeforeTo from to before after
opening_before from (OnFile name) before after opening = inl opening
opening_before from (OnLink address) before after opening = opening

module _ (from : Way) (session : List ℕ) (to : Way) (before mid : OutsideSeen) (only : OnlyBegins from before mid) where
  -- nothing has begun
  not_begun : HasNotBegun from before mid
  not_begun = record { untouched = only.untouched; sent = sent_kept from before.link mid.link only.others.link }

  pub stops_beginning : (s : RouteStop) → StopsBeginning from before mid s
      → EndsRelay from session to before mid (end_of_relay (Route s))
  stops_beginning stop.NoMemory stops = inl (not_begun, stops)
  stops_beginning stop.Place stops = (
    inl (opening_before from to before mid stops.2, not_begun),
    printed_none from stops.1 stops.2.0,
  )
    where
      printed_none : (w : Way) → mid.written ≡ before.written → EnteringFailed w before.place mid.place
          → PrintedPort w before mid
      printed_none (OnFile name) written failed = written
      printed_none (OnLink address) written failed = absurd failed
  stops_beginning stop.Link stops = inl (stops.2, not_begun, stops.1)
  stops_beginning stop.Out stops = (not_begun, stops.1)

  module _ (begins : Begins from before mid) (opened : Routes) (new : OutsideSeen)
      (opens : OnlyOpens (routes_of mid) opened) (written : new.written ≡ mid.written) where
    -- TO was not made ready
    module _ (place : new.place ≡ opened.place) (link : new.link ≡ opened.link)
        (unopened : IsUnopened to (routes_of mid) opened) where
      same : routes_of new ≡ opened
      same = λ i. record { place = place i; link = link i }

      files_same : (w : Way) → IsUnopened w (routes_of mid) opened → opened.place.files ≡ mid.place.files
      files_same (OnFile name) is = is.0
      files_same (OnLink address) is = ap (λ (p : Seen). p.files) is.0

      unbegun : HasNotBegun from before new
      unbegun = record {
        untouched = record {
          files = ap (λ (p : Seen). p.files) place ∙ files_same to unopened ∙ only.untouched.files;
          feed =
              feed_later from before.link mid.link new.link
              (ap (λ (l : LinkSeen). l.feed) link ∙ opens.link.feed) only.untouched.feed;
        };
        sent =
            ap (λ (l : LinkSeen). l.sent) link ∙ opens.link.sent
            ∙ sent_kept from before.link mid.link only.others.link;
      }

      still_printed : PrintedPort from before new
      still_printed =
          printed_later from before mid new written (ap (λ (l : LinkSeen). l.port) link ∙ opens.link.port)
          begins.printed

      -- and none of FROM has come
      to_come : (w : Way) → Begun w before mid → KeepsFeed w before.link mid.link → IsToCome w before new
      to_come (OnFile name) begun feed = (
        ap (λ (p : Seen). p.has_input) place ∙ opens.input.has_input ∙ begun.has_input,
        ap (λ (p : Seen). p.rest) place ∙ opens.input.rest ∙ begun.rest,
      )
      to_come (OnLink address) begun feed = ap (λ (l : LinkSeen). l.feed) link ∙ opens.link.feed ∙ feed

      creating_before : (w : Way) → IsUnopened w (routes_of mid) opened → CreatingFailed w mid.place opened.place
          → FailsBeforeTo from w before new
      creating_before (OnFile name) is failed =
          inr (
            (
              subst (λ (p : Seen). HadFault before.place p (λ b. b ≡ writing name)) (sym place)
                  (HadFault-since before.place mid.place opened.place _ _ only.others.place_later (λ b at. at) failed),
              subst HasNoOutput (sym place) is.2,
            ),
            to_come from begins.begun only.untouched.feed,
          )
      creating_before (OnLink address) is failed = absurd failed

      pub stops_opening : (f : RouteFailed)
          → IsFailure (CreatingFailed to mid.place opened.place) (AimedFailed to mid.link opened.link) f
          → EndsRelay from session to before new (end_of_relay (Route (stop_of_route f)))
      stops_opening failed.Place cause = (inl (creating_before to unopened cause, unbegun), still_printed)
      stops_opening failed.Link cause =
          inr (inl (
            aimed_before to before.link mid.link new.link only.others.link_later
                (subst (λ (l : LinkSeen). AimedFailed to mid.link l) (sym link) cause),
            to_come from begins.begun only.untouched.feed,
            unbegun,
            still_printed,
          ))

    module _ (is_opened : IsOpened to (routes_of mid) opened) (keeps : KeepsAddresses opened.link new.link)
        (start : ReceiverState ℕ) (empty : kept_set start ≡ nothing_of session) (stands : StandsIn start []) where
      printed : PrintedPort from before new
      printed = printed_later from before mid new written (keeps.port ∙ opens.link.port) begins.printed

      sent_all : (ds : List (List ℕ)) → Handed to ds opened (routes_of new)
          → SentTo to ds (routes_of before) (routes_of new)
      sent_all ds handed =
          sent_since to ds (routes_of before) (routes_of mid) (routes_of new) only.untouched.files
          (sent_kept from before.link mid.link only.others.link) (aimed_kept from before.link mid.link only.others.link)
          (sent_to to ds (routes_of mid) opened (routes_of new) is_opened keeps.aimed handed)

      sent_part : (ds : List (List ℕ)) → HandedPart to ds opened (routes_of new)
          → SentFront to ds (routes_of before) (routes_of new)
      sent_part ds handed =
          front_since to ds (routes_of before) (routes_of mid) (routes_of new) only.untouched.files
          (sent_kept from before.link mid.link only.others.link) (aimed_kept from before.link mid.link only.others.link)
          (sent_front to ds (routes_of mid) opened (routes_of new) is_opened keeps.aimed handed)

      -- what was relayed of the session
      abbrev as_relayed : (read : List (List ℕ)) (sent : List (List (List ℕ))) (now : ReceiverState ℕ)
          → HaveArrivedIn start read sent now → Relayed session read
      as_relayed read sent now arrived = record {
        start = start;
        stands = stands;
        empty = empty;
        sent = sent;
        now = now;
        arrived = arrived;
        held = stands_after start now read sent arrived [] stands;
      }

      -- all datagrams of FROM
      pub relays : (n : ℕ) (r : ReceiverState ℕ) → RelayedAll from to start n opened (routes_of new) r
          → Relays from session to before new
      relays n r all =
          let so_far = all.so_far in
          record {
            read = so_far.read;
            few = omega (arith, so_far.many, all.few);
            input =
                is_read from n so_far.read before mid new new begins.begun refl so_far.many
                (subst (λ (o : Option (List (List ℕ))). HaveCome so_far.read o (coming from new.place new.link))
                (coming_opened from (routes_of mid) opened opens) so_far.rest) all.ended;
            relayed = as_relayed so_far.read so_far.sent r so_far.arrived;
            sent = sent_all (on_end so_far.sent) so_far.handed;
          }

      pub relays_with : (n : ℕ) (r : ReceiverState ℕ) (x : Relaying)
          → RelayedAll from to start n opened (routes_of new) r → x.read ≡ n
          → x.sent ≡ kept_in_all (kept_set r) → (IsTrue x.complete ↔ IsComplete (kept_set r))
          → (k : Relays from session to before new) × IsRelayingOf k x × PrintedPort from before new
      unfolding relays
      relays_with n r x all read sent complete = (
        relays n r all,
        record {
          counts = (
            read ∙ sym all.so_far.many,
            omega (arith, sent, all.so_far.more, ap kept_in_all empty),
          );
          complete = complete;
        },
        printed,
      )

      input_to : (w : Way) (read : List (List ℕ)) → Begun w before mid → KeepsFeed w before.link mid.link
          → CameTo w read opened (routes_of new) → HaveComeFirst w read before new
      input_to (OnFile name) read begun feed came =
          file_read_until name read before mid new.place.rest begun
          (subst (λ (o : Option (List ℕ)). HasReadUntil read o new.place.rest) opens.input.rest came)
      input_to (OnLink address) read begun feed came =
          subst (λ (o : Option (List (List ℕ))). HaveCome read o new.link.feed) (opens.link.feed ∙ feed) came

      front : RelayedPart from to start opened (routes_of new) → RelaysFront from session to before new
      front part = record {
        read = part.read;
        next = part.next;
        one = part.one;
        few = part.few;
        input = input_to from (part.read ++ part.next) begins.begun only.untouched.feed part.came;
        relayed = as_relayed part.read part.sent part.state part.arrived;
        more = part.more;
        may = part.may;
        sent = sent_part (on_end part.sent ++ part.more) part.handed;
      }

      to_unlike : (group number : ℕ) → RelayedTo from to start opened (routes_of new) group number
          → RelaysToUnlike from session to group number before new
      to_unlike group number is = record {
        read = is.read;
        last = is.last;
        few = is.few;
        input = input_to from (is.read ++ is.last ∷ []) begins.begun only.untouched.feed is.came;
        relayed = as_relayed is.read is.sent is.state is.arrived;
        stopped = is.stopped;
        sent = sent_all (on_end is.sent ++ is.last ∷ []) is.handed;
      }

      until : RelayedUntil from to start opened (routes_of new) → RelaysUntilFault from session to before new
      until is = record {
        read = is.read;
        few = is.few;
        come = input_to from is.read begins.begun only.untouched.feed is.came;
        relayed = as_relayed is.read is.sent is.state is.arrived;
        sent = sent_all (on_end is.sent) is.handed;
      }

      -- which file is blamed
      later : before.place.faults ≤ opened.place.faults
      later = omega (arith, only.others.place_later, opens.place_later)

      reading_failed : (w : Way) → Begun w before mid → InputFailed w opened.place new.place
          → EnteringFailed w before.place new.place
      reading_failed (OnFile name) begun failed =
          HadFault-since before.place opened.place new.place _ _ later
          (λ b read. Blames-named before.place.files opened.place.source name Read b
          (subst (λ (o : Option (List ℕ)). Names before.place.files o name) (sym opens.input.source) begun.source) read)
          failed
      reading_failed (OnLink address) begun failed = absurd failed

      writing_failed : (w : Way) → IsOpened w (routes_of mid) opened → OutputFailed w opened.place new.place
          → WritingFailed w before.place new.place
      writing_failed (OnFile other) is failed =
          HadFault-since before.place opened.place new.place _ _ later
          (λ b written. Blames-named mid.place.files opened.place.target other Written b is.target written) failed
      writing_failed (OnLink address) is failed = absurd failed

      pub stops_relaying : (s : RelayStop) → StopsRelaying from to start opened (routes_of new) s
          → EndsRelay from session to before new (end_of_relay s)
      stops_relaying (Unlike group number) is = (to_unlike group number is, printed)
      stops_relaying (Route stop.NoMemory) is = inr (front is, printed)
      stops_relaying (Route stop.Place) (inl is) =
          (inr (inl (reading_failed from begins.begun is.0, until is.1)), printed)
      stops_relaying (Route stop.Place) (inr is) = (inr (inr (writing_failed to is_opened is.0, front is.1)), printed)
      stops_relaying (Route stop.Link) (inl is) =
          inr (inr (inl (
            link_failed from before mid new begins.begun only.others.link_later
                (receiving_since from mid.link opened.link new.link opens.link.bound opens.link_later is.0),
            until is.1,
            printed,
          )))
      stops_relaying (Route stop.Link) (inr is) =
          inr (inr (inr (
            aimed_before to before.link mid.link new.link only.others.link_later
                (aimed_failed to (routes_of mid) opened (routes_of new) is_opened opens.link_later is.0),
            front is.1,
            printed,
          )))
      stops_relaying (Route stop.Out) is = absurd is

-- the end by the numbers
pub ends_relay : (from : Way) (session : List ℕ) (to : Way) (before after : OutsideSeen) (x : Relaying) (e : RelayEnd)
    → IsEndOf x e → (k : Relays from session to before after) × IsRelayingOf k x × PrintedPort from before after
    → EndsRelay from session to before after e
ends_relay from session to before after x (end.Done read sent) is done = (
  done.0,
  omega (arith, done.0.few, done.1.counts.0, is.2),
  done.1.complete.0 is.3,
  (is.0 ∙ done.1.counts.0, is.1 ∙ done.1.counts.1),
  done.2,
)
ends_relay from session to before after x (end.Incomplete read sent) is done = (
  done.0,
  omega (arith, done.0.few, done.1.counts.0, is.2),
  λ all. let no : false ≡ true = sym is.3 ∙ done.1.complete.1 all in absurd cc,
  (is.0 ∙ done.1.counts.0, is.1 ∙ done.1.counts.1),
  done.2,
)
ends_relay from session to before after x (end.TurnsSpent read sent) is done = (
  done.0,
  sym done.1.counts.0 ∙ is.2,
  (is.0 ∙ done.1.counts.0, is.1 ∙ done.1.counts.1),
  done.2,
)
ends_relay from session to before after x end.NoMemory is done = absurd is
ends_relay from session to before after x end.PlaceFault is done = absurd is
ends_relay from session to before after x end.LinkFault is done = absurd is
ends_relay from session to before after x end.OutFault is done = absurd is
ends_relay from session to before after x (end.Unlike group number) is done = absurd is

-- what is read and written once TO is ready
pub input_opened : (from : Way) (mid opened : Routes) → OnlyOpens mid opened → HasInput from mid.place
    → HasInput from opened.place
input_opened (OnFile name) mid opened opens is = opens.input.has_input ∙ is
input_opened (OnLink address) mid opened opens is = tt

pub open_opened : (to : Way) (mid opened : Routes) → IsOpened to mid opened → IsOpen to opened
open_opened (OnFile name) mid opened is = is.output
open_opened (OnLink address) mid opened is = tt

-- where the link is bound once FROM is begun it stays so
pub bound_kept : (from : Way) (before mid new : LinkSeen) → new.bound ≡ mid.bound → IsBoundTo from before mid
    → IsBoundTo from before new
bound_kept (OnFile name) before mid new same bound = tt
bound_kept (OnLink address) before mid new same bound = same ∙ bound

-- where FROM was begun the link is bound at each end, and where it was not at the end of that stop
pub bound_at_any : (from : Way) (old new : LinkSeen) (e : RelayEnd) → IsBoundTo from old new
    → IsBoundAtRelayEnd from old new e
bound_at_any from old new (end.Done read sent) bound = bound
bound_at_any from old new (end.Incomplete read sent) bound = bound
bound_at_any from old new (end.TurnsSpent read sent) bound = bound
bound_at_any from old new (end.Unlike group number) bound = bound
bound_at_any from old new end.OutFault bound = bound
bound_at_any from old new end.PlaceFault bound = bound
bound_at_any from old new end.NoMemory bound = inr bound
bound_at_any from old new end.LinkFault bound = inr bound

pub bound_at_stop : (from : Way) (old new : LinkSeen) (s : RouteStop) → IsBoundWhereStopped from old new s
    → IsBoundAtRelayEnd from old new (end_of_relay (Route s))
bound_at_stop from old new stop.NoMemory bound = bound
bound_at_stop from old new stop.Place bound = bound
bound_at_stop from old new stop.Link bound = bound
bound_at_stop from old new stop.Out bound = bound

-- an end with numbers tells of no failure
pub no_failure : (x : Relaying) (e : RelayEnd) (of_object : RouteStop → Bool) → IsEndOf x e
    → tells_of of_object (failure_of e) ≡ false
no_failure x (end.Done read sent) of_object is = refl
no_failure x (end.Incomplete read sent) of_object is = refl
no_failure x (end.TurnsSpent read sent) of_object is = refl
no_failure x end.NoMemory of_object is = absurd is
no_failure x end.PlaceFault of_object is = absurd is
no_failure x end.LinkFault of_object is = absurd is
no_failure x end.OutFault of_object is = absurd is
no_failure x (end.Unlike group number) of_object is = absurd is

-- and that of a stop of what the stop does
pub stop_tells : (of_object : RouteStop → Bool) → of_object stop.NoMemory ≡ false → (s : RelayStop)
    → relay_tells of_object s ≡ tells_of of_object (failure_of (end_of_relay s))
stop_tells of_object none (Route stop.NoMemory) = none
stop_tells of_object none (Route stop.Place) = refl
stop_tells of_object none (Route stop.Link) = refl
stop_tells of_object none (Route stop.Out) = refl
stop_tells of_object none (Unlike group number) = refl

-- by the texts of the ends
pub relays_at : (from a to b : Way) (session : List ℕ) (before after : OutsideSeen) (e : RelayEnd) → from ≡ a → to ≡ b
    → DoesRelay from session to before after e → DoesRelay a session b before after e
relays_at from a to b session before after e p q does =
    subst (λ (w : Way). DoesRelay w session b before after e) p
    (subst (λ (w : Way). DoesRelay from session w before after e) q does)

pub route_output : (f : RouteFailed) → false ≡ relay_of_output (Route (stop_of_route f))
route_output failed.Place = refl
route_output failed.Link = refl

pub relaying_output : (from to : Way) (start : ReceiverState ℕ) (first now : Routes) (s : RelayStop)
    → StopsRelaying from to start first now s → false ≡ relay_of_output s
relaying_output from to start first now (Route stop.NoMemory) stops = refl
relaying_output from to start first now (Route stop.Place) stops = refl
relaying_output from to start first now (Route stop.Link) stops = refl
relaying_output from to start first now (Route stop.Out) stops = absurd stops
relaying_output from to start first now (Unlike group number) stops = refl

-- want of memory before anything was done
module _ (from : Way) (session : List ℕ) (to : Way) (now : OutsideSeen) {T : Type 0} (result : Result T RelayStop)
    (is : IsErrAnd result (λ s. s ≡ Route stop.NoMemory)) where
  pub unused_stopped : IfErr result (λ s. EndsRelay from session to now now (end_of_relay s))
  unused_stopped =
      err_is (λ s. EndsRelay from session to now now (end_of_relay s)) result (Route stop.NoMemory) is
      (nothing_relayed from session to now).ends

  pub unused_bound : IfErr result (λ s. IsBoundAtRelayEnd from now.link now.link (end_of_relay s))
  unused_bound =
      err_is (λ s. IsBoundAtRelayEnd from now.link now.link (end_of_relay s)) result (Route stop.NoMemory) is
      (nothing_relayed from session to now).bound

-- the output failed in this call exactly where the answer tells so
pub out_of : {T : Type 0} (result : Result T RelayStop) (why : RelayStop) (broken : Bool) (before after : OutsideSeen)
    → IsErrAnd result (λ s. s ≡ why) → broken ≡ relay_of_output why → OutStops broken before after
    → OutStops (stops relay_of_output result) before after
out_of (Ok x) why broken before after is alike out = absurd is
out_of (Err e) why broken before after is alike out =
    subst (λ (b : Bool). OutStops b before after) (alike ∙ ap relay_of_output (sym is)) out
