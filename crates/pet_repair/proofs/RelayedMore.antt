-- One datagram more is relayed, and what stands after a failure.
use Rattle.std.proofs.Common.{◌≡◌, ℕ, ◌+◌, ◌<◌, ◌≤◌, take, List, [], ◌∷◌, ◌++◌, length, length-append, Option}
use Rattle.std.proofs.Common.{refl, sym, ap, subst, ◌∙◌, arith, append_assoc, inl, inr}
use Rattle.std.specs.Prelude.{option_map, IfSome}
use Rattle.std.proofs.lemmas.List.{length_push, append-nil}
use Rattle.pet_base.specs.declared.limits.TheConstants.{MAX_DATAGRAMS}
use Rattle.pet_base.specs.declared.entry.Entry.TheVariants.{Datagram, End}
use Rattle.pet_base.specs.Entries.{datagrams, entries_of}
use Rattle.pet_base.specs.LinkSeen.{LinkSeen}
use Rattle.pet_base.specs.Causes.{Blames}
use Rattle.pet_base.specs.declared.link.LinkSide.TheVariants.{Aimed, Bound}
use Rattle.pet_base.specs.declared.place.Side.TheVariants.{Read, Written}
use Rattle.pet_base.specs.Seen.{Seen, Files, KeepsNames}
use Rattle.pet_base.specs.laws.SeenLaws.{HadFault-since, KeepsNames-same, KeepsNames-then, OnlyReads-KeepsNames}
use Rattle.pet_base.specs.laws.SeenLaws.{OnlyWrites-KeepsNames}
use Rattle.outside_files.specs.laws.PrintedLaws.{Rose-since}
use Rattle.outside_files.specs.Outputs.{Puts}
use Rattle.outside_routes.specs.Way.{Way, OnFile, OnLink}
use Rattle.outside_routes.specs.Coming.{coming, HaveCome, KeepsFeed, LosesPart, OnlyTakes, TakesDatagram}
use Rattle.outside_routes.specs.RouteFaults.{IsFailure, IsStop, InputFailed, ReceivingFailed, stop_of_route}
use Rattle.outside_routes.specs.declared.fault.RouteFailed.{RouteFailed}
use Rattle.outside_routes.specs.declared.fault.RouteFailed.TheVariants as failed
use Rattle.outside_routes.specs.declared.fault.RouteStop.{RouteStop}
use Rattle.outside_routes.specs.declared.fault.RouteStop.TheVariants as stop
use Rattle.outside_routes.specs.Sending.{Routes, Sends, SendsPart, OnlyGrows, OutputFailed}
use Rattle.outside_routes.specs.Sending.{IsOpen, SendingFailed}
use Rattle.outside_routes.specs.laws.ComingLaws.{come_nothing, come_more, come_until, come_whole}
use Rattle.outside_routes.specs.laws.SendingLaws.{sends_nothing, sends_then, part_after}
use Rattle.pet_receive.specs.Arrivals.{ReceiverState}
use Rattle.pet_repair.specs.Repaired.{on_end}
use Rattle.pet_repair.specs.declared.arriving.RelayStop.{RelayStop}
use Rattle.pet_repair.specs.declared.arriving.RelayStop.TheVariants.{Route, Unlike}
use Rattle.pet_repair.specs.inside.Arrivals.{IsArrivalIn, HaveArrivedIn, IsStoppedIn, SendsArrival, PartOfArrival}
use Rattle.pet_repair.specs.inside.Arrivals.{StopsArrival, StandsIn}
use Rattle.pet_repair.specs.inside.Handed.{Handed, HandedPart}
use Rattle.pet_repair.specs.inside.RelaySoFar.{RelayedSoFar, RelayedAll, CameTo, RelayedPart, RelayedTo}
use Rattle.pet_repair.specs.inside.RelaySoFar.{RelayedUntil, IsLater}
use Rattle.pet_repair.specs.inside.RelaySoFar.{StopsRelaying}
use Rattle.pet_repair.specs.laws.RepairLaws.{on_end_push}
use Rattle.pet_repair.proofs.AgainSent.{keeps_none}

-- one arrival behind others
pub arrived_push : (r mid now : ReceiverState ℕ) (ds : List (List ℕ)) (sent : List (List (List ℕ))) (d : List ℕ)
    (one : List (List ℕ)) → HaveArrivedIn r ds sent mid → IsArrivalIn mid d one now
    → HaveArrivedIn r (ds ++ d ∷ []) (sent ++ one ∷ []) now
arrived_push r mid now [] [] d one is a =
    (now, subst (λ (x : ReceiverState ℕ). IsArrivalIn x d one now) is a, refl)
arrived_push r mid now [] (x ∷ sent) d one is a = absurd is
arrived_push r mid now (e ∷ ds) [] d one is a = absurd is
arrived_push r mid now (e ∷ ds) (x ∷ sent) d one is a =
    (is.0, is.1, arrived_push is.0 mid now ds sent d one is.2 a)

-- what is kept then: all that was sent, behind what was kept
pub stands_after : (r now : ReceiverState ℕ) (ds : List (List ℕ)) (sent : List (List (List ℕ)))
    → HaveArrivedIn r ds sent now → (kept : List (List ℕ)) → StandsIn r kept → StandsIn now (kept ++ on_end sent)
stands_after r now [] [] is kept stands =
    subst (λ (x : ReceiverState ℕ). StandsIn x (kept ++ [])) (sym is) (keeps_none r kept stands)
stands_after r now [] (one ∷ more) is kept stands = absurd is
stands_after r now (d ∷ ds) [] is kept stands = absurd is
stands_after r now (d ∷ ds) (one ∷ more) is kept stands =
    subst (StandsIn now) (append_assoc kept one (on_end more))
    (stands_after is.0 now ds more is.2 (kept ++ one) (is.1.stands kept stands))

-- what is to come stays, where only what was sent has grown
coming_same : (from : Way) (between now : Routes) → OnlyGrows between now
    → coming from now.place now.link ≡ coming from between.place between.link
coming_same (OnFile name) between now grows = ap (option_map datagrams) grows.place.rest
coming_same (OnLink address) between now grows = grows.link.feed

-- what was handed on, and what is sent then, where datagrams may have come between
pub handed_then : (to : Way) (a b : List (List ℕ)) (first before between now : Routes)
    → between.place.target ≡ first.place.target → between.place.files ≡ before.place.files
    → between.link.sent ≡ before.link.sent → Handed to a first before → Sends to b between now
    → Handed to (a ++ b) first now
handed_then (OnFile name) a b first before between now target files sent p q =
    let l = now.link in
    let r0 : Routes = record { place = first.place; link = l } in
    let r1 : Routes = record { place = between.place; link = l } in
    let r2 : Routes = record { place = now.place; link = l } in
    let puts : Puts (entries_of a) first.place between.place =
    subst (λ (f : Option Files). Rattle.pet_base.specs.Seen.Grows first.place.target (entries_of a) first.place.files f)
    (sym files) p.0 in
    let all = sends_then (OnFile name) a b r0 r1 r2 target (puts, refl) (q.0, refl) in
    (all.0, ap (λ (l : LinkSeen). l.sent) q.1 ∙ sent ∙ p.1)
handed_then (OnLink address) a b first before between now target files sent p q =
    sends_then (OnLink address) a b first between now target (sent ∙ p.0, files ∙ p.1) q

-- or a front of it
pub handed_front : (to : Way) (a b : List (List ℕ)) (first before between now : Routes)
    → between.place.target ≡ first.place.target → between.place.files ≡ before.place.files
    → between.link.sent ≡ before.link.sent → Handed to a first before → SendsPart to b between now
    → HandedPart to (a ++ b) first now
handed_front (OnFile name) a b first before between now target files sent p q =
    let l = now.link in
    let r0 : Routes = record { place = first.place; link = l } in
    let r1 : Routes = record { place = between.place; link = l } in
    let r2 : Routes = record { place = now.place; link = l } in
    let puts : Puts (entries_of a) first.place between.place =
    subst (λ (f : Option Files). Rattle.pet_base.specs.Seen.Grows first.place.target (entries_of a) first.place.files f)
    (sym files) p.0 in
    let all = part_after (OnFile name) a b r0 r1 r2 target (puts, refl) (q.0, refl) in
    (all.0, ap (λ (l : LinkSeen). l.sent) q.1 ∙ sent ∙ p.1)
handed_front (OnLink address) a b first before between now target files sent p q =
    part_after (OnLink address) a b first between now target (sent ∙ p.0, files ∙ p.1) q

-- nothing yet
handed_nothing : (to : Way) (r : Routes) → Handed to [] r r
handed_nothing (OnFile name) r = ((sends_nothing (OnFile name) r r refl refl).0, refl)
handed_nothing (OnLink address) r = sends_nothing (OnLink address) r r refl refl

pub so_far_start : (from to : Way) (r : ReceiverState ℕ) (now : Routes) → RelayedSoFar from to r 0 now now r
so_far_start from to r now = record {
  read = [];
  sent = [];
  many = refl;
  rest = come_nothing (coming from now.place now.link);
  arrived = refl;
  more = omega arith;
  handed = handed_nothing to now;
}

-- these came, and no other
came_to : (from : Way) (read : List (List ℕ)) (first now : Routes)
    → HaveCome read (coming from first.place first.link) (coming from now.place now.link) → CameTo from read first now
came_to from read first now come = come_whole from read first.place now.place first.link now.link come

module _ (from to : Way) (start : ReceiverState ℕ) (n : ℕ) (first before between : Routes) (r : ReceiverState ℕ)
    (s : RelayedSoFar from to start n first before r) (target : before.place.target ≡ first.place.target)
    (takes : OnlyTakes from before.place before.link between.place between.link) where
  same_target : between.place.target ≡ first.place.target
  same_target = takes.place.target ∙ target

  -- none is left to come
  pub relayed_all : (into : List ℕ) → n ≤ MAX_DATAGRAMS
      → TakesDatagram (coming from before.place before.link) End into (coming from between.place between.link)
      → RelayedAll from to start n first between r
  relayed_all into few step = record {
    so_far = record {
      read = s.read;
      sent = s.sent;
      many = s.many;
      rest =
          subst (λ (o : Option (List (List ℕ))). HaveCome s.read (coming from first.place first.link) o) (sym step.0)
          s.rest;
      arrived = s.arrived;
      more = s.more;
      handed =
          subst (λ (ds : List (List ℕ)). Handed to ds first between) (append-nil (on_end s.sent))
          (handed_then to (on_end s.sent) [] first before between between same_target takes.place.files takes.link.sent
          s.handed (sends_nothing to between between refl refl));
    };
    few = few;
    ended = λ _. subst (λ (o : Option (List (List ℕ))). IfSome o (λ more. more ≡ [])) (sym step.0) step.1;
  }

  module _ (len : ℕ) (into : List ℕ)
      (step : TakesDatagram (coming from before.place before.link) (Datagram len) into
      (coming from between.place between.link)) (now : Routes) (grows : OnlyGrows between now) where
    abbrev d : List ℕ
    d = take len into

    come : HaveCome (s.read ++ d ∷ []) (coming from first.place first.link) (coming from now.place now.link)
    come =
        subst (λ (o : Option (List (List ℕ))). HaveCome (s.read ++ d ∷ []) (coming from first.place first.link) o)
        (sym (coming_same from between now grows))
        (come_more s.read (coming from first.place first.link) (coming from before.place before.link)
        (coming from between.place between.link) d s.rest step)

    -- one more
    pub relayed_more : (n1 : ℕ) (next : ReceiverState ℕ) → n1 ≡ n + 1 → SendsArrival to r d next between now
        → RelayedSoFar from to start n1 first now next
    relayed_more n1 next at a =
        let push = on_end_push s.sent a.sent in
        record {
          read = s.read ++ d ∷ [];
          sent = s.sent ++ a.sent ∷ [];
          many = omega (arith, length_push s.read d, s.many, at);
          rest = come;
          arrived = arrived_push start r next s.read s.sent d a.sent s.arrived a.is;
          more =
              omega (
                arith,
                s.more,
                a.more,
                ap (λ (t : List (List ℕ)). length t) push,
                length-append (on_end s.sent) a.sent,
              );
          handed =
              subst (λ (ds : List (List ℕ)). Handed to ds first now) (sym push)
              (handed_then to (on_end s.sent) a.sent first before between now same_target takes.place.files
              takes.link.sent s.handed a.sends);
        }

    -- or a front of what it gives
    part_more : n < MAX_DATAGRAMS → PartOfArrival to r d between now → RelayedPart from to start first now
    part_more room part = record {
      read = s.read;
      sent = s.sent;
      state = r;
      arrived = s.arrived;
      next = d ∷ [];
      one = omega arith;
      few = omega (arith, s.many, room);
      came = came_to from (s.read ++ d ∷ []) first now come;
      more = part.0;
      may = part.1;
      handed =
          handed_front to (on_end s.sent) part.0 first before between now same_target takes.place.files takes.link.sent
          s.handed part.2;
    }

    -- or the datagram alone, where a packet of its group is unlike
    to_unlike : (group number : ℕ) → n < MAX_DATAGRAMS → IsStoppedIn r d group number → Sends to (d ∷ []) between now
        → RelayedTo from to start first now group number
    to_unlike group number room is sends = record {
      read = s.read;
      sent = s.sent;
      state = r;
      arrived = s.arrived;
      last = d;
      few = omega (arith, s.many, room);
      came = came_to from (s.read ++ d ∷ []) first now come;
      stopped = is;
      handed =
          handed_then to (on_end s.sent) (d ∷ []) first before between now same_target takes.place.files
          takes.link.sent s.handed sends;
    }

-- what a later call may blame, seen from the first
input_since : (from : Way) (first before now : Seen) → before.source ≡ first.source → first.faults ≤ before.faults
    → InputFailed from before now → InputFailed from first now
input_since (OnFile name) first before now same later failed =
    HadFault-since first before now _ _ later (λ b is. subst (λ (o : Option (List ℕ)). Blames Read o b) same is) failed
input_since (OnLink address) first before now same later failed = absurd failed

output_since : (to : Way) (first before now : Seen) → before.target ≡ first.target → first.faults ≤ before.faults
    → OutputFailed to before now → OutputFailed to first now
output_since (OnFile name) first before now same later failed =
    HadFault-since first before now _ _ later
    (λ b is. subst (λ (o : Option (List ℕ)). Blames Written o b) same is) failed
output_since (OnLink address) first before now same later failed = absurd failed

pub receiving_since : (from : Way) (first before now : LinkSeen) → before.bound ≡ first.bound → first.faults ≤ before.faults
    → ReceivingFailed from before now → ReceivingFailed from first now
receiving_since (OnFile name) first before now same later failed = failed
receiving_since (OnLink address) first before now same later failed = record {
  rose = Rose-since first.faults before.faults now.faults later failed.rose;
  blame = subst (λ (o : Option (List ℕ)). IfSome now.blamed (Blames Bound o)) same failed.blame;
}

sending_since : (to : Way) (first before now : LinkSeen) → before.aimed ≡ first.aimed → first.faults ≤ before.faults
    → SendingFailed to before now → SendingFailed to first now
sending_since (OnFile name) first before now same later failed = failed
sending_since (OnLink address) first before now same later failed = record {
  rose = Rose-since first.faults before.faults now.faults later failed.rose;
  blame = subst (λ (o : Option (List ℕ)). IfSome now.blamed (Blames Aimed o)) same failed.blame;
}

pub later_same : (r : Routes) → IsLater r r
later_same r = record {
  names = KeepsNames-same r.place;
  keeps = record { port = refl; bound = refl; aimed = refl };
  place = omega arith;
  link = omega arith;
}

pub later_taken : (from : Way) (first before between : Routes) → IsLater first before
    → OnlyTakes from before.place before.link between.place between.link → IsLater first between
later_taken from first before between l t = record {
  names = KeepsNames-then first.place before.place between.place l.names (OnlyReads-KeepsNames before.place between.place t.place);
  keeps = record {
    port = t.link.port ∙ l.keeps.port;
    bound = t.link.bound ∙ l.keeps.bound;
    aimed = t.link.aimed ∙ l.keeps.aimed;
  };
  place = omega (arith, l.place, t.place_later);
  link = omega (arith, l.link, t.link_later);
}

pub later_grown : (first between now : Routes) → IsLater first between → OnlyGrows between now → IsLater first now
later_grown first between now l g = record {
  names = KeepsNames-then first.place between.place now.place l.names (OnlyWrites-KeepsNames between.place now.place g.place);
  keeps = record {
    port = g.link.port ∙ l.keeps.port;
    bound = g.link.bound ∙ l.keeps.bound;
    aimed = g.link.aimed ∙ l.keeps.aimed;
  };
  place = omega (arith, l.place, g.place_later);
  link = omega (arith, l.link, g.link_later);
}

-- TO stays open
pub open_taken : (from to : Way) (before between : Routes)
    → OnlyTakes from before.place before.link between.place between.link → IsOpen to before → IsOpen to between
open_taken from (OnFile name) before between t is = t.place.has_output ∙ is
open_taken from (OnLink address) before between t is = tt

module _ (from to : Way) (start : ReceiverState ℕ) (n : ℕ) (first before between : Routes) (r : ReceiverState ℕ)
    (s : RelayedSoFar from to start n first before r) (later : IsLater first before)
    (takes : OnlyTakes from before.place before.link between.place between.link) (room : n < MAX_DATAGRAMS) where
  -- nothing could be received
  until_taken : KeepsFeed from before.link between.link → LosesPart from before.place between.place
      → RelayedUntil from to start first between
  until_taken feed lost = record {
    read = s.read;
    sent = s.sent;
    state = r;
    arrived = s.arrived;
    few = omega (arith, s.many, room);
    came =
        come_until from s.read first.place before.place between.place first.link before.link between.link s.rest feed
        lost;
    handed =
        subst (λ (ds : List (List ℕ)). Handed to ds first between) (append-nil (on_end s.sent))
        (handed_then to (on_end s.sent) [] first before between between
        (same_target from to start n first before between r s later.names.target takes) takes.place.files
        takes.link.sent s.handed (sends_nothing to between between refl refl));
  }

  pub stops_taking : (failed : RouteFailed) → KeepsFeed from before.link between.link
      → LosesPart from before.place between.place
      → IsFailure (InputFailed from before.place between.place) (ReceivingFailed from before.link between.link) failed
      → StopsRelaying from to start first between (Route (stop_of_route failed))
  stops_taking failed.Place feed lost cause = inl (
    input_since from first.place before.place between.place later.names.source later.place cause,
    until_taken feed lost,
  )
  stops_taking failed.Link feed lost cause = inl (
    receiving_since from first.link before.link between.link later.keeps.bound later.link cause,
    until_taken feed lost,
  )

  -- or not all be sent of what the datagram gives
  pub stops_at_one : (len : ℕ) (into : List ℕ)
      → TakesDatagram (coming from before.place before.link) (Datagram len) into
      (coming from between.place between.link)
      → (now : Routes) → OnlyGrows between now → (stop : RelayStop) → StopsArrival to r (take len into) between now stop
      → StopsRelaying from to start first now stop
  stops_at_one len into step now grows (Unlike group number) is =
      to_unlike from to start n first before between r s later.names.target takes len into step now grows group number
      room is.0 is.1
  stops_at_one len into step now grows (Route halt) is =
      why halt is.0
      (part_more from to start n first before between r s later.names.target takes len into step now grows room is.1)
    where
      mid : IsLater first between
      mid = later_taken from first before between later takes

      why : (s : RouteStop)
          → IsStop (OutputFailed to between.place now.place) (SendingFailed to between.link now.link) ⊥ s
          → RelayedPart from to start first now → StopsRelaying from to start first now (Route s)
      why stop.NoMemory is part = part
      why stop.Place is part =
          inr (output_since to first.place between.place now.place mid.names.target mid.place is, part)
      why stop.Link is part =
          inr (sending_since to first.link between.link now.link mid.keeps.aimed mid.link is, part)
      why stop.Out is part = is

-- 16,777,216 datagrams were read
pub relayed_many : (from to : Way) (start : ReceiverState ℕ) (n : ℕ) (first now : Routes) (r : ReceiverState ℕ)
    → RelayedSoFar from to start n first now r → n ≡ MAX_DATAGRAMS
    → RelayedAll from to start MAX_DATAGRAMS first now r
relayed_many from to start n first now r s is =
    subst (λ m. RelayedAll from to start m first now r) is
    (record { so_far = s; few = omega (arith, is); ended = λ lt. absurd (omega (arith, is, lt)) })
