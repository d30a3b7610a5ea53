-- What has come so far, one datagram more, and what a crash then leaves.
use Rattle.std.proofs.Common.{◌≡◌, ℕ, ◌+◌, ◌<◌, ◌≤◌, Bool, true, false, take, List, [], ◌∷◌, ◌++◌, Option, refl, sym}
use Rattle.std.proofs.Common.{ap, subst, ◌∙◌, arith, inl, inr}
use Rattle.std.specs.Prelude.{IfErr, IfSome, IsErrAnd, Result, Ok, Err}
use Rattle.std.proofs.lemmas.List.{length_push}
use Rattle.outside_disk.specs.Disk.{DiskSeen, Between, LeavesOnly}
use Rattle.outside_disk.specs.laws.DiskLaws.{between_same, between_then, only_same, only_then, only_weaker}
use Rattle.outside_routes.specs.Coming.{coming, HaveCome, KeepsFeed, LosesPart, TakesDatagram}
use Rattle.outside_routes.specs.Way.{Way, OnFile, OnLink}
use Rattle.outside_routes.specs.declared.fault.RouteFailed.{RouteFailed}
use Rattle.outside_routes.specs.declared.fault.RouteFailed.TheVariants as failed
use Rattle.outside_routes.specs.laws.ComingLaws.{come_front, come_more, come_nothing, come_until}
use Rattle.packet_verdicts.specs.KeptSet.{KeptSet}
use Rattle.packet_verdicts.specs.Verdicts.{after, after_all, after_all_in}
use Rattle.packet_verdicts.specs.laws.KeptSetLaws.{after_more}
use Rattle.pet_base.specs.LinkSeen.{LinkSeen}
use Rattle.pet_base.specs.Seen.{OnlyReads, Seen}
use Rattle.pet_base.specs.declared.entry.Entry.{Entry}
use Rattle.pet_base.specs.declared.entry.Entry.TheVariants.{Datagram, End}
use Rattle.pet_base.specs.declared.limits.TheConstants.{MAX_DATAGRAMS}
use Rattle.store_journal.specs.declared.fault.KeepFault.{KeepFault}
use Rattle.store_journal.specs.declared.fault.KeepFault.TheVariants as keep
use Rattle.store_keeper.specs.Journal.{StandsFor, StandsWith, journal_of}
use Rattle.store_keeper.specs.laws.KeepLaws.{after_limit, after_session}
use Rattle.pet_keep.specs.Journaled.{AreFirst}
use Rattle.pet_keep.specs.declared.stop.KeepStop.{KeepStop}
use Rattle.pet_keep.specs.declared.stop.KeepStop.TheVariants as stop
use Rattle.pet_keep.specs.inside.SoFar.{AllStand, CameAll, CameTo, CameUntil, IsKeepStop, StandsAfterFirst}
use Rattle.pet_keep.specs.inside.SoFar.{StopsKeeping}
use Rattle.pet_keep.specs.inside.SoFar.{IsEndOf, of_an_output, of_failed, of_fault, of_route, of_stop}
use Rattle.outside_routes.specs.declared.fault.RouteStop.{RouteStop}
use Rattle.outside_routes.specs.declared.fault.RouteStop.TheVariants as route
use Rattle.packet_reading.specs.declared.reading.Totals.{Totals}
use Rattle.packet_reading.specs.Begun.{OutStops, stop_of_an_output}
use Rattle.pet_base.specs.Causes.{stops}
use Rattle.pet_base.specs.OutsideSeen.{OutsideSeen}
use Rattle.pet_base.specs.declared.faults.Stop.{Stop}
use Rattle.pet_base.specs.declared.faults.Stop.TheVariants as place
use Rattle.pet_keep.specs.Keeps.{FewHaveLeft, end_of_output}
use Rattle.pet_keep.specs.declared.end.KeepEnd.{KeepEnd}
use Rattle.pet_keep.specs.declared.end.KeepEnd.TheVariants as end

pub came_start : (first : KeptSet) (all : Option (List (List ℕ))) → CameTo first 0 all all first
unfolding after_all_in
came_start first all = record { read = []; many = refl; rest = come_nothing all; kept = refl }

module _ (first : KeptSet) (n : ℕ) (all left : Option (List (List ℕ))) (now : KeptSet)
    (came : CameTo first n all left now) where
  -- one datagram more
  pub came_more : (len : ℕ) (into : List ℕ) (next_left : Option (List (List ℕ))) (next : KeptSet)
      → TakesDatagram left (Datagram len) into next_left → next ≡ after now (take len into)
      → CameTo first (n + 1) all next_left next
  came_more len into next_left next step kept =
      let d = take len into in
      record {
        read = came.read ++ d ∷ [];
        many = omega (arith, length_push came.read d, came.many);
        rest = come_more came.read all left next_left d came.rest step;
        kept = kept ∙ ap (λ (set : KeptSet). after set d) came.kept ∙ sym (after_more first came.read d);
      }

  -- none is left to come
  pub came_all : (into : List ℕ) (next_left : Option (List (List ℕ))) → n ≤ MAX_DATAGRAMS
      → TakesDatagram left End into next_left → CameAll first n all next_left now
  came_all into next_left few step = record {
    so_far = record {
      read = came.read;
      many = came.many;
      rest = subst (λ (o : Option (List (List ℕ))). HaveCome came.read all o) (sym step.0) came.rest;
      kept = came.kept;
    };
    few = few;
    ended = λ _. subst (λ (o : Option (List (List ℕ))). IfSome o (λ more. more ≡ [])) (sym step.0) step.1;
  }

  -- 16,777,216 have come
  pub came_many : n ≡ MAX_DATAGRAMS → CameAll first MAX_DATAGRAMS all left now
  came_many is =
      subst (λ m. CameAll first m all left now) is
      (record { so_far = came; few = omega (arith, is); ended = λ lt. absurd (omega (arith, is, lt)) })

  -- the datagrams that have come are the first ones
  first_read : AreFirst came.read all
  first_read = come_front came.read all left came.rest

  stands_as : (a b : KeptSet) (c : List ℕ) → a ≡ b → StandsFor a c → StandsFor b c
  stands_as a b c is stands = subst (λ (set : KeptSet). StandsFor set c) is stands

  stands_after : (d c : List ℕ) → journal_of now.session now.limit c ≡ Ok (after now d) → StandsFor (after now d) c
  stands_after d c is =
      subst (λ (s : List ℕ). journal_of s (after now d).limit c ≡ Ok (after now d)) (sym (after_session now d))
      (subst (λ (l : ℕ). journal_of now.session l c ≡ Ok (after now d)) (sym (after_limit now d)) is)

  with_one : (d c : List ℕ) (next_left : Option (List (List ℕ))) → HaveCome (d ∷ []) left next_left
      → StandsWith now d c → StandsAfterFirst first all c
  with_one d c next_left step (inl before) =
      (came.read, first_read, stands_as now (after_all first came.read) c came.kept before)
  with_one d c next_left step (inr later) = (
    came.read ++ d ∷ [],
    come_front (came.read ++ d ∷ []) all next_left (come_more came.read all left next_left d came.rest step),
    stands_as (after now d) (after_all first (came.read ++ d ∷ [])) c
        (ap (λ (set : KeptSet). after set d) came.kept ∙ sym (after_more first came.read d))
        (stands_after d c later.1),
  )

  -- what a crash leaves with one datagram more
  pub leaves_more : (len : ℕ) (into : List ℕ) (next_left : Option (List (List ℕ))) (a b c : DiskSeen)
      → TakesDatagram left (Datagram len) into next_left → Between (LeavesOnly (StandsAfterFirst first all)) a b
      → Between (LeavesOnly (StandsWith now (take len into))) b c
      → Between (LeavesOnly (StandsAfterFirst first all)) a c
  leaves_more len into next_left a b c step so_far more =
      let P = StandsAfterFirst first all in
      let Q = StandsWith now (take len into) in
      between_then (LeavesOnly P) (LeavesOnly Q) (LeavesOnly P)
      (λ x y z p q. only_then P x y z p (only_weaker Q P y z (λ t. with_one (take len into) t next_left step) q))
      a b c so_far more

-- nothing could be received
module _ (first : KeptSet) (n : ℕ) (from : Way) (place_first place_before place_now : Seen)
    (link_first link_before link_now : LinkSeen) (now : KeptSet)
    (came : CameTo first n (coming from place_first link_first) (coming from place_before link_before) now)
    (few : n < MAX_DATAGRAMS) (feed : KeepsFeed from link_before link_now) (lost : LosesPart from place_before place_now)
    (disk : DiskSeen) (stands : AllStand now disk) where
  until : CameUntil first from place_first link_first place_now link_now now disk
  until = record {
    read = came.read;
    few = omega (arith, came.many, few);
    come =
        come_until from came.read place_first place_before place_now link_first link_before link_now came.rest feed lost;
    kept = came.kept;
    stands = stands;
  }

  pub came_until : (failed : RouteFailed)
      → StopsKeeping first from place_first link_first place_now link_now now disk (of_failed failed)
  came_until failed.Place = until
  came_until failed.Link = until

-- nothing was done
pub leaves_none : (P : List ℕ → Type 0) (a : DiskSeen) → Between (LeavesOnly P) a a
leaves_none P a = between_same (LeavesOnly P) (only_same P) a

-- the stop that an answer has
pub stop_is : {T : Type 0} (P : KeepStop → Type 0) (result : Result T KeepStop) (stop : KeepStop)
    → IsErrAnd result (λ s. s ≡ stop) → P stop → IfErr result P
stop_is P (Ok x) stop is p = tt
stop_is P (Err e) stop is p = subst P (sym is) p

-- why a datagram was not kept, of a keeper that was not stopped
pub fault_cause : (fault : KeepFault) (rose : Type 0) → (fault ≡ keep.Stopped → ⊥) → (fault ≡ keep.DiskFault → rose)
    → IsKeepStop ⊥ ⊥ ⊥ rose (of_fault fault)
fault_cause keep.Stopped rose going told = absurd (going refl)
fault_cause keep.NoMemory rose going told = tt
fault_cause keep.DiskFault rose going told = told refl

pub true_false : (b : Bool) → b ≡ true → b ≡ false → ⊥
true_false b p q = cc

-- no failure of a keeper is one of FROM
pub keeps_no_link : (why : KeepStop) (rose : Type 0) (first : KeptSet) (from : Way) (place_old : Seen)
    (link_old : LinkSeen) (place_new : Seen) (link_new : LinkSeen) (now : KeptSet) (disk : DiskSeen)
    → IsKeepStop ⊥ ⊥ ⊥ rose why → StopsKeeping first from place_old link_old place_new link_new now disk why
keeps_no_link stop.NoMemory rose first from place_old link_old place_new link_new now disk cause = tt
keeps_no_link stop.Place rose first from place_old link_old place_new link_new now disk cause = absurd cause
keeps_no_link stop.Link rose first from place_old link_old place_new link_new now disk cause = absurd cause
keeps_no_link stop.Out rose first from place_old link_old place_new link_new now disk cause = absurd cause
keeps_no_link stop.Disk rose first from place_old link_old place_new link_new now disk cause = tt

-- only reading was done
pub reads_same : (s : Seen) → OnlyReads s s
reads_same s = record { files = refl; source = refl; target = refl; has_input = refl; has_output = refl }

pub reads_then : (first before now : Seen) → OnlyReads first before → OnlyReads before now → OnlyReads first now
reads_then first before now a b = record {
  files = b.files ∙ a.files;
  source = b.source ∙ a.source;
  target = b.target ∙ a.target;
  has_input = b.has_input ∙ a.has_input;
  has_output = b.has_output ∙ a.has_output;
}

-- what a crash leaves where a datagram was not kept
pub leaves_less : (first : KeptSet) (n : ℕ) (all left next_left : Option (List (List ℕ))) (now : KeptSet)
    → CameTo first n all left now → (len : ℕ) (into : List ℕ) (e : Entry) (a b c : DiskSeen)
    → e ≡ Datagram len → TakesDatagram left e into next_left
    → Between (LeavesOnly (StandsAfterFirst first all)) a b
    → Between (LeavesOnly (StandsWith now (take len into))) b c
    → Between (LeavesOnly (StandsAfterFirst first all)) a c
leaves_less first n all left next_left now came len into e a b c is step so_far more =
    leaves_more first n all left now came len into next_left a b c
    (subst (λ (x : Entry). TakesDatagram left x into next_left) is step) so_far more

-- no more than 16,777,216 have left the link
pub few_so_far : (from : Way) (first : KeptSet) (n : ℕ) (place_first place_now : Seen) (link_first link_now : LinkSeen)
    (now : KeptSet) → CameTo first n (coming from place_first link_first) (coming from place_now link_now) now
    → n ≤ MAX_DATAGRAMS → FewHaveLeft from link_first link_now
few_so_far (OnFile name) first n place_first place_now link_first link_now now came few = tt
few_so_far (OnLink address) first n place_first place_now link_first link_now now came few =
    (came.read, omega (arith, came.many, few), came.rest)

-- nor has one since
pub few_still : (from : Way) (first before now : LinkSeen) → KeepsFeed from before now → FewHaveLeft from first before
    → FewHaveLeft from first now
few_still (OnFile name) first before now feed few = tt
few_still (OnLink address) first before now feed few =
    (few.0, few.1, subst (λ (o : Option (List (List ℕ))). HaveCome few.0 first.feed o) (sym feed) few.2)

-- nor had one before
pub few_since : (from : Way) (before first now : LinkSeen) → KeepsFeed from before first → FewHaveLeft from first now
    → FewHaveLeft from before now
few_since (OnFile name) before first now feed few = tt
few_since (OnLink address) before first now feed few =
    (few.0, few.1, subst (λ (o : Option (List (List ℕ))). HaveCome few.0 o now.feed) feed few.2)

pub few_none : (from : Way) (link : LinkSeen) → FewHaveLeft from link link
few_none (OnFile name) link = tt
few_none (OnLink address) link = ([], omega arith, come_nothing link.feed)

-- which stop tells of a failure of the output
pub output_of_route : (why : RouteStop) → stop_of_an_output why ≡ of_an_output (of_route why)
output_of_route route.NoMemory = refl
output_of_route route.Place = refl
output_of_route route.Link = refl
output_of_route route.Out = refl

pub output_of_stop : (why : Stop) → false ≡ of_an_output (of_stop why)
output_of_stop place.NoMemory = refl
output_of_stop place.Failed = refl

pub no_output : (A B D : Type 0) (why : KeepStop) → IsKeepStop A B ⊥ D why
    → false ≡ of_an_output why
no_output A B D stop.NoMemory cause = refl
no_output A B D stop.Place cause = refl
no_output A B D stop.Link cause = refl
no_output A B D stop.Out cause = absurd cause
no_output A B D stop.Disk cause = refl

-- all was read at the three ends that have numbers
pub by_end : (P : KeepEnd → Type 0) (set : KeptSet) (n : ℕ)
    → ((totals : Totals) → IsEndOf set n (end.Done totals) → P (end.Done totals))
    → ((totals : Totals) → IsEndOf set n (end.Incomplete totals) → P (end.Incomplete totals))
    → ((totals : Totals) → IsEndOf set n (end.TurnsSpent totals) → P (end.TurnsSpent totals))
    → (e : KeepEnd) → IsEndOf set n e → P e
by_end P set n done part spent (end.Done totals) is = done totals is
by_end P set n done part spent (end.Incomplete totals) is = part totals is
by_end P set n done part spent (end.TurnsSpent totals) is = spent totals is
by_end P set n done part spent end.Usage is = absurd is
by_end P set n done part spent end.NoMemory is = absurd is
by_end P set n done part spent end.PlaceFault is = absurd is
by_end P set n done part spent end.LinkFault is = absurd is
by_end P set n done part spent end.OutFault is = absurd is
by_end P set n done part spent end.OtherSession is = absurd is
by_end P set n done part spent end.DiskFault is = absurd is
by_end P set n done part spent (end.BadJournal at) is = absurd is

pub read_to_end : (set : KeptSet) (n : ℕ) (e : KeepEnd) → IsEndOf set n e → false ≡ end_of_output e
read_to_end set n =
    by_end (λ e. false ≡ end_of_output e) set n (λ totals is. refl) (λ totals is. refl) (λ totals is. refl)

-- the output failed in this call exactly where the answer tells so
pub out_of : {T : Type 0} (result : Result T KeepStop) (why : KeepStop) (failed : Bool) (before after : OutsideSeen)
    → IsErrAnd result (λ s. s ≡ why) → failed ≡ of_an_output why → OutStops failed before after
    → OutStops (stops of_an_output result) before after
out_of (Ok x) why failed before after is alike out = absurd is
out_of (Err e) why failed before after is alike out =
    subst (λ (b : Bool). OutStops b before after) (alike ∙ ap of_an_output (sym is)) out
