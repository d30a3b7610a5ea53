-- What was read, kept and written, seen from before FROM was begun.
use Rattle.std.proofs.Common.{◌≡◌, ◌≢◌, ◌⊎◌, ℕ, ◌<◌, ◌≤◌, List, [], ◌∷◌, ◌++◌, length, Option, None, Some, refl, sym}
use Rattle.std.proofs.Common.{ap, subst, ◌∙◌, arith, inl, inr}
use Rattle.std.specs.Prelude.{IfSome, IsSome, option_map}
use Rattle.packet_reading.specs.Begun.{Begins, Begun, LinkReceives, StopsBeginning, EnteringFailed}
use Rattle.packet_reading.specs.Opened.{IsBoundTo, IsUntouched, PrintedPort}
use Rattle.packet_reading.specs.Layers.{HaveComeFirst, IsRead}
use Rattle.packet_reading.specs.declared.reading.Totals.{Totals}
use Rattle.packet_reading.specs.laws.BegunLaws.{begun_bound, file_read_until, is_read, link_failed, port_printed}
use Rattle.packet_reading.specs.laws.BegunLaws.{still_bound}
use Rattle.outside_disk.specs.Disk.{Between, DiskSeen, LeavesOnly}
use Rattle.outside_files.specs.Inputs.{Licensed}
use Rattle.outside_files.specs.Printed.{Unprinted}
use Rattle.outside_files.specs.Uses.{Failed, reading, writing}
use Rattle.outside_files.specs.Wrote.{File, Wrote, with_files}
use Rattle.outside_routes.specs.Coming.{coming, HaveCome, HaveComeUntil, KeepsFeed}
use Rattle.outside_routes.specs.RouteFaults.{BoundFailed, InputFailed, ReceivingFailed}
use Rattle.outside_routes.specs.Way.{Way, OnFile, OnLink}
use Rattle.outside_routes.specs.laws.ComingLaws.{come_nothing}
use Rattle.outside_routes.specs.declared.fault.RouteStop.{RouteStop}
use Rattle.outside_routes.specs.declared.fault.RouteStop.TheVariants as route
use Rattle.packet_verdicts.specs.KeptSet.{KeptSet, kept_in_all}
use Rattle.packet_verdicts.specs.Verdicts.{after_all, after_all_in}
use Rattle.pet_base.specs.Causes.{Blames, Rose}
use Rattle.pet_base.specs.declared.faults.Stop.{Stop}
use Rattle.pet_base.specs.declared.faults.Stop.TheVariants as place
use Rattle.pet_base.specs.declared.limits.TheConstants.{MAX_DATAGRAMS}
use Rattle.pet_base.specs.declared.place.Side.TheVariants.{Read}
use Rattle.pet_base.specs.Entries.{datagrams}
use Rattle.pet_base.specs.OutsideSeen.{OutsideSeen}
use Rattle.pet_base.specs.Seen.{Files, Seen, bytes_at}
use Rattle.pet_base.specs.laws.SeenLaws.{Blames-named, HadFault-since}
use Rattle.pet_receive.specs.ShownBytes.{IsComplete, shown_in_all}
use Rattle.store_text.specs.Files.{store_file}
use Rattle.pet_keep.specs.Journaled.{DiskNow, datagrams_in, offered}
use Rattle.pet_keep.specs.Keeps.{AreTotals, EndsFrom, KeepsAll, KeepsFiles, KeepsUntilFault, LeavesFront}
use Rattle.pet_keep.specs.Keeps.{StoresPart}
use Rattle.pet_keep.specs.declared.end.KeepEnd.{KeepEnd}
use Rattle.pet_keep.specs.declared.stop.KeepStop.{KeepStop}
use Rattle.pet_keep.specs.declared.stop.KeepStop.TheVariants as stop
use Rattle.pet_keep.specs.inside.SoFar.{AllStand, CameAll, CameUntil, HasTotals, IsEndOf, IsKeepStop, StandsAfterFirst}
use Rattle.pet_keep.specs.inside.SoFar.{StopsKeeping, end_of, of_route, of_stop}
use Rattle.pet_keep.proofs.CameSoFar.{by_end}

-- what comes once FROM is begun is what it offered
of_file : (files : Option Files) (name : List ℕ) → IfSome files (λ f. IsSome (f name))
    → option_map datagrams (bytes_at files name) ≡ option_map (λ f. datagrams_in (f name)) files
of_file None name found = refl
of_file (Some f) name found = by (f name) found
  where
    by : (o : Option (List ℕ)) → IsSome o → option_map datagrams o ≡ Some (datagrams_in o)
    by None found = absurd cc
    by (Some bytes) found = refl

pub is_offered : (from : Way) (before opened : OutsideSeen) → Begun from before opened
    → coming from opened.place opened.link ≡ offered from before
is_offered (OnFile name) before opened begun =
    ap (option_map datagrams) begun.rest ∙ of_file before.place.files name begun.found
is_offered (OnLink address) before opened begun = begun.others.feed

wrote_since : (whole : List File) (front : Option File) (before opened new stored : Seen) → opened.files ≡ before.files
    → new.files ≡ opened.files → Wrote whole front new stored → Wrote whole front before stored
wrote_since whole None before opened new stored a b w = w ∙ ap (option_map (with_files whole)) (b ∙ a)
wrote_since whole (Some file) before opened new stored a b w =
    let last : File = record { name = file.name; bytes = w.0 } in
    (w.0, w.1, w.2 ∙ ap (option_map (with_files (whole ++ last ∷ []))) (b ∙ a))

-- FROM is begun, its datagrams were handed to the keeper, and then the store was written, or not
module _ (first : KeptSet) (from : Way) (store : List ℕ) (n : ℕ) (before opened new stored : OutsideSeen)
    (now : KeptSet) (old disk : DiskNow) (begins : Begins from before opened) (untouched : IsUntouched from before opened)
    (came : CameAll first n (coming from opened.place opened.link) (coming from new.place new.link) now)
    (receives : LinkReceives from opened.link new.link) (files : new.place.files ≡ opened.place.files)
    (link : stored.link ≡ new.link) (printed : stored.written ≡ opened.written) where
  few_read : length came.so_far.read ≤ MAX_DATAGRAMS
  few_read = omega (arith, came.so_far.many, came.few)

  input_read : IsRead from came.so_far.read before stored
  input_read =
      is_read from n came.so_far.read before opened new stored begins.begun link came.so_far.many came.so_far.rest
      came.ended

  receives_still : LinkReceives from opened.link stored.link
  receives_still = subst (LinkReceives from opened.link) (sym link) receives

  port : PrintedPort from before stored
  port = port_printed from before opened stored receives_still printed begins.printed

  listens : IsBoundTo from before.link stored.link
  listens =
      still_bound from before.link opened.link stored.link (begun_bound from before opened begins.begun) receives_still

  kept : now ≡ after_all first came.so_far.read
  kept = came.so_far.kept

  keeps_all : Wrote (store_file store now ∷ []) None new.place stored.place → AllStand now disk.seen
      → KeepsAll first from store before stored disk.seen
  keeps_all wrote stands = record {
    read = came.so_far.read;
    few = few_read;
    input = input_read;
    bound = listens;
    file =
        wrote_since (store_file store (after_all first came.so_far.read) ∷ []) None before.place opened.place new.place
        stored.place untouched.files files
        (subst (λ (set : KeptSet). Wrote (store_file store set ∷ []) None new.place stored.place) kept wrote);
    stands = subst (λ (set : KeptSet). AllStand set disk.seen) kept stands;
  }

  totals_are : (totals : Totals) → HasTotals now n totals → AreTotals first came.so_far.read totals
  totals_are totals has = record {
    many = has.0 ∙ sym came.so_far.many;
    kept = has.1 ∙ ap kept_in_all kept;
    shown = has.2 ∙ ap shown_in_all kept;
  }

  below : n ≢ MAX_DATAGRAMS → length came.so_far.read < MAX_DATAGRAMS
  below apart = omega (arith, came.so_far.many, came.few, apart)

  -- the end, where it was written
  pub ends_kept : Wrote (store_file store now ∷ []) None new.place stored.place → AllStand now disk.seen
      → (end : KeepEnd) → IsEndOf now n end → EndsFrom first from store before stored old disk end
  unfolding keeps_all
  ends_kept wrote stands =
      by_end (λ e. EndsFrom first from store before stored old disk e) now n
      (λ totals is. (keeps_all wrote stands, below is.0, subst IsComplete kept is.1, totals_are totals is.2, port))
      (λ totals is. (
        keeps_all wrote stands,
        below is.0,
        (λ all. is.1 (subst IsComplete (sym kept) all)),
        totals_are totals is.2,
        port,
      ))
      (λ totals is. (keeps_all wrote stands, came.so_far.many ∙ is.0, totals_are totals is.1, port))

  leaves_front : (stored.place.files ≡ new.place.files) ⊎ Wrote [] (Some (store_file store now)) new.place stored.place
      → LeavesFront first from store before stored
  leaves_front (inl same) = inl (same ∙ files ∙ untouched.files)
  leaves_front (inr wrote) =
      inr (record {
        read = came.so_far.read;
        few = few_read;
        input = input_read;
        file =
            wrote_since [] (Some (store_file store (after_all first came.so_far.read))) before.place opened.place
            new.place stored.place untouched.files files
            (subst (λ (set : KeptSet). Wrote [] (Some (store_file store set)) new.place stored.place) kept wrote);
      })

  stores_part : (stored.place.files ≡ new.place.files) ⊎ Wrote [] (Some (store_file store now)) new.place stored.place
      → AllStand now disk.seen → StoresPart first from store before stored disk.seen
  stores_part front stands = record {
    read = came.so_far.read;
    few = few_read;
    input = input_read;
    files = by front;
    stands = subst (λ (set : KeptSet). AllStand set disk.seen) kept stands;
  }
    where
      by : (stored.place.files ≡ new.place.files) ⊎ Wrote [] (Some (store_file store now)) new.place stored.place
          → KeepsFiles before stored
          ⊎ Wrote [] (Some (store_file store (after_all first came.so_far.read))) before.place stored.place
      by (inl same) = inl (same ∙ files ∙ untouched.files)
      by (inr wrote) =
          inr (wrote_since [] (Some (store_file store (after_all first came.so_far.read))) before.place opened.place
          new.place stored.place untouched.files files
          (subst (λ (set : KeptSet). Wrote [] (Some (store_file store set)) new.place stored.place) kept wrote))

  -- the end, where it was not
  pub ends_storing : (why : Stop) → (stored.place.files ≡ new.place.files)
      ⊎ Wrote [] (Some (store_file store now)) new.place stored.place → before.place.faults ≤ new.place.faults
      → Licensed (Failed (writing store ∷ []) new.place stored.place) why → AllStand now disk.seen
      → EndsFrom first from store before stored old disk (end_of (of_stop why))
  ends_storing place.NoMemory front later cause stands = (leaves_front front, inr port)
  ends_storing place.Failed front later cause stands = (
    inr (inr (
      HadFault-since before.place new.place stored.place _ _ later (λ b is. is) cause,
      stores_part front stands,
    )),
    port,
  )

entering : (from : Way) (before after : OutsideSeen) → EnteringFailed from before.place after.place
    → Unprinted before after → PrintedPort from before after
entering (OnFile name) before after had written = written
entering (OnLink address) before after had written = absurd had

nothing_come : (from : Way) (before after : OutsideSeen) → BoundFailed from before.link after.link
    → KeepsFeed from before.link after.link → HaveComeFirst from [] before after
nothing_come (OnFile name) before after failed feed = absurd failed
nothing_come (OnLink address) before after failed feed =
    subst (λ (o : Option (List (List ℕ))). HaveCome [] before.link.feed o) (sym feed) (come_nothing before.link.feed)

-- FROM was not begun
pub ends_beginning : (why : RouteStop) (first : KeptSet) (from : Way) (store : List ℕ) (before after : OutsideSeen)
    (old disk : DiskNow) → StopsBeginning from before after why → AllStand first disk.seen
    → EndsFrom first from store before after old disk (end_of (of_route why))
unfolding after_all_in
ends_beginning route.NoMemory first from store before after old disk stops stands =
    (inl (ap (λ (s : Seen). s.files) stops.place), inl stops.written)
ends_beginning route.Place first from store before after old disk stops stands =
    (inl (stops.2, stops.0.files, stands), entering from before after stops.2.0 stops.1)
ends_beginning route.Link first from store before after old disk stops stands = (
  stops.2,
  record {
    read = [];
    few = omega arith;
    come = nothing_come from before after stops.2 stops.0.feed;
    files = stops.0.files;
    stands = stands;
  },
  inl stops.1,
)
ends_beginning route.Out first from store before after old disk stops stands = stops

-- the input is blamed
input_failed : (from : Way) (before opened new : OutsideSeen) → Begun from before opened
    → before.place.faults ≤ opened.place.faults → InputFailed from opened.place new.place
    → EnteringFailed from before.place new.place
input_failed (OnFile name) before opened new begun later had =
    HadFault-since before.place opened.place new.place (Blames Read opened.place.source) (λ b. b ≡ reading name) later
    (λ b is. Blames-named before.place.files opened.place.source name Read b begun.source is) had
input_failed (OnLink address) before opened new begun later had = absurd had

come_first : (from : Way) (read : List (List ℕ)) (before opened new : OutsideSeen) → Begun from before opened
    → HaveComeUntil from read opened.place opened.link new.place new.link → HaveComeFirst from read before new
come_first (OnFile name) read before opened new begun came =
    file_read_until name read before opened new.place.rest begun came
come_first (OnLink address) read before opened new begun came =
    subst (λ (o : Option (List (List ℕ))). HaveCome read o new.link.feed) begun.others.feed came

came_since : (from : Way) (first now : KeptSet) (before opened new : OutsideSeen) (disk : DiskSeen)
    → Begun from before opened → KeepsFiles before new
    → CameUntil first from opened.place opened.link new.place new.link now disk
    → KeepsUntilFault first from before new disk
came_since from first now before opened new disk begun files came = record {
  read = came.read;
  few = came.few;
  come = come_first from came.read before opened new begun came.come;
  files = files;
  stands = subst (λ (set : KeptSet). AllStand set disk) came.kept came.stands;
}

-- while datagrams came
pub ends_keeping : (why : KeepStop) (first : KeptSet) (from : Way) (store : List ℕ) (before opened new : OutsideSeen)
    (now : KeptSet) (old disk : DiskNow) → Begins from before opened → IsUntouched from before opened
    → before.place.faults ≤ opened.place.faults → before.link.faults ≤ opened.link.faults
    → LinkReceives from opened.link new.link → new.place.files ≡ opened.place.files → new.written ≡ opened.written
    → StopsKeeping first from opened.place opened.link new.place new.link now disk.seen why
    → IsKeepStop (InputFailed from opened.place new.place) (ReceivingFailed from opened.link new.link) ⊥
    (Rose old.faults disk.faults) why → EndsFrom first from store before new old disk (end_of why)
ends_keeping stop.NoMemory first from store before opened new now old disk begins untouched place_later link_later
    receives files printed stops cause =
    (inl (files ∙ untouched.files), inr (port_printed from before opened new receives printed begins.printed))
ends_keeping stop.Place first from store before opened new now old disk begins untouched place_later link_later
    receives files printed stops cause = (
      inr (inl (
        input_failed from before opened new begins.begun place_later cause,
        came_since from first now before opened new disk.seen begins.begun (files ∙ untouched.files) stops,
      )),
      port_printed from before opened new receives printed begins.printed,
    )
ends_keeping stop.Link first from store before opened new now old disk begins untouched place_later link_later
    receives files printed stops cause = (
      link_failed from before opened new begins.begun link_later cause,
      came_since from first now before opened new disk.seen begins.begun (files ∙ untouched.files) stops,
      inr (port_printed from before opened new receives printed begins.printed),
    )
ends_keeping stop.Out first from store before opened new now old disk begins untouched place_later link_later
    receives files printed stops cause = absurd cause
ends_keeping stop.Disk first from store before opened new now old disk begins untouched place_later link_later
    receives files printed stops cause =
    (cause, files ∙ untouched.files, port_printed from before opened new receives printed begins.printed)

-- what a crash leaves of what was offered
pub leaves_offered : (from : Way) (before opened : OutsideSeen) → Begun from before opened → (set : KeptSet)
    (a b : DiskSeen) → Between (LeavesOnly (StandsAfterFirst set (coming from opened.place opened.link))) a b
    → Between (LeavesOnly (StandsAfterFirst set (offered from before))) a b
leaves_offered from before opened begun set a b leaves =
    subst (λ (all : Option (List (List ℕ))). Between (LeavesOnly (StandsAfterFirst set all)) a b)
    (is_offered from before opened begun) leaves
