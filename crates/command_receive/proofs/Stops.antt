-- What a command leaves that stops early, by where it stops.
use Rattle.std.proofs.Common.{◌≡◌, ◌⊎◌, ◌<◌, ◌≤◌, ℕ, List, [], ◌∷◌, Some, inl, inr, refl}
use Rattle.std.specs.Prelude.{Result, IfErr, IsErrAnd}
use Rattle.pet_base.specs.declared.faults.Stop.{Stop}
use Rattle.pet_base.specs.declared.faults.Stop.TheVariants as place
use Rattle.pet_base.specs.LinkSeen.{LinkSeen}
use Rattle.pet_base.specs.OutsideSeen.{OutsideSeen}
use Rattle.pet_base.specs.laws.SeenLaws.{HadFault-since}
use Rattle.outside_files.specs.Inputs.{Licensed}
use Rattle.outside_files.specs.Uses.{writing, Failed}
use Rattle.outside_files.specs.Wrote.{Wrote}
use Rattle.outside_routes.specs.Way.{Way}
use Rattle.outside_routes.specs.RouteFaults.{stop_of_place}
use Rattle.outside_routes.specs.declared.fault.RouteStop.{RouteStop}
use Rattle.outside_routes.specs.declared.fault.RouteStop.TheVariants as stop
use Rattle.field_elements.specs.Gf16.{gf16_coding}
use Rattle.packet_frame.specs.declared.format.TheConstants.{FORMAT}
use Rattle.packet_verdicts.specs.KeptSet.{KeptSet}
use Rattle.packet_met.specs.Kept.{kept_of}
use Rattle.packet_reading.specs.Begun.{IsBoundWhereStopped}
use Rattle.packet_reading.specs.Layers.{ReadsLayersIn, StopsReadingIn}
use Rattle.packet_reading.specs.laws.ReadLaws.{feed_same, stop_is}
use Rattle.store_text.specs.Files.{store_file}
use Rattle.command_receive.specs.inside.Numbers.{end_of}
use Rattle.command_receive.specs.Opened.{PrintedPort}
use Rattle.command_receive.specs.Receives.{IsBoundAtEnd, EndsReceive}
use Rattle.command_receive.proofs.FilesRead.{store_leaves}

-- while FROM was opened and read
pub stops_reading : (stop : RouteStop) (from : Way) (session layers store : List ℕ) (before after : OutsideSeen)
    → StopsReadingIn FORMAT (λ a. a < 65536) gf16_coding from session layers before after stop
    → EndsReceive from session layers store before after (end_of stop)
stops_reading stop.NoMemory from session layers store before after (inl untouched) = inl untouched
stops_reading stop.NoMemory from session layers store before after (inr front) = inr (inl front.0, front.1)
stops_reading stop.Place from session layers store before after stops = (inl stops.0, stops.1)
stops_reading stop.Link from session layers store before after stops = stops
stops_reading stop.Out from session layers store before after stops = stops

-- while the store was written
pub stops_storing : (stop : Stop) (from : Way) (session layers store : List ℕ) (before new stored : OutsideSeen)
    (kept : KeptSet) (r : ReadsLayersIn FORMAT (λ a. a < 65536) gf16_coding from session layers before new)
    → kept ≡ kept_of session r.read → stored.link ≡ new.link → before.place.faults ≤ new.place.faults
    → PrintedPort from before stored
    → (stored.place.files ≡ new.place.files) ⊎ Wrote [] (Some (store_file store kept)) new.place stored.place
    → Licensed (Failed (writing store ∷ []) new.place stored.place) stop
    → EndsReceive from session layers store before stored (end_of (stop_of_place stop))
stops_storing place.NoMemory from session layers store before new stored kept r same link later port front cause =
    inr (inr (store_leaves from session layers store before new stored kept r same link front), port)
stops_storing place.Failed from session layers store before new stored kept r same link later port front cause = (
  inr (
    HadFault-since before.place new.place stored.place _ _ later (λ b is. is) cause,
    store_leaves from session layers store before new stored kept r same link front,
  ),
  port,
)

-- as the end that it makes
pub bound_at_stop : (from : Way) (old new : LinkSeen) (stop : RouteStop) → IsBoundWhereStopped from old new stop
    → IsBoundAtEnd from old new (end_of stop)
bound_at_stop from old new stop.NoMemory bound = bound
bound_at_stop from old new stop.Place bound = bound
bound_at_stop from old new stop.Link bound = bound
bound_at_stop from old new stop.Out bound = bound

-- for want of memory, before anything was done
pub stopped_first : {T : Type 0} (from : Way) (session layers store : List ℕ) (before : OutsideSeen)
    (result : Result T RouteStop) → IsErrAnd result (λ s. s ≡ stop.NoMemory)
    → IfErr result (λ s. EndsReceive from session layers store before before (end_of s))
stopped_first from session layers store before result is =
    stop_is (λ s. EndsReceive from session layers store before before (end_of s)) result stop.NoMemory is
    (inl (record { place = refl; feed = feed_same from before.link; written = refl }))
