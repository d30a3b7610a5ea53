-- What was done, without the steps that were counted.
use Rattle.std.proofs.Common.{◌⊎◌, ℕ, List, refl, inl, inr}
use Rattle.packet_reading.specs.Begun.{Begins, Begun, StopsBeginning}
use Rattle.packet_reading.specs.Opened.{IsUntouched, PortFailed, PrintedPort}
use Rattle.outside_files.specs.Printed.{PrintedFront, PrintsLine}
use Rattle.outside_routes.specs.Way.{Way, OnFile, OnLink}
use Rattle.outside_routes.specs.declared.fault.RouteStop.{RouteStop}
use Rattle.outside_routes.specs.declared.fault.RouteStop.TheVariants as route
use Rattle.pet_base.specs.OutsideSeen.{OutsideSeen}
use Rattle.pet_keep.specs.Journaled.{uncounted}
use Rattle.pet_text.specs.Told.{PrintedWhole}
use Rattle.pet_keep.specs.Runs.{PrintedShort, Tells}
use Rattle.pet_keep.specs.declared.status.KeepStatus.{KeepStatus}

begun : (from : Way) (before after : OutsideSeen) → Begun from before after
    → Begun from (uncounted before) (uncounted after)
begun (OnFile name) before after is = record {
  found = is.found;
  rest = is.rest;
  source = is.source;
  has_input = is.has_input;
  link = is.link;
}
begun (OnLink address) before after is = record { bound = is.bound; others = is.others }

port : (from : Way) (before after : OutsideSeen) → PrintedPort from before after
    → PrintedPort from (uncounted before) (uncounted after)
port (OnFile name) before after is = is
port (OnLink address) before after is = is

pub begins : (from : Way) (before after : OutsideSeen) → Begins from before after
    → Begins from (uncounted before) (uncounted after)
begins from before after is =
    record { begun = begun from before after is.begun; printed = port from before after is.printed }

pub untouched : (from : Way) (before after : OutsideSeen) → IsUntouched from before after
    → IsUntouched from (uncounted before) (uncounted after)
untouched from before after is = record { files = is.files; feed = is.feed }

front : (text : List ℕ) (before after : OutsideSeen) → PrintedFront text before after
    → PrintedFront text (uncounted before) (uncounted after)
front text before after is = record { count = is.count; printed = is.printed; rose = is.rose }

port_failed : (from : Way) (before after : OutsideSeen) → PortFailed from before after
    → PortFailed from (uncounted before) (uncounted after)
port_failed (OnFile name) before after is = absurd is
port_failed (OnLink address) before after is = front _ before after is

pub stops_beginning : (why : RouteStop) (from : Way) (before after : OutsideSeen) → StopsBeginning from before after why
    → StopsBeginning from (uncounted before) (uncounted after) why
stops_beginning route.NoMemory from before after is =
    record { place = is.place; feed = is.feed; written = is.written }
stops_beginning route.Place from before after is = (untouched from before after is.0, is.1, is.2)
stops_beginning route.Link from before after is = (untouched from before after is.0, is.1, is.2)
stops_beginning route.Out from before after is =
    (untouched from before after is.0, port_failed from before after is.1)

pub line : (text : List ℕ) (before after : OutsideSeen) → PrintsLine text before after
    → PrintsLine text (uncounted before) (uncounted after)
line text before after is = record {
  place = is.place;
  link = is.link;
  steps = refl;
  later = is.later;
  front = is.front;
  whole = is.whole;
  once = is.once;
  silent = is.silent;
}

pub told : (text : List ℕ) (of_end : KeepStatus) (before after : OutsideSeen) (status : KeepStatus)
    → Tells text of_end before after status → Tells text of_end (uncounted before) (uncounted after) status
told text of_end before after status is = record {
  lined = uncounted is.lined;
  only = record { place = is.only.place; link = is.only.link; steps = refl };
  line = by is.line;
  fault = line _ is.lined after is.fault;
}
  where
    by : PrintedWhole text of_end before is.lined status ⊎ PrintedShort text before is.lined status
        → PrintedWhole text of_end (uncounted before) (uncounted is.lined) status
        ⊎ PrintedShort text (uncounted before) (uncounted is.lined) status
    by (inl whole) = inl (record { ended = whole.ended; printed = whole.printed; faults = whole.faults })
    by (inr short) =
        inr (record {
          ended = short.ended;
          some = short.some;
          front = front text before is.lined short.front;
          faults = short.faults;
        })
