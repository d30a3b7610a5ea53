-- The headline of `receive`. This project's own.
use Rattle.std.specs.Prelude.{◌≡◌, ◌≢◌, ℕ, List, All, Some, if◌then◌else◌}
use Rattle.pet_base.specs.OutsideSeen.{OutsideSeen}
use Rattle.pet_base.specs.Seen.{Files, with_file}
use Rattle.outside_files.specs.Uses.{IsWell}
use Rattle.outside_routes.specs.Way.{Way}
use Rattle.outside_routes.specs.RouteFaults.{BoundFailed}
use Rattle.field_elements.specs.Gf16.{gf16_coding}
use Rattle.packet_frame.specs.declared.format.TheConstants.{FORMAT}
use Rattle.packet_session.specs.Session.{Session}
use Rattle.packet_met.specs.FewestStripes.{CarriesFewestStripes}
use Rattle.packet_met.specs.Met.{layers_text, met_in, all_shown}
use Rattle.packet_met.specs.MetStore.{session_store}
use Rattle.command_receive.specs.Opened.{IsBoundTo, PrintedPort}
use Rattle.command_receive.specs.Receives.{uses_of}
use Rattle.packet_reading.specs.SessionRead.{HasPacketsOfIn, session_totals_in}
pub use Rattle.packet_reading.specs.SessionRead.{HasDatagrams}
use Rattle.packet_reading.specs.declared.reading.Totals.{Totals}
use Rattle.command_receive.specs.declared.command.ReceiveEnd.{ReceiveEnd}
use Rattle.command_receive.specs.declared.command.ReceiveEnd.TheVariants.{Done, NoMemory, Incomplete}

-- The place tells its files, and FROM has these datagrams. They are fewer than 16,777,216, and each that is a frame of
-- the session's number is one of the session's packets.
abbrev pub HasPacketsOf : Session → Way → Files → List (List ℕ) → OutsideSeen → Type 0
HasPacketsOf s from files ds old = HasPacketsOfIn FORMAT gf16_coding s from files ds old

-- The premises of the headline: memory was found, neither the place, the link nor the output had a fault of this call,
-- and FROM is so.
pub record CanReceive (s : Session) (from : Way) (layers store : List ℕ) (files : Files) (ds : List (List ℕ))
    (before after : OutsideSeen) (end : ReceiveEnd) : Type 0 where
  pub memory : end ≢ NoMemory
  pub well : IsWell (uses_of from layers store) before after
  pub link : BoundFailed from before.link after.link → ⊥
  pub given : HasPacketsOf s from files ds before

-- the numbers of a session's datagrams, by the packets that were met
abbrev pub session_totals : Session → List (List ℕ) → Totals
session_totals s ds = session_totals_in FORMAT s ds

-- the end: Done exactly where every layer of every group is shown, and else Incomplete
abbrev pub session_end : Session → List (List ℕ) → ReceiveEnd
session_end s ds =
    if all_shown s (met_in s.number ds) then Done (session_totals s ds) else Incomplete (session_totals s ds)

-- The headline: LAYERS has each shown layer's exact bytes once, numbered by the arrival at which the group's distinct
-- packets reached the layer's count, STORE is the store of the session's packets that were met, and no other file has
-- changed; the link, where FROM is one, receives at its address; and the packets of each group carry the fewest stripes,
-- of which no layer's count is above its declared need.
pub record ReceivesSession (s : Session) (from : Way) (layers store : List ℕ) (files : Files) (ds : List (List ℕ))
    (before after : OutsideSeen) : Type 0 where
  pub written : after.place.files
      ≡ Some (with_file store (session_store s ds) (with_file layers (layers_text s ds) files))
  pub listens : IsBoundTo from before.link after.link
  pub fewest : All CarriesFewestStripes s.groups

-- so it is for every session and every such FROM, with this end, and nothing but the line of the port was printed
abbrev pub CompletesReceive : Way → List ℕ → List ℕ → List ℕ → OutsideSeen → OutsideSeen → ReceiveEnd → Type 0
CompletesReceive from session layers store before after end =
    (s : Session) (files : Files) (ds : List (List ℕ)) → session ≡ s.number
    → CanReceive s from layers store files ds before after end
    → ReceivesSession s from layers store files ds before after
    × (end ≡ session_end s ds) × PrintedPort from before after
