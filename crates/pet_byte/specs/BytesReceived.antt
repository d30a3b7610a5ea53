-- The headline of `breceive`. This project's own.
use Rattle.std.specs.Prelude.{◌≡◌, ◌≢◌, ℕ, List, All, Some, if◌then◌else◌}
use Rattle.pet_base.specs.OutsideSeen.{OutsideSeen}
use Rattle.pet_base.specs.Seen.{Files, with_file}
use Rattle.outside_files.specs.Uses.{IsWell}
use Rattle.outside_routes.specs.RouteFaults.{BoundFailed}
use Rattle.outside_routes.specs.Way.{Way}
use Rattle.gf8.specs.Gf8.{gf8_coding}
use Rattle.packet_frame.specs.declared.format.TheConstants.{BYTE_FORMAT}
use Rattle.packet_session.specs.Session.{Session}
use Rattle.packet_met.specs.FewestStripes.{CarriesFewestStripesIn}
use Rattle.packet_met.specs.Met.{layers_text_in, met_by, all_shown}
use Rattle.packet_reading.specs.Opened.{IsBoundTo, PrintedPort}
use Rattle.packet_reading.specs.SessionRead.{HasPacketsOfIn, session_totals_in}
use Rattle.packet_reading.specs.declared.reading.Totals.{Totals}
use Rattle.pet_byte.specs.ReceivesBytes.{byte_uses_of}
use Rattle.pet_byte.specs.declared.breceive.ByteEnd.{ByteEnd}
use Rattle.pet_byte.specs.declared.breceive.ByteEnd.TheVariants.{Done, NoMemory, Incomplete}

-- The place tells its files, and FROM has these datagrams. They are fewer than 16,777,216, and each that is a frame of
-- the byte profile with the session's number is one of the packets of the session, which is a byte session.
abbrev pub HasBytePacketsOf : Session → Way → Files → List (List ℕ) → OutsideSeen → Type 0
HasBytePacketsOf s from files ds old = HasPacketsOfIn BYTE_FORMAT gf8_coding s from files ds old

-- The premises of the headline: memory was found, neither the place, the link nor the output had a fault of this call,
-- and FROM is so.
pub record CanReceiveBytes (s : Session) (from : Way) (layers : List ℕ) (files : Files) (ds : List (List ℕ))
    (before after : OutsideSeen) (end : ByteEnd) : Type 0 where
  pub memory : end ≢ NoMemory
  pub well : IsWell (byte_uses_of from layers) before after
  pub link : BoundFailed from before.link after.link → ⊥
  pub given : HasBytePacketsOf s from files ds before

-- an end with these numbers
abbrev pub done_with : Totals → ByteEnd
done_with totals = Done totals.read totals.kept totals.shown

abbrev pub incomplete_with : Totals → ByteEnd
incomplete_with totals = Incomplete totals.read totals.kept totals.shown

-- the end: Done exactly where every layer of every group is shown, and else Incomplete
abbrev pub byte_session_end : Session → List (List ℕ) → ByteEnd
byte_session_end s ds =
    if all_shown s (met_by BYTE_FORMAT s.number ds) then done_with (session_totals_in BYTE_FORMAT s ds)
    else incomplete_with (session_totals_in BYTE_FORMAT s ds)

-- The headline: LAYERS has each shown layer's exact bytes once, numbered by the arrival at which the group's distinct
-- packets reached the layer's count, and no other file has changed; the link, where FROM is one, receives at its
-- address; and the packets of each group carry the fewest stripes, of which no layer's count is above its declared need.
pub record ReceivesByteSession (s : Session) (from : Way) (layers : List ℕ) (files : Files) (ds : List (List ℕ))
    (before after : OutsideSeen) : Type 0 where
  pub written : after.place.files ≡ Some (with_file layers (layers_text_in BYTE_FORMAT s ds) files)
  pub listens : IsBoundTo from before.link after.link
  pub fewest : All (CarriesFewestStripesIn gf8_coding) s.groups

-- so it is for every byte session and every such FROM, with this end, and nothing but the line of the port was printed
abbrev pub CompletesBytes : Way → List ℕ → List ℕ → OutsideSeen → OutsideSeen → ByteEnd → Type 0
CompletesBytes from session layers before after end =
    (s : Session) (files : Files) (ds : List (List ℕ)) → session ≡ s.number
    → CanReceiveBytes s from layers files ds before after end
    → ReceivesByteSession s from layers files ds before after
    × (end ≡ byte_session_end s ds) × PrintedPort from before after
