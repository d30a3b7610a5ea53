-- When `relay` is done, and what it then sends. This project's own.
use Rattle.std.specs.Prelude.{◌≡◌, ◌≢◌, ℕ, List, [], length, map, if◌then◌else◌}
use Rattle.pet_base.specs.OutsideSeen.{OutsideSeen}
use Rattle.pet_base.specs.Seen.{Files}
use Rattle.outside_files.specs.Uses.{IsWell}
use Rattle.outside_routes.specs.RouteFaults.{AimedFailed, BoundFailed}
use Rattle.outside_routes.specs.Way.{Way}
use Rattle.field_elements.specs.Gf16.{gf16_coding}
use Rattle.packet_frame.specs.Frame.{text}
use Rattle.packet_frame.specs.declared.format.TheConstants.{FORMAT}
use Rattle.packet_session.specs.Session.{Session}
use Rattle.packet_met.specs.Met.{Pair, all_shown, met_in}
use Rattle.pet_repair.specs.Relay.{output_from, arrivals_of, packets_at}
use Rattle.packet_rebuild.specs.Message.{HaveZeroEnds}
use Rattle.packet_reading.specs.Opened.{IsBoundTo, PrintedPort}
use Rattle.packet_reading.specs.SessionRead.{HasPacketsOfIn}
use Rattle.pet_repair.specs.Relays.{relay_uses, routes_of}
use Rattle.pet_repair.specs.SentTo.{SentTo}
use Rattle.pet_repair.specs.declared.relay.RelayEnd.{RelayEnd}
use Rattle.pet_repair.specs.declared.relay.RelayEnd.TheVariants.{Done, NoMemory, Incomplete}

-- FROM has datagrams of which those of the session's number are its packets, and the session's messages have the byte 0
-- past each odd end.
pub record HasPacketsToRelay (s : Session) (from : Way) (files : Files) (ds : List (List ℕ))
    (before : OutsideSeen) : Type 0 where
  pub packets : HasPacketsOfIn FORMAT gf16_coding s from files ds before
  pub zeros : HaveZeroEnds s

-- The premises: memory was found, neither the place, the link nor the output had a fault of this call, and FROM is so.
pub record CanRelay (s : Session) (from to : Way) (files : Files) (ds : List (List ℕ)) (before after : OutsideSeen)
    (end : RelayEnd) : Type 0 where
  pub memory : end ≢ NoMemory
  pub well : IsWell (relay_uses from to) before after
  pub bound : BoundFailed from before.link after.link → ⊥
  pub aimed : AimedFailed to before.link after.link → ⊥
  pub given : HasPacketsToRelay s from files ds before

-- the pairs that the rule sends of these datagrams
abbrev pub relayed_pairs : Session → List (List ℕ) → List Pair
relayed_pairs s ds = output_from s [] (arrivals_of s ds)

-- and their packets, as datagrams
abbrev pub relayed_datagrams : Session → List (List ℕ) → List (List ℕ)
relayed_datagrams s ds = map text (packets_at gf16_coding s (relayed_pairs s ds))

-- the end: Done exactly where every layer of every group is shown, and else Incomplete
abbrev pub relayed_end : Session → List (List ℕ) → RelayEnd
relayed_end s ds =
    if all_shown s (met_in s.number ds) then Done (length ds) (length (relayed_datagrams s ds))
    else Incomplete (length ds) (length (relayed_datagrams s ds))

-- TO has exactly what the rule sends, arrival by arrival; and the link, where FROM is one, receives at its address
pub record RelaysSession (s : Session) (from to : Way) (ds : List (List ℕ)) (before after : OutsideSeen)
    (end : RelayEnd) : Type 0 where
  pub sent : SentTo to (relayed_datagrams s ds) (routes_of before) (routes_of after)
  pub listens : IsBoundTo from before.link after.link
  pub ended : end ≡ relayed_end s ds
  pub printed : PrintedPort from before after

-- so it is for every session and every such FROM
abbrev pub CompletesRelay : Way → List ℕ → Way → OutsideSeen → OutsideSeen → RelayEnd → Type 0
CompletesRelay from session to before after end =
    (s : Session) (files : Files) (ds : List (List ℕ)) → session ≡ s.number
    → CanRelay s from to files ds before after end → RelaysSession s from to ds before after end
