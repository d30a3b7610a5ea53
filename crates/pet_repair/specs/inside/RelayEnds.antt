-- What a relaying comes to, and the end that it makes. This project's own.
use Rattle.std.specs.Prelude.{◌≡◌, ◌≢◌, ◌↔◌, ℕ, List, IsTrue, true, false}
use Rattle.pet_base.specs.declared.limits.TheConstants.{MAX_DATAGRAMS}
use Rattle.pet_base.specs.OutsideSeen.{OutsideSeen}
use Rattle.outside_routes.specs.declared.fault.RouteStop.TheVariants as stop
use Rattle.outside_routes.specs.Way.{Way}
use Rattle.packet_reading.specs.Begun.{OnlyOpens}
use Rattle.packet_reading.specs.Opened.{IsUntouched}
use Rattle.pet_receive.specs.Arrivals.{kept_set}
use Rattle.pet_receive.specs.ShownBytes.{IsComplete}
use Rattle.pet_repair.specs.Relays.{Relays, AreCounts}
use Rattle.pet_repair.specs.declared.arriving.RelayStop.{RelayStop}
use Rattle.pet_repair.specs.declared.arriving.RelayStop.TheVariants as relay
use Rattle.pet_repair.specs.declared.relay.RelayEnd.{RelayEnd}
use Rattle.pet_repair.specs.declared.relay.RelayEnd.TheVariants.{Done, NoMemory, PlaceFault, LinkFault, OutFault}
use Rattle.pet_repair.specs.declared.relay.RelayEnd.TheVariants.{Incomplete, TurnsSpent, Unlike}
use Rattle.pet_repair.specs.declared.relaying.Relaying.{Relaying}

-- whether or not FROM is begun: no file has changed, and no datagram has left the link or was sent
pub record OnlyBegins (from : Way) (before after : OutsideSeen) : Type 0 where
  pub untouched : IsUntouched from before after
  pub others : OnlyOpens from before after

-- the numbers are those of the datagrams that were relayed, and it is told whether every layer is shown
pub record IsRelayingOf {from : Way} {session : List ℕ} {to : Way} {before after : OutsideSeen}
    (r : Relays from session to before after) (relaying : Relaying) : Type 0 where
  pub counts : AreCounts r relaying.read relaying.sent
  pub complete : IsTrue relaying.complete ↔ IsComplete (kept_set r.relayed.now)

-- the end that it makes
abbrev pub IsEndOf : Relaying → RelayEnd → Type 0
IsEndOf relaying (Done read sent) =
    (read ≡ relaying.read) × (sent ≡ relaying.sent) × (relaying.read ≢ MAX_DATAGRAMS) × (relaying.complete ≡ true)
IsEndOf relaying (Incomplete read sent) =
    (read ≡ relaying.read) × (sent ≡ relaying.sent) × (relaying.read ≢ MAX_DATAGRAMS) × (relaying.complete ≡ false)
IsEndOf relaying (TurnsSpent read sent) =
    (read ≡ relaying.read) × (sent ≡ relaying.sent) × (relaying.read ≡ MAX_DATAGRAMS)
IsEndOf relaying NoMemory = ⊥
IsEndOf relaying PlaceFault = ⊥
IsEndOf relaying LinkFault = ⊥
IsEndOf relaying OutFault = ⊥
IsEndOf relaying (Unlike group number) = ⊥

-- the end of a relay that stops early
abbrev pub end_of_relay : RelayStop → RelayEnd
end_of_relay (relay.Route stop.NoMemory) = NoMemory
end_of_relay (relay.Route stop.Place) = PlaceFault
end_of_relay (relay.Route stop.Link) = LinkFault
end_of_relay (relay.Route stop.Out) = OutFault
end_of_relay (relay.Unlike group number) = Unlike group number
