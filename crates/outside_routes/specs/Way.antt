-- Where datagrams come from or go to. This project's own.
use Rattle.std.specs.Prelude.{ℕ, Bool, List, if◌then◌else◌}
use Rattle.outside_routes.specs.declared.route.Route.{Route}
use Rattle.outside_routes.specs.declared.route.Route.TheVariants.{File, Udp}

-- a datagram file of this name, or the link at this address
pub data Way : Type 0 where
  OnFile : List ℕ → Way
  OnLink : List ℕ → Way

abbrev pub way_of : Route → Way
way_of (File name) = OnFile name.now
way_of (Udp address) = OnLink address.now

-- an end of a command, by its text: a file of this name, or the link at this address
abbrev pub way_at : Bool → List ℕ → Way
way_at udp name = if udp then OnLink name else OnFile name
