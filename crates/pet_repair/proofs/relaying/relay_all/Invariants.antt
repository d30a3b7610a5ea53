use Rattle.std.proofs.Common.{◌≡◌}
use Rattle.outside_routes.specs.Coming.{HasInput}
use Rattle.outside_routes.specs.Sending.{routes, IsOpen}
use Rattle.outside_routes.specs.Way.{way_of}
use Rattle.pet_repair.specs.Relays.{KeepsLinkBetween}
use Rattle.pet_repair.specs.inside.RelaySoFar.{IsLater, RelayedSoFar}
use Rattle.pet_repair.proofs.relaying.relay_all.Given as goal

abbrev pub invariant-loop-turn : goal.invariant-loop-turn
invariant-loop-turn g l = record {
  so_far : RelayedSoFar (way_of l.from) (way_of l.to) l.initial.receiver l.turn
      (routes g.P.Place g.K.Link l.initial.place l.initial.link) (routes g.P.Place g.K.Link l.place l.link) l.receiver;
  input : HasInput (way_of l.from) (g.P.Place.seen l.place);
  is_open : IsOpen (way_of l.to) (routes g.P.Place g.K.Link l.place l.link);
  later : IsLater (routes g.P.Place g.K.Link l.initial.place l.initial.link)
      (routes g.P.Place g.K.Link l.place l.link);
  kept : KeepsLinkBetween (way_of l.from) (way_of l.to) (g.K.Link.seen l.initial.link) (g.K.Link.seen l.link);
  calm_place : (g.P.Place.seen l.place).faults ≡ (g.P.Place.seen l.initial.place).faults;
  calm_link : (g.K.Link.seen l.link).faults ≡ (g.K.Link.seen l.initial.link).faults;
}
