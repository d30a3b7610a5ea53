use Rattle.std.proofs.Common.{◌≡◌, ◌≤◌}
use Rattle.pet_base.specs.Seen.{KeepsNames}
use Rattle.outside_routes.specs.Way.{way_of}
use Rattle.outside_routes.specs.Coming.{coming, HasInput}
use Rattle.packet_receiver.specs.Arrivals.{kept_set}
use Rattle.packet_reading.specs.inside.SoFar.{CanRead, SoFar}
use Rattle.packet_reading.specs.Begun.{LinkReceives}
use Rattle.packet_reading.proofs.reading.receive_all.Given as goal

abbrev pub invariant-loop-turn : goal.invariant-loop-turn
invariant-loop-turn g l = record {
  so_far : SoFar l.initial.receiver.format g.F.Field.is_element g.F.Field.coding (kept_set l.initial.receiver) l.turn (g.P.Place.seen l.initial.place) (g.P.Place.seen l.place)
      (coming (way_of l.from) (g.P.Place.seen l.initial.place) (g.K.Link.seen l.initial.link))
      (coming (way_of l.from) (g.P.Place.seen l.place) (g.K.Link.seen l.link)) l.receiver l.initial.steps l.steps;
  ready : CanRead g.F.Field.coding l.receiver;
  format : l.receiver.format ≡ l.initial.receiver.format;
  input : HasInput (way_of l.from) (g.P.Place.seen l.place);
  calm_place : (g.P.Place.seen l.place).faults ≡ (g.P.Place.seen l.initial.place).faults;
  calm_link : (g.K.Link.seen l.link).faults ≡ (g.K.Link.seen l.initial.link).faults;
  place_later : (g.P.Place.seen l.initial.place).faults ≤ (g.P.Place.seen l.place).faults;
  link_later : (g.K.Link.seen l.initial.link).faults ≤ (g.K.Link.seen l.link).faults;
  names : KeepsNames (g.P.Place.seen l.initial.place) (g.P.Place.seen l.place);
  receives : LinkReceives (way_of l.from) (g.K.Link.seen l.initial.link) (g.K.Link.seen l.link);
}
