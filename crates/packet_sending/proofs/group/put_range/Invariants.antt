use Rattle.std.proofs.Common.{◌≡◌, ◌*◌}
use Rattle.outside_routes.specs.Sending.{routes, Sends}
use Rattle.outside_routes.specs.Way.{way_of}
use Rattle.outside_routes.specs.laws.SendingLaws.{GrowsCalmly}
use Rattle.packet_session.specs.Datagrams.{range_datagrams_in}
use Rattle.packet_sending.proofs.group.put_range.Given as goal

abbrev pub invariant-loop : goal.invariant-loop
invariant-loop g l = record {
  place : l.at ≡ l.counter * l.length;
  sends : Sends (way_of l.to) (range_datagrams_in l.encoder.format g.F.Field.coding l.encoder.encoding l.first l.counter)
      (routes g.P.Place g.K.Link l.initial.place l.initial.link) (routes g.P.Place g.K.Link l.place l.link);
  calm : GrowsCalmly (routes g.P.Place g.K.Link l.initial.place l.initial.link)
      (routes g.P.Place g.K.Link l.place l.link);
}
