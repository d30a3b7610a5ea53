use Rattle.std.proofs.Common.{◌≡◌, ◌≤◌, ◌+◌, ◌-◌, ◌*◌, length}
use Rattle.stripe_plan.specs.Layers.{needs_of}
use Rattle.outside_routes.specs.Sending.{routes, Sends}
use Rattle.outside_routes.specs.Way.{way_of}
use Rattle.outside_routes.specs.laws.SendingLaws.{GrowsCalmly}
use Rattle.packet_session.specs.Datagrams.{first_datagrams_in}
use Rattle.packet_sending.proofs.group.put_group.Given as goal

abbrev pub invariant-loop-first : goal.invariant-loop-first
invariant-loop-first g l = record {
  within : l.first ≤ l.packets;
  sends : Sends (way_of l.to) (first_datagrams_in l.encoder.format g.F.Field.coding l.encoder.encoding l.first)
      (routes g.P.Place g.K.Link l.initial.place l.initial.link) (routes g.P.Place g.K.Link l.place l.link);
  calm : GrowsCalmly (routes g.P.Place g.K.Link l.initial.place l.initial.link)
      (routes g.P.Place g.K.Link l.place l.link);
  cost : l.steps ≤ l.initial.steps + l.first * length (needs_of l.encoder.encoding.header.table.layers);
}

abbrev pub decreases-loop-first : goal.decreases-loop-first
decreases-loop-first g l = l.packets - l.first
