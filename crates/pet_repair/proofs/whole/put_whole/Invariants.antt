use Rattle.std.proofs.Common.{◌≤◌, ◌-◌}
use Rattle.field_elements.specs.Gf16.{gf16_coding}
use Rattle.packet_rebuild.specs.MadeRange.{IsMadeRange}
use Rattle.outside_routes.specs.Sending.{routes, Sends}
use Rattle.outside_routes.specs.Way.{way_of}
use Rattle.outside_routes.specs.laws.SendingLaws.{GrowsCalmly}
use Rattle.pet_repair.specs.inside.Groups.{range_datagrams}
use Rattle.pet_repair.proofs.whole.put_whole.Given as goal

abbrev pub invariant-loop-first : goal.invariant-loop-first
invariant-loop-first g l = record {
  within : l.first ≤ l.encoder.header.table.packets;
  made : IsMadeRange gf16_coding l.encoder l.made;
  sends : Sends (way_of l.to) (range_datagrams l.encoder 0 l.first)
      (routes g.P.Place g.K.Link l.initial.place l.initial.link) (routes g.P.Place g.K.Link l.place l.link);
  calm : GrowsCalmly (routes g.P.Place g.K.Link l.initial.place l.initial.link)
      (routes g.P.Place g.K.Link l.place l.link);
}

abbrev pub decreases-loop-first : goal.decreases-loop-first
decreases-loop-first g l = l.packets - l.first
