use Rattle.std.proofs.Common.{◌≤◌, ◌-◌}
use Rattle.field_elements.specs.Gf16.{gf16_coding}
use Rattle.packet_rebuild.specs.MadeRange.{IsMadeRange}
use Rattle.outside_routes.specs.Sending.{routes}
use Rattle.outside_routes.specs.Way.{way_of}
use Rattle.outside_routes.specs.laws.SendingLaws.{GrowsCalmly}
use Rattle.pet_receive.specs.Arrivals.{kept_set}
use Rattle.packet_rebuild.specs.Rebuilding.{IsOpenFor}
use Rattle.pet_repair.specs.inside.Arrivals.{SendsAgain}
use Rattle.pet_repair.proofs.again.put_others.Given as goal

abbrev pub invariant-loop-first : goal.invariant-loop-first
invariant-loop-first g l = record {
  within : l.first ≤ l.encoder.header.table.packets;
  made : IsMadeRange gf16_coding l.encoder l.made;
  again : SendsAgain (way_of l.to) l.initial.receiver l.encoder 0 l.first l.receiver
      (routes g.P.Place g.K.Link l.initial.place l.initial.link) (routes g.P.Place g.K.Link l.place l.link);
  opened : IsOpenFor (kept_set l.receiver) l.encoder;
  calm : GrowsCalmly (routes g.P.Place g.K.Link l.initial.place l.initial.link)
      (routes g.P.Place g.K.Link l.place l.link);
}

abbrev pub decreases-loop-first : goal.decreases-loop-first
decreases-loop-first g l = l.packets - l.first
