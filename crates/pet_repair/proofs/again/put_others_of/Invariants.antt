use Rattle.outside_routes.specs.Sending.{routes}
use Rattle.outside_routes.specs.Way.{way_of}
use Rattle.outside_routes.specs.laws.SendingLaws.{GrowsCalmly}
use Rattle.pet_receive.specs.Arrivals.{kept_set}
use Rattle.packet_rebuild.specs.Rebuilding.{IsOpenFor}
use Rattle.pet_repair.specs.inside.Arrivals.{SendsAgain}
use Rattle.pet_repair.proofs.again.put_others_of.Given as goal

abbrev pub invariant-loop-p : goal.invariant-loop-p
invariant-loop-p g l = record {
  again : SendsAgain (way_of l.to) l.initial.receiver l.encoder l.made.first l.p l.receiver
      (routes g.P.Place g.K.Link l.initial.place l.initial.link) (routes g.P.Place g.K.Link l.place l.link);
  opened : IsOpenFor (kept_set l.receiver) l.encoder;
  calm : GrowsCalmly (routes g.P.Place g.K.Link l.initial.place l.initial.link)
      (routes g.P.Place g.K.Link l.place l.link);
}
