use Rattle.outside_routes.specs.Sending.{routes, Sends}
use Rattle.outside_routes.specs.Way.{way_of}
use Rattle.outside_routes.specs.laws.SendingLaws.{GrowsCalmly}
use Rattle.pet_repair.specs.inside.Groups.{range_datagrams}
use Rattle.pet_repair.proofs.whole.put_range.Given as goal

abbrev pub invariant-loop-p : goal.invariant-loop-p
invariant-loop-p g l = record {
  sends : Sends (way_of l.to) (range_datagrams l.encoder l.made.first l.p)
      (routes g.P.Place g.K.Link l.initial.place l.initial.link) (routes g.P.Place g.K.Link l.place l.link);
  calm : GrowsCalmly (routes g.P.Place g.K.Link l.initial.place l.initial.link)
      (routes g.P.Place g.K.Link l.place l.link);
}
