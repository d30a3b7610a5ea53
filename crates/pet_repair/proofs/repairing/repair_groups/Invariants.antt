use Rattle.std.proofs.Common.{◌≤◌, ◌*◌}
use Rattle.outside_routes.specs.Sending.{routes}
use Rattle.outside_routes.specs.Way.{way_of}
use Rattle.outside_routes.specs.laws.SendingLaws.{GrowsCalmly}
use Rattle.pet_repair.specs.inside.Groups.{SendsGroups}
use Rattle.pet_repair.proofs.repairing.repair_groups.Given as goal

abbrev pub invariant-loop-group : goal.invariant-loop-group
invariant-loop-group g l = record {
  sends : SendsGroups (way_of l.to) l.receiver l.group l.done
      (routes g.P.Place g.K.Link l.initial.place l.initial.link) (routes g.P.Place g.K.Link l.place l.link);
  few : l.done.groups ≤ l.group;
  short : l.done.datagrams ≤ l.group * 4096;
  calm : GrowsCalmly (routes g.P.Place g.K.Link l.initial.place l.initial.link)
      (routes g.P.Place g.K.Link l.place l.link);
}
