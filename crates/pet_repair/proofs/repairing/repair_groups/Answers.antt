use Rattle.std.proofs.Common.{◌+◌, ◌<◌, refl, ap, arith, rules, ◌∙◌}
use Rattle.outside_routes.specs.Sending.{routes}
use Rattle.outside_routes.specs.Way.{way_of}
use Rattle.outside_routes.specs.laws.SendingLaws.{calm_same, calm_then, grows_open}
use Rattle.std.specs.Prelude.{unwrap_or}
use Rattle.pet_receive.specs.Arrivals.{kept_set}
use Rattle.pet_repair.specs.inside.Groups.{StopsInGroups}
use Rattle.pet_repair.proofs.RepairEnds.{repair_end_is}
use Rattle.pet_repair.proofs.SentGroups.{groups_none, groups_more, stops_more, told_few}
use Rattle.pet_repair.proofs.repairing.repair_groups.Goals as goal

pub loop-group-init : goal.loop-group-init
loop-group-init g c =
    let r = routes g.P.Place g.K.Link c.args.place.now c.args.link.now in
    record {
      sends = groups_none (way_of c.args.to) c.args.receiver.now _ r refl refl;
      few = omega arith;
      short = omega arith;
      calm = calm_same r;
    }

pub repair_group-requires-clause-open : goal.repair_group-requires-clause-open
repair_group-requires-clause-open g c =
    grows_open (way_of c.args.to) (routes g.P.Place g.K.Link c.args.place.now c.args.link.now)
    (routes g.P.Place g.K.Link c.loop-group.place c.loop-group.link) c.loop-group.invariant.calm.others c.requires.open

pub returns-in_err-more-clause-stop : goal.returns-in_err-more-clause-stop
returns-in_err-more-clause-stop g c =
    let way = way_of c.args.to in
    let old = routes g.P.Place g.K.Link c.args.place.now c.args.link.now in
    let before = routes g.P.Place g.K.Link c.loop-group.place c.loop-group.link in
    let now = routes g.P.Place g.K.Link c.repair_group.new.place c.repair_group.new.link in
    repair_end_is (StopsInGroups way c.args.receiver.now old now) c.from_residual.result c.in_err-more.field-0.0
    c.from_residual.ensures.1
    (stops_more way c.args.receiver.now c.loop-group.group c.loop-group.done old before now c.in_err-more.field-0.0
    c.loop-group.invariant.calm.others c.loop-group.invariant.sends c.in_err-more.ensures.stop)

pub loop-group-preserved : goal.loop-group-preserved
loop-group-preserved g c =
    let way = way_of c.args.to in
    let old = routes g.P.Place g.K.Link c.args.place.now c.args.link.now in
    let before = routes g.P.Place g.K.Link c.loop-group.place c.loop-group.link in
    let now = routes g.P.Place g.K.Link c.repair_group.new.place c.repair_group.new.link in
    let held = c.loop-group.invariant in
    let one = c.in_ok-more.ensures in
    record {
      sends =
          groups_more way c.args.receiver.now c.loop-group.group c.loop-group.done c.in_ok-more.more _ old before now
          held.calm.others held.sends one.done refl refl;
      few = omega (arith, held.few, one.few.0);
      short = omega (arith, held.short, one.few.1);
      calm = calm_then old before now held.calm one.told.others one.told.once_place one.told.once_link;
    }

pub overflow_add-done-in-loop-group : goal.overflow_add-done-in-loop-group
overflow_add-done-in-loop-group g c =
    let few = told_few (kept_set c.args.receiver.now) c.groups.ensures.sound in
    let low : c.loop-group.group < 65535 =
    omega (arith, few, c.unwrap_or-groups.ensures, ap (λ o. unwrap_or o 0) c.groups.ensures.value) in
    let room : c.loop-group.done.datagrams + c.in_ok-more.more.datagrams < 4294967296 =
    omega (arith, low, c.loop-group.invariant.short, c.in_ok-more.ensures.few.1) in
    search rules
