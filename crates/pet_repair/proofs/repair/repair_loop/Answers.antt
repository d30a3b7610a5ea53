use Rattle.std.proofs.Common.{subst}
use Rattle.outside_routes.specs.Sending.{routes}
use Rattle.outside_routes.specs.Way.{Way}
use Rattle.pet_repair.specs.Repairs.{Repairs}
use Rattle.pet_repair.specs.SentTo.{KeepsLinkTo, way_at}
use Rattle.pet_repair.specs.declared.repair.RepairEnd.TheVariants.{Done}
use Rattle.pet_repair.specs.laws.SessionRepaired.{completes_repair}
use Rattle.pet_repair.proofs.repair.repair_loop.Goals as goal

pub returns-in-Ok-clause-repairs : goal.returns-in-Ok-clause-repairs
returns-in-Ok-clause-repairs g c =
    subst (λ (way : Way). Repairs c.args.store.now way (routes g.P.Place g.K.Link c.args.place.now c.args.link.now)
    (routes g.P.Place g.K.Link c.repair_store.new.place c.repair_store.new.link)
    (Done c.in-Ok.repaired.groups c.in-Ok.repaired.datagrams)) c.route_at.ensures c.in-Ok.ensures.done

pub returns-in-Ok-clause-completes : goal.returns-in-Ok-clause-completes
returns-in-Ok-clause-completes g c =
    completes_repair c.args.store.now (way_at c.args.to_udp c.args.to.now)
    (routes g.P.Place g.K.Link c.args.place.now c.args.link.now)
    (routes g.P.Place g.K.Link c.repair_store.new.place c.repair_store.new.link)
    (Done c.in-Ok.repaired.groups c.in-Ok.repaired.datagrams) (returns-in-Ok-clause-repairs g c)

pub returns-in-Err-clause-repairs : goal.returns-in-Err-clause-repairs
returns-in-Err-clause-repairs g c =
    subst (λ (way : Way). Repairs c.args.store.now way (routes g.P.Place g.K.Link c.args.place.now c.args.link.now)
    (routes g.P.Place g.K.Link c.repair_store.new.place c.repair_store.new.link) c.in-Err.end)
    c.route_at.ensures c.in-Err.ensures.stop

pub returns-in-Err-clause-completes : goal.returns-in-Err-clause-completes
returns-in-Err-clause-completes g c =
    completes_repair c.args.store.now (way_at c.args.to_udp c.args.to.now)
    (routes g.P.Place g.K.Link c.args.place.now c.args.link.now)
    (routes g.P.Place g.K.Link c.repair_store.new.place c.repair_store.new.link) c.in-Err.end
    (returns-in-Err-clause-repairs g c)

pub returns-in-Ok-clause-kept : goal.returns-in-Ok-clause-kept
returns-in-Ok-clause-kept g c =
    subst (λ (way : Way). KeepsLinkTo way (g.K.Link.seen c.args.link.now) (g.K.Link.seen c.repair_store.new.link))
    c.route_at.ensures c.repair_store.ensures.kept

pub returns-in-Err-clause-kept : goal.returns-in-Err-clause-kept
returns-in-Err-clause-kept g c =
    subst (λ (way : Way). KeepsLinkTo way (g.K.Link.seen c.args.link.now) (g.K.Link.seen c.repair_store.new.link))
    c.route_at.ensures c.repair_store.ensures.kept
