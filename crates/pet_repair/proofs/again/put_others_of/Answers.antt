use Rattle.std.proofs.Common.{◌≡◌, ◌+◌, ◌≤◌, refl, subst, arith}
use Rattle.pet_base.specs.laws.Through.{on_any_err}
use Rattle.outside_routes.specs.Sending.{routes}
use Rattle.outside_routes.specs.Way.{way_of}
use Rattle.outside_routes.specs.laws.SendingLaws.{calm_same, calm_then, grows_open}
use Rattle.pet_repair.specs.inside.Arrivals.{SendsAgain}
use Rattle.pet_repair.proofs.AgainSent.{again_none, again_then, again_part}
use Rattle.pet_repair.proofs.again.put_others_of.Goals as goal

pub loop-p-init : goal.loop-p-init
loop-p-init g c =
    let r = routes g.P.Place g.K.Link c.args.place.now c.args.link.now in
    record {
      again = again_none (way_of c.args.to) c.args.encoder.now c.args.receiver.now c.args.made.now.first r;
      opened = c.requires.opened;
      calm = calm_same r;
    }

pub put_other-requires-clause-open : goal.put_other-requires-clause-open
put_other-requires-clause-open g c =
    grows_open (way_of c.args.to) (routes g.P.Place g.K.Link c.args.place.now c.args.link.now)
    (routes g.P.Place g.K.Link c.loop-p.place c.loop-p.link) c.loop-p.invariant.calm.others c.requires.open

pub returns-in_err-put_other-clause-part : goal.returns-in_err-put_other-clause-part
returns-in_err-put_other-clause-part g c =
    let le : c.loop-p.p + 1 ≤ c.args.made.now.count = omega arith in
    on_any_err c.from_residual.result
    (again_part (way_of c.args.to) c.args.encoder.now c.args.receiver.now c.loop-p.receiver
    c.args.made.now.first c.loop-p.p (c.args.made.now.first + c.loop-p.p) 1 c.args.made.now.count
    (routes g.P.Place g.K.Link c.args.place.now c.args.link.now)
    (routes g.P.Place g.K.Link c.loop-p.place c.loop-p.link)
    (routes g.P.Place g.K.Link c.put_other.new.place c.put_other.new.link)
    c.loop-p.invariant.calm.others.place.target c.loop-p.invariant.again refl le c.in_err-put_other.ensures.part)

pub loop-p-preserved : goal.loop-p-preserved
loop-p-preserved g c =
    let first = routes g.P.Place g.K.Link c.args.place.now c.args.link.now in
    let before = routes g.P.Place g.K.Link c.loop-p.place c.loop-p.link in
    let after = routes g.P.Place g.K.Link c.put_other.new.place c.put_other.new.link in
    let told = c.in_ok-put_other.ensures.told.grows in
    record {
      again =
          again_then (way_of c.args.to) c.args.encoder.now c.args.receiver.now
          c.loop-p.receiver c.put_other.new.receiver c.args.made.now.first c.loop-p.p
          (c.args.made.now.first + c.loop-p.p) 1 (c.loop-p.p + 1) first before after
          c.loop-p.invariant.calm.others.place.target c.loop-p.invariant.again refl c.in_ok-put_other.ensures.again
          refl;
      opened = c.in_ok-put_other.ensures.opened;
      calm = calm_then first before after c.loop-p.invariant.calm told.others told.once_place told.once_link;
    }

pub returns-clause-again : goal.returns-clause-again
returns-clause-again g c =
    let all : c.loop-p.p ≡ c.args.made.now.count = omega arith in
    subst (λ n. SendsAgain (way_of c.args.to) c.args.receiver.now c.args.encoder.now c.args.made.now.first n
    c.loop-p.receiver (routes g.P.Place g.K.Link c.args.place.now c.args.link.now)
    (routes g.P.Place g.K.Link c.loop-p.place c.loop-p.link)) all c.loop-p.invariant.again
