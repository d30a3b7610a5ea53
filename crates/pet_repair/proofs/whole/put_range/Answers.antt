use Rattle.std.proofs.Common.{◌<◌, refl, arith, ◌∙◌}
use Rattle.pet_base.specs.laws.Through.{on_any_err}
use Rattle.outside_routes.specs.Sending.{routes}
use Rattle.outside_routes.specs.Way.{way_of}
use Rattle.outside_routes.specs.laws.SendingLaws.{sends_nothing, calm_same, calm_then}
use Rattle.pet_repair.proofs.WholeSent.{sends_packet, part_packet, part_so_far}
use Rattle.pet_repair.proofs.whole.put_range.Goals as goal

pub loop-p-init : goal.loop-p-init
loop-p-init g c =
    let r = routes g.P.Place g.K.Link c.args.place.now c.args.link.now in
    record {
      sends = sends_nothing (way_of c.args.to) r r refl refl;
      calm = calm_same r;
    }

pub returns-in_err-make_frame-clause-part : goal.returns-in_err-make_frame-clause-part
returns-in_err-make_frame-clause-part g c =
    on_any_err c.from_residual.result
    (part_so_far (way_of c.args.to) c.args.encoder.now c.args.made.now.first c.loop-p.p c.args.made.now.count
    (routes g.P.Place g.K.Link c.args.place.now c.args.link.now) (routes g.P.Place g.K.Link c.loop-p.place c.loop-p.link)
    (omega arith) c.loop-p.invariant.sends)

pub returns-in_err-put_datagram-clause-part : goal.returns-in_err-put_datagram-clause-part
returns-in_err-put_datagram-clause-part g c =
    let l : c.loop-p.p < c.args.made.now.count = omega arith in
    on_any_err c.from_residual-in_err-put_datagram.result
    (part_packet (way_of c.args.to) c.args.encoder.now c.args.made.now.first c.loop-p.p c.args.made.now.count
    c.deref.result.now
    (routes g.P.Place g.K.Link c.args.place.now c.args.link.now) (routes g.P.Place g.K.Link c.loop-p.place c.loop-p.link)
    (routes g.P.Place g.K.Link c.put_datagram.new.place c.put_datagram.new.link)
    (c.deref.ensures.value ∙ c.in_ok-make_frame.ensures.frame) l c.loop-p.invariant.calm.others.place.target
    c.loop-p.invariant.sends c.in_err-put_datagram.ensures.part)

pub loop-p-preserved : goal.loop-p-preserved
loop-p-preserved g c =
    let first = routes g.P.Place g.K.Link c.args.place.now c.args.link.now in
    let before = routes g.P.Place g.K.Link c.loop-p.place c.loop-p.link in
    let after = routes g.P.Place g.K.Link c.put_datagram.new.place c.put_datagram.new.link in
    record {
      sends =
          sends_packet (way_of c.args.to) c.args.encoder.now c.args.made.now.first c.loop-p.p c.deref.result.now
          first before after (c.deref.ensures.value ∙ c.in_ok-make_frame.ensures.frame)
          c.loop-p.invariant.calm.others.place.target c.loop-p.invariant.sends c.in_ok-put_datagram.ensures.sends;
      calm =
          calm_then first before after c.loop-p.invariant.calm c.put_datagram.ensures.others
          c.in_ok-put_datagram.ensures.once_place c.in_ok-put_datagram.ensures.once_link;
    }
