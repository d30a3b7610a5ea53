use Rattle.std.proofs.Common.{◌+◌, ◌-◌, ◌<◌, ◌≤◌, length, take, drop, refl, arith, rules, ◌∙◌}
use Rattle.pet_base.specs.laws.Through.{on_any_err}
use Rattle.outside_routes.specs.Sending.{routes}
use Rattle.outside_routes.specs.Way.{way_of}
use Rattle.outside_routes.specs.laws.SendingLaws.{part_nothing, sends_nothing, calm_same, calm_then}
use Rattle.packet_session.specs.Datagrams.{range_datagrams_in}
use Rattle.packet_sending.specs.laws.DatagramLaws.{sends_packet, part_packet}
use Rattle.packet_sending.proofs.Pieces.{piece_within, piece_is}
use Rattle.packet_sending.proofs.group.put_range.Goals as goal

pub returns-in_err-range-clause-part : goal.returns-in_err-range-clause-part
returns-in_err-range-clause-part g c =
    let r = routes g.P.Place g.K.Link c.args.place.now c.args.link.now in
    on_any_err c.from_residual.result
    (part_nothing (way_of c.args.to) (range_datagrams_in c.args.encoder.now.format g.F.Field.coding c.args.encoder.now.encoding c.args.first c.args.count) r r refl refl)

pub loop-init : goal.loop-init
loop-init g c =
    let r = routes g.P.Place g.K.Link c.args.place.now c.args.link.now in
    record {
      place = omega arith;
      sends = sends_nothing (way_of c.args.to) r r refl refl;
      calm = calm_same r;
    }

pub slice_bounds-put_datagram-end : goal.slice_bounds-put_datagram-end
slice_bounds-put_datagram-end g c =
    let len = c.frame_length-length.result in
    let room : c.loop.at + len ≤ length c.deref.result.now =
    piece_within c.args.encoder.now.format g.F.Field.coding c.requires.format c.requires.bare c.args.encoder.now.encoding c.args.first c.args.count len
    c.in_ok-range.ensures.ranges c.frame_length-length.ensures.value
    _ _ c.deref.result.now c.clear.ensures.items c.in_ok-range.ensures.ok c.deref.ensures.value c.loop.counter
    c.loop.at (omega arith) c.loop.invariant.place in
    search rules

pub returns-in_err-put_datagram-clause-part : goal.returns-in_err-put_datagram-clause-part
returns-in_err-put_datagram-clause-part g c =
    let e = c.args.encoder.now.encoding in
    let len = c.frame_length-length.result in
    let at = c.loop.at in
    let l : c.loop.counter < c.args.count = omega arith in
    let piece =
    piece_is c.args.encoder.now.format g.F.Field.coding c.requires.format c.requires.bare e c.args.first c.args.count len
    c.in_ok-range.ensures.ranges c.frame_length-length.ensures.value
    _ _ c.deref.result.now c.clear.ensures.items c.in_ok-range.ensures.ok c.deref.ensures.value c.loop.counter at
    (at + len - at) l c.loop.invariant.place (omega arith) in
    on_any_err c.from_residual-in_err-put_datagram.result
    (part_packet c.args.encoder.now.format g.F.Field.coding (way_of c.args.to) e c.args.first c.loop.counter c.args.count
    (take (at + len - at) (drop at c.deref.result.now))
    (routes g.P.Place g.K.Link c.args.place.now c.args.link.now) (routes g.P.Place g.K.Link c.loop.place c.loop.link)
    (routes g.P.Place g.K.Link c.put_datagram.new.place c.put_datagram.new.link)
    piece l c.loop.invariant.calm.others.place.target c.loop.invariant.sends c.in_err-put_datagram.ensures.part)

pub loop-preserved : goal.loop-preserved
loop-preserved g c =
    let len = c.frame_length-length.result in
    let at = c.loop.at in
    let first = routes g.P.Place g.K.Link c.args.place.now c.args.link.now in
    let before = routes g.P.Place g.K.Link c.loop.place c.loop.link in
    let after = routes g.P.Place g.K.Link c.put_datagram.new.place c.put_datagram.new.link in
    record {
      place = omega (arith, c.loop.invariant.place);
      sends =
          sends_packet c.args.encoder.now.format g.F.Field.coding (way_of c.args.to) c.args.encoder.now.encoding c.args.first c.loop.counter
          (take (at + len - at) (drop at c.deref.result.now)) first before after
          (piece_is c.args.encoder.now.format g.F.Field.coding c.requires.format c.requires.bare c.args.encoder.now.encoding c.args.first c.args.count len
          c.in_ok-range.ensures.ranges c.frame_length-length.ensures.value
          _ _ c.deref.result.now c.clear.ensures.items c.in_ok-range.ensures.ok c.deref.ensures.value c.loop.counter at
          (at + len - at) (omega arith) c.loop.invariant.place (omega arith))
          c.loop.invariant.calm.others.place.target c.loop.invariant.sends c.in_ok-put_datagram.ensures.sends;
      calm =
          calm_then first before after c.loop.invariant.calm c.put_datagram.ensures.others
          c.in_ok-put_datagram.ensures.once_place c.in_ok-put_datagram.ensures.once_link;
    }
