use Rattle.std.proofs.Common.{[], ◌∷◌, map, refl, sym, ap, ◌∙◌}
use Rattle.std.specs.Prelude.{is_none}
use Rattle.pet_base.specs.laws.Through.{on_any_err}
use Rattle.field_elements.specs.Gf16.{gf16_coding}
use Rattle.packet_frame.specs.declared.frame.Header.{Header}
use Rattle.packet_frame.specs.Frame.{text}
use Rattle.packet_verdicts.specs.KeptSet.{payload_of}
use Rattle.packet_verdicts.specs.Verdicts.{is_kept}
use Rattle.pet_receive.specs.Arrivals.{kept_set}
use Rattle.packet_rebuild.specs.Repairs.{made_again}
use Rattle.packet_rebuild.specs.laws.RebuiltLaws.{open_then, verdict_kept, some_kept}
use Rattle.outside_routes.specs.Sending.{routes}
use Rattle.outside_routes.specs.Way.{way_of}
use Rattle.outside_routes.specs.laws.SendingLaws.{part_nothing, part_whole}
use Rattle.pet_repair.proofs.AgainSent.{absent_in, again_had, again_one, part_one, keeps_one}
use Rattle.pet_repair.proofs.again.put_other.Goals as goal

pub returns-then-has-clause-again : goal.returns-then-has-clause-again
returns-then-has-clause-again g c =
    let set = kept_set c.args.receiver.now in
    again_had (way_of c.args.to) c.args.encoder.now c.args.receiver.now c.args.number
    (routes g.P.Place g.K.Link c.args.place.now c.args.link.now)
    (ap (λ (h : Header). is_none (payload_of set h.group c.args.number)) (sym c.header.ensures.value)
    ∙ some_kept (payload_of set c.header.result.now.group c.args.number) (c.has.ensures.0 c.if-has.true))

pub returns-in_err-make_frame-clause-part : goal.returns-in_err-make_frame-clause-part
returns-in_err-make_frame-clause-part g c =
    let r = routes g.P.Place g.K.Link c.args.place.now c.args.link.now in
    on_any_err c.from_residual.result
    (part_nothing (way_of c.args.to)
    (map text (made_again gf16_coding (kept_set c.args.receiver.now) c.args.encoder.now c.args.number 1)) r r refl refl)

pub returns-in_err-put_datagram-clause-part : goal.returns-in_err-put_datagram-clause-part
returns-in_err-put_datagram-clause-part g c =
    let set = kept_set c.args.receiver.now in
    let absent = absent_in c.args.encoder.now set c.args.number c.header.result.now c.has.result
    c.header.ensures.value c.has.ensures.1 c.if-has.false in
    on_any_err c.from_residual-in_err-put_datagram.result
    (part_one (way_of c.args.to) c.args.encoder.now c.args.receiver.now c.args.number c.as_slice-datagram.result.now c.requires.opened
    c.in_ok-make_frame.ensures.ranges absent (c.as_slice-datagram.ensures.value ∙ c.in_ok-make_frame.ensures.frame)
    (routes g.P.Place g.K.Link c.args.place.now c.args.link.now)
    (routes g.P.Place g.K.Link c.put_datagram.new.place c.put_datagram.new.link) c.in_err-put_datagram.ensures.part)

pub returns-in_err-accept-clause-part : goal.returns-in_err-accept-clause-part
returns-in_err-accept-clause-part g c =
    let set = kept_set c.args.receiver.now in
    let absent = absent_in c.args.encoder.now set c.args.number c.header.result.now c.has.result
    c.header.ensures.value c.has.ensures.1 c.if-has.false in
    let old = routes g.P.Place g.K.Link c.args.place.now c.args.link.now in
    let new = routes g.P.Place g.K.Link c.put_datagram.new.place c.put_datagram.new.link in
    on_any_err c.from_residual-in_err-accept.result
    (part_one (way_of c.args.to) c.args.encoder.now c.args.receiver.now c.args.number c.as_slice-datagram.result.now c.requires.opened
    c.in_ok-make_frame.ensures.ranges absent (c.as_slice-datagram.ensures.value ∙ c.in_ok-make_frame.ensures.frame) old new
    (part_whole (way_of c.args.to) (c.as_slice-datagram.result.now ∷ []) old new c.in_ok-put_datagram.ensures.sends))

pub returns-clause-again : goal.returns-clause-again
returns-clause-again g c =
    let r = c.args.receiver.now in
    let d = c.as_slice-datagram.result.now in
    let absent = absent_in c.args.encoder.now (kept_set r) c.args.number c.header.result.now c.has.result
    c.header.ensures.value c.has.ensures.1 c.if-has.false in
    let same = c.as_slice-datagram.ensures.value ∙ c.in_ok-make_frame.ensures.frame in
    let kept = verdict_kept gf16_coding c.args.encoder.now (kept_set r) c.args.number d c.requires.opened
    c.in_ok-make_frame.ensures.ranges absent same in
    again_one (way_of c.args.to) c.args.encoder.now r c.args.number d c.requires.opened
    c.in_ok-make_frame.ensures.ranges absent same c.accept.new.self
    (routes g.P.Place g.K.Link c.args.place.now c.args.link.now)
    (routes g.P.Place g.K.Link c.put_datagram.new.place c.put_datagram.new.link) c.in_ok-accept.ensures.kept
    (keeps_one r c.accept.new.self d (c.in_ok-accept.ensures.order (ap is_kept c.in_ok-accept.ensures.verdict ∙ kept))
    c.accept.ensures.sound) c.in_ok-put_datagram.ensures.sends

pub returns-clause-opened : goal.returns-clause-opened
returns-clause-opened g c =
    let set = kept_set c.args.receiver.now in
    let absent = absent_in c.args.encoder.now set c.args.number c.header.result.now c.has.result
    c.header.ensures.value c.has.ensures.1 c.if-has.false in
    open_then gf16_coding c.args.encoder.now set (kept_set c.accept.new.self) c.args.number c.as_slice-datagram.result.now
    c.requires.opened c.in_ok-make_frame.ensures.ranges absent (c.as_slice-datagram.ensures.value ∙ c.in_ok-make_frame.ensures.frame) c.in_ok-accept.ensures.kept c.accept.ensures.sound
