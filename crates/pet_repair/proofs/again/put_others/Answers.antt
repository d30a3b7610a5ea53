use Rattle.std.proofs.Common.{◌≡◌, ◌+◌, map, refl, subst, ap, ◌∙◌, arith}
use Rattle.pet_base.specs.laws.Through.{on_any_err}
use Rattle.field_elements.specs.Gf16.{gf16_coding}
use Rattle.packet_frame.specs.Frame.{text}
use Rattle.packet_frame.specs.declared.frame.Header.{Header}
use Rattle.outside_routes.specs.Sending.{routes, SendsPart}
use Rattle.outside_routes.specs.Way.{way_of}
use Rattle.outside_routes.specs.laws.SendingLaws.{part_nothing, calm_same, calm_then, grows_open}
use Rattle.packet_rebuild.specs.Repairs.{made_again}
use Rattle.pet_receive.specs.Arrivals.{kept_set}
use Rattle.pet_repair.specs.inside.Arrivals.{SendsAgain}
use Rattle.pet_repair.proofs.AgainSent.{again_none, again_then, again_part}
use Rattle.pet_repair.proofs.again.put_others.Goals as goal

pub loop-first-init : goal.loop-first-init
loop-first-init g c =
    let r = routes g.P.Place g.K.Link c.args.place.now c.args.link.now in
    record {
      within = omega arith;
      made = c.requires.made;
      again = again_none (way_of c.args.to) c.args.encoder.now c.args.receiver.now 0 r;
      opened = c.requires.opened;
      calm = calm_same r;
    }

pub returns-in_err-make_range-clause-part : goal.returns-in_err-make_range-clause-part
returns-in_err-make_range-clause-part g c =
    let e = c.args.encoder.now in
    let mid = kept_set c.loop-first.receiver in
    let before = routes g.P.Place g.K.Link c.loop-first.place c.loop-first.link in
    on_any_err c.from_residual.result
    (again_part (way_of c.args.to) e c.args.receiver.now c.loop-first.receiver 0 c.loop-first.first c.loop-first.first 0
    e.header.table.packets (routes g.P.Place g.K.Link c.args.place.now c.args.link.now) before before
    c.loop-first.invariant.calm.others.place.target c.loop-first.invariant.again (omega arith)
    (omega (arith, c.loop-first.invariant.within))
    (part_nothing (way_of c.args.to) (map text (made_again gf16_coding mid e c.loop-first.first 0)) before before refl
    refl))

pub put_others_of-requires-clause-open : goal.put_others_of-requires-clause-open
put_others_of-requires-clause-open g c =
    grows_open (way_of c.args.to) (routes g.P.Place g.K.Link c.args.place.now c.args.link.now)
    (routes g.P.Place g.K.Link c.loop-first.place c.loop-first.link) c.loop-first.invariant.calm.others c.requires.open

pub returns-in_err-put_others_of-clause-part : goal.returns-in_err-put_others_of-clause-part
returns-in_err-put_others_of-clause-part g c =
    let e = c.args.encoder.now in
    let before = routes g.P.Place g.K.Link c.loop-first.place c.loop-first.link in
    let after = routes g.P.Place g.K.Link c.put_others_of.new.place c.put_others_of.new.link in
    on_any_err c.from_residual-in_err-put_others_of.result
    (again_part (way_of c.args.to) e c.args.receiver.now c.loop-first.receiver 0
    c.loop-first.first c.loop-first.first c.next_count-count.result e.header.table.packets
    (routes g.P.Place g.K.Link c.args.place.now c.args.link.now)
    (routes g.P.Place g.K.Link c.loop-first.place c.loop-first.link)
    (routes g.P.Place g.K.Link c.put_others_of.new.place c.put_others_of.new.link)
    c.loop-first.invariant.calm.others.place.target c.loop-first.invariant.again (omega arith)
    c.next_count-count.ensures.within
    (subst (λ n. SendsPart (way_of c.args.to)
    (map text (made_again gf16_coding (kept_set c.loop-first.receiver) e n c.next_count-count.result)) before after)
    c.in_ok-make_range.ensures.first
    (subst (λ n. SendsPart (way_of c.args.to)
    (map text (made_again gf16_coding (kept_set c.loop-first.receiver) e c.make_range.new.made.first n)) before after)
    c.in_ok-make_range.ensures.count c.in_err-put_others_of.ensures.part)))

pub loop-first-preserved : goal.loop-first-preserved
loop-first-preserved g c =
    let e = c.args.encoder.now in
    let first = routes g.P.Place g.K.Link c.args.place.now c.args.link.now in
    let before = routes g.P.Place g.K.Link c.loop-first.place c.loop-first.link in
    let after = routes g.P.Place g.K.Link c.put_others_of.new.place c.put_others_of.new.link in
    let told = c.in_ok-put_others_of.ensures.told.grows in
    record {
      within = c.next_count-count.ensures.within;
      made = c.in_ok-make_range.ensures.made;
      again =
          again_then (way_of c.args.to) e c.args.receiver.now c.loop-first.receiver
          c.put_others_of.new.receiver 0 c.loop-first.first c.loop-first.first c.next_count-count.result
          (c.loop-first.first + c.next_count-count.result) first before after
          c.loop-first.invariant.calm.others.place.target c.loop-first.invariant.again (omega arith)
          (subst (λ n. SendsAgain (way_of c.args.to) c.loop-first.receiver e n c.next_count-count.result
          c.put_others_of.new.receiver before after) c.in_ok-make_range.ensures.first
          (subst (λ n. SendsAgain (way_of c.args.to) c.loop-first.receiver e c.make_range.new.made.first n
          c.put_others_of.new.receiver before after) c.in_ok-make_range.ensures.count
          c.in_ok-put_others_of.ensures.again)) refl;
      opened = c.in_ok-put_others_of.ensures.opened;
      calm = calm_then first before after c.loop-first.invariant.calm told.others told.once_place told.once_link;
    }

pub returns-clause-again : goal.returns-clause-again
returns-clause-again g c =
    let packets = c.packets-packets.ensures.value ∙ ap (λ (h : Header). h.table.packets) c.header.ensures.value in
    let all : c.loop-first.first ≡ c.args.encoder.now.header.table.packets =
    omega (arith, packets, c.loop-first.invariant.within) in
    subst (λ n. SendsAgain (way_of c.args.to) c.args.receiver.now c.args.encoder.now 0 n c.loop-first.receiver
    (routes g.P.Place g.K.Link c.args.place.now c.args.link.now)
    (routes g.P.Place g.K.Link c.loop-first.place c.loop-first.link)) all c.loop-first.invariant.again
