use Rattle.std.proofs.Common.{refl, subst, arith}
use Rattle.pet_base.specs.laws.Through.{on_any_err}
use Rattle.outside_routes.specs.Sending.{routes, Sends, SendsPart}
use Rattle.outside_routes.specs.Way.{way_of}
use Rattle.outside_routes.specs.laws.SendingLaws.{sends_nothing, part_nothing, calm_same, calm_then, grows_open}
use Rattle.pet_repair.specs.inside.Groups.{range_datagrams}
use Rattle.pet_repair.proofs.WholeSent.{sends_range, part_range}
use Rattle.pet_repair.proofs.whole.put_whole.Goals as goal

pub loop-first-init : goal.loop-first-init
loop-first-init g c =
    let r = routes g.P.Place g.K.Link c.args.place.now c.args.link.now in
    record {
      within = omega arith;
      made = c.requires.made;
      sends = sends_nothing (way_of c.args.to) r r refl refl;
      calm = calm_same r;
    }

pub returns-in_err-make_range-clause-part : goal.returns-in_err-make_range-clause-part
returns-in_err-make_range-clause-part g c =
    let e = c.args.encoder.now in
    let before = routes g.P.Place g.K.Link c.loop-first.place c.loop-first.link in
    on_any_err c.from_residual.result
    (part_range (way_of c.args.to) e c.loop-first.first 0 e.header.table.packets
    (routes g.P.Place g.K.Link c.args.place.now c.args.link.now) before before
    (omega (arith, c.loop-first.invariant.within)) c.loop-first.invariant.calm.others.place.target
    c.loop-first.invariant.sends
    (part_nothing (way_of c.args.to) (range_datagrams e c.loop-first.first 0) before before refl refl))

pub put_range-requires-clause-open : goal.put_range-requires-clause-open
put_range-requires-clause-open g c =
    grows_open (way_of c.args.to) (routes g.P.Place g.K.Link c.args.place.now c.args.link.now)
    (routes g.P.Place g.K.Link c.loop-first.place c.loop-first.link) c.loop-first.invariant.calm.others c.requires.open

pub returns-in_err-put_range-clause-part : goal.returns-in_err-put_range-clause-part
returns-in_err-put_range-clause-part g c =
    let e = c.args.encoder.now in
    let before = routes g.P.Place g.K.Link c.loop-first.place c.loop-first.link in
    let after = routes g.P.Place g.K.Link c.put_range.new.place c.put_range.new.link in
    on_any_err c.from_residual-in_err-put_range.result
    (part_range (way_of c.args.to) e c.loop-first.first c.next_count-count.result e.header.table.packets
    (routes g.P.Place g.K.Link c.args.place.now c.args.link.now) before after
    c.next_count-count.ensures.within c.loop-first.invariant.calm.others.place.target c.loop-first.invariant.sends
    (subst (λ n. SendsPart (way_of c.args.to) (range_datagrams e n c.next_count-count.result) before after)
    c.in_ok-make_range.ensures.first
    (subst (λ n. SendsPart (way_of c.args.to) (range_datagrams e c.make_range.new.made.first n) before after)
    c.in_ok-make_range.ensures.count c.in_err-put_range.ensures.part)))

pub loop-first-preserved : goal.loop-first-preserved
loop-first-preserved g c =
    let e = c.args.encoder.now in
    let first = routes g.P.Place g.K.Link c.args.place.now c.args.link.now in
    let before = routes g.P.Place g.K.Link c.loop-first.place c.loop-first.link in
    let after = routes g.P.Place g.K.Link c.put_range.new.place c.put_range.new.link in
    let told = c.in_ok-put_range.ensures.told.grows in
    record {
      within = c.next_count-count.ensures.within;
      made = c.in_ok-make_range.ensures.made;
      sends =
          sends_range (way_of c.args.to) e c.loop-first.first c.next_count-count.result first before after
          c.loop-first.invariant.calm.others.place.target c.loop-first.invariant.sends
          (subst (λ n. Sends (way_of c.args.to) (range_datagrams e n c.next_count-count.result) before after)
          c.in_ok-make_range.ensures.first
          (subst (λ n. Sends (way_of c.args.to) (range_datagrams e c.make_range.new.made.first n) before after)
          c.in_ok-make_range.ensures.count c.in_ok-put_range.ensures.sends));
      calm = calm_then first before after c.loop-first.invariant.calm told.others told.once_place told.once_link;
    }
