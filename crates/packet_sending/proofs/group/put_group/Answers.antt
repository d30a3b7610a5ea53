use Rattle.std.proofs.Common.{◌≡◌, ◌+◌, ◌*◌, ◌≤◌, length, refl, ap, arith, ◌∙◌}
use Rattle.std.proofs.lemmas.Nat.{mul-le}
use Rattle.pet_base.specs.laws.Through.{on_any_err}
use Rattle.packet_frame.specs.declared.frame.Header.{Header}
use Rattle.stripe_plan.specs.Layers.{needs_of}
use Rattle.outside_routes.specs.Sending.{routes}
use Rattle.outside_routes.specs.Way.{way_of}
use Rattle.outside_routes.specs.laws.SendingLaws.{sends_nothing, calm_same, calm_then}
use Rattle.packet_sending.specs.laws.DatagramLaws.{sends_range, part_range}
use Rattle.packet_sending.proofs.group.put_group.Goals as goal

pub loop-first-init : goal.loop-first-init
loop-first-init g c =
    let r = routes g.P.Place g.K.Link c.args.place.now c.args.link.now in
    record {
      within = omega arith;
      sends = sends_nothing (way_of c.args.to) r r refl refl;
      calm = calm_same r;
      cost = omega arith;
    }

pub returns-in_err-put_range-clause-part : goal.returns-in_err-put_range-clause-part
returns-in_err-put_range-clause-part g c =
    let e = c.args.encoder.now.encoding in
    let packets : c.packets-packets.result ≡ e.header.table.packets =
    c.packets-packets.ensures.value ∙ ap (λ (h : Header). h.table.packets) c.header.ensures.value in
    let within : c.loop-first.first + c.min-count.result ≤ e.header.table.packets =
    omega (arith, c.min-count.ensures, c.from.ensures, c.loop-first.invariant.within, packets) in
    on_any_err c.from_residual.result
    (part_range c.args.encoder.now.format g.F.Field.coding (way_of c.args.to) e c.loop-first.first c.min-count.result e.header.table.packets
    (routes g.P.Place g.K.Link c.args.place.now c.args.link.now)
    (routes g.P.Place g.K.Link c.loop-first.place c.loop-first.link)
    (routes g.P.Place g.K.Link c.put_range.new.place c.put_range.new.link)
    within c.loop-first.invariant.calm.others.place.target c.loop-first.invariant.sends c.in_err-put_range.ensures.part)

pub returns-in_err-put_range-clause-cost : goal.returns-in_err-put_range-clause-cost
returns-in_err-put_range-clause-cost g c =
    let e = c.args.encoder.now.encoding in
    let words = length (needs_of e.header.table.layers) in
    let packets : c.packets-packets.result ≡ e.header.table.packets =
    c.packets-packets.ensures.value ∙ ap (λ (h : Header). h.table.packets) c.header.ensures.value in
    let within : c.loop-first.first + c.min-count.result ≤ e.header.table.packets =
    omega (arith, c.min-count.ensures, c.from.ensures, c.loop-first.invariant.within, packets) in
    let more : c.put_range.new.steps ≤ c.args.steps.now + (c.loop-first.first + c.min-count.result) * words =
    omega (arith, c.loop-first.invariant.cost, c.put_range.ensures.cost) in
    omega (
      arith,
      more,
      mul-le (c.loop-first.first + c.min-count.result) words e.header.table.packets words within (omega arith),
    )

pub loop-first-preserved : goal.loop-first-preserved
loop-first-preserved g c =
    let e = c.args.encoder.now.encoding in
    let first = routes g.P.Place g.K.Link c.args.place.now c.args.link.now in
    let before = routes g.P.Place g.K.Link c.loop-first.place c.loop-first.link in
    let after = routes g.P.Place g.K.Link c.put_range.new.place c.put_range.new.link in
    let told = c.in_ok-put_range.ensures.told.grows in
    record {
      within = omega (arith, c.min-count.ensures, c.from.ensures, c.loop-first.invariant.within);
      sends =
          sends_range c.args.encoder.now.format g.F.Field.coding (way_of c.args.to) e c.loop-first.first c.min-count.result first before after
          c.loop-first.invariant.calm.others.place.target c.loop-first.invariant.sends c.in_ok-put_range.ensures.sends;
      calm = calm_then first before after c.loop-first.invariant.calm told.others told.once_place told.once_link;
      cost = omega (arith, c.loop-first.invariant.cost, c.put_range.ensures.cost);
    }
