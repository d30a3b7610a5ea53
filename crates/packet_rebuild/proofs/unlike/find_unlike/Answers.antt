use Rattle.std.proofs.Common.{◌≡◌, ◌+◌, length, refl, sym, ap, ◌∙◌, arith}
use Rattle.stripe_plan.specs.Layers.{needs_of}
use Rattle.packet_frame.specs.declared.frame.Header.{Header}
use Rattle.pet_receive.specs.Arrivals.{kept_set}
use Rattle.packet_rebuild.specs.laws.UnlikeLaws.{unlike_then, unlike_found, none_unlike, not_some}
use Rattle.packet_rebuild.proofs.Pieces.{cost_within, made_none}
use Rattle.packet_rebuild.proofs.unlike.find_unlike.Goals as goal

pub loop-first-init : goal.loop-first-init
loop-first-init g c = record {
  within = omega arith;
  none = refl;
  made =
      made_none g.F.Field.coding c.args.encoder.now c.clear.new.self
      (omega (arith, c.header.ensures.table.few_packets)) c.clear.ensures.first c.clear.ensures.count
      c.clear.ensures.payloads;
  cost = omega arith;
}

pub returns-in_err-found-clause-cost : goal.returns-in_err-found-clause-cost
returns-in_err-found-clause-cost g c =
    let e = c.args.encoder.now in
    cost_within (length (needs_of e.header.table.layers)) (c.loop-first.first + c.next_count-count.result)
    e.header.table.packets c.args.steps.now c.unlike_among.new.steps
    (omega (arith, c.loop-first.invariant.cost, c.unlike_among.ensures.cost)) c.next_count-count.ensures.within

pub returns-then-is_some-clause-least : goal.returns-then-is_some-clause-least
returns-then-is_some-clause-least g c =
    unlike_found g.F.Field.coding (kept_set c.args.receiver.now) c.args.encoder.now c.loop-first.first
    c.next_count-count.result c.in_ok-found.found c.loop-first.invariant.none c.in_ok-found.ensures.least
    (sym c.is_some.ensures ∙ c.if-is_some.true) c.next_count-count.ensures.within

pub returns-then-is_some-clause-cost : goal.returns-then-is_some-clause-cost
returns-then-is_some-clause-cost g c =
    let e = c.args.encoder.now in
    cost_within (length (needs_of e.header.table.layers)) (c.loop-first.first + c.next_count-count.result)
    e.header.table.packets c.args.steps.now c.unlike_among.new.steps
    (omega (arith, c.loop-first.invariant.cost, c.unlike_among.ensures.cost)) c.next_count-count.ensures.within

pub loop-first-preserved : goal.loop-first-preserved
loop-first-preserved g c =
    let e = c.args.encoder.now in
    record {
      within = c.next_count-count.ensures.within;
      none =
          unlike_then g.F.Field.coding (kept_set c.args.receiver.now) e c.loop-first.first c.loop-first.first
          c.next_count-count.result _ c.loop-first.invariant.none refl
          (sym c.in_ok-found.ensures.least ∙ not_some c.in_ok-found.found (sym c.is_some.ensures
          ∙ c.if-is_some.false)) refl;
      made = c.in_ok-found.ensures.made;
      cost = omega (arith, c.loop-first.invariant.cost, c.unlike_among.ensures.cost);
    }

pub returns-clause-least : goal.returns-clause-least
returns-clause-least g c =
    let e = c.args.encoder.now in
    let packets : c.packets-packets.result ≡ e.header.table.packets = c.packets-packets.ensures.value
    ∙ ap (λ (h : Header). h.table.packets) c.header.ensures.value in
    none_unlike g.F.Field.coding (kept_set c.args.receiver.now) e c.loop-first.first c.loop-first.invariant.none
    (omega (arith, packets, c.loop-first.invariant.within))
