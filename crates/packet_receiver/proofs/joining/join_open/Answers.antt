use Rattle.std.proofs.Common.{ap, ◌∙◌, arith}
use Rattle.packet_frame.specs.declared.frame.Header.{Header}
use Rattle.packet_receiver.proofs.Filling.{fillable_to, filled_more, filled_end}
use Rattle.packet_receiver.proofs.joining.join_open.Goals as goal

pub join_number-requires-clause-ready : goal.join_number-requires-clause-ready
join_number-requires-clause-ready g c =
    let F = g.F.Field in
    fillable_to F.is_element F.coding c.args.mine.now c.args.theirs.now c.requires.ready c.loop-number.number
    c.args.steps.now c.loop-number.mine c.loop-number.steps c.loop-number.invariant.filled

pub join_number-requires-clause-number : goal.join_number-requires-clause-number
join_number-requires-clause-number g c =
    let same = ap (λ (h : Header). h.table.packets) (c.loop-number.invariant.filled.header ∙ c.requires.ready.header) in
    let all = ap (λ (h : Header). h.table.packets) c.header.ensures.value in
    omega (arith, c.loop-number-test.true, c.packets-number-end.ensures.value, same, all)

pub loop-number-preserved : goal.loop-number-preserved
loop-number-preserved g c =
    let F = g.F.Field in
    let all = ap (λ (h : Header). h.table.packets) c.header.ensures.value in
    let same = ap (λ (h : Header). h.table.packets) c.requires.ready.header in
    record {
      few = omega (arith, c.loop-number-test.true, c.packets-number-end.ensures.value, all);
      filled =
          filled_more F.is_element F.coding c.args.mine.now c.args.theirs.now c.requires.ready c.loop-number.number
          c.args.steps.now c.loop-number.mine c.loop-number.steps c.loop-number.invariant.filled
          c.join_number.new.mine c.join_number.new.steps
          (omega (arith, c.loop-number-test.true, c.packets-number-end.ensures.value, all, same))
          c.join_number.ensures.packets c.join_number.ensures.held c.join_number.ensures.cost;
    }

pub returns : goal.returns
returns g c =
    let F = g.F.Field in
    let all = ap (λ (h : Header). h.table.packets) c.header.ensures.value in
    filled_end F.is_element F.coding c.args.mine.now c.args.theirs.now c.requires.ready c.header.ensures.bounds
    c.loop-number.number c.args.steps.now c.loop-number.mine c.loop-number.steps
    (omega (arith, c.loop-number-test.false, c.loop-number.invariant.few, c.packets-number-end.ensures.value, all))
    c.loop-number.invariant.filled
