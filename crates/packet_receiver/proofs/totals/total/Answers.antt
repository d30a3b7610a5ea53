use Rattle.std.proofs.Common.{ap, ◌∙◌, arith}
use Rattle.packet_receiver.specs.inside.Counted.{counted}
use Rattle.packet_receiver.proofs.Sums.{sum_more}
use Rattle.packet_receiver.proofs.totals.total.Goals as goal

pub overflow_add-total : goal.overflow_add-total
overflow_add-total g c =
    let one = counted c.args.what in
    omega (
      arith,
      (sum_more (λ s. one (g.G.HasPackets.kept s)) c.loop-open.total c.count_one-total.result _
          c.loop-open.open-iterator c.in-Some.open.now c.next.new.self c.in-Some.ensures.steps
          (c.count_one-total.ensures ∙ ap one c.packets.ensures) c.loop-open.invariant).1,
    )

pub loop-open-preserved : goal.loop-open-preserved
loop-open-preserved g c =
    let one = counted c.args.what in
    (sum_more (λ s. one (g.G.HasPackets.kept s)) c.loop-open.total c.count_one-total.result _ c.loop-open.open-iterator
    c.in-Some.open.now c.next.new.self c.in-Some.ensures.steps
    (c.count_one-total.ensures ∙ ap one c.packets.ensures) c.loop-open.invariant).0
